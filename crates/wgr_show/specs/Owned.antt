-- The order of what tenants own.
use Rattle.std.specs.Prelude.{ℕ, List}
use Rattle.std.specs.Ordering.{nat_cmp, ordering_then}
use Rattle.std.specs.declared.cmp.Ordering.{Ordering}
use Rattle.std.specs.Cmp.Lexicographic.{slice_cmp}
use Rattle.wgr_orders.specs.declared.census.Counted.{Counted}
use Rattle.wgr_orders.specs.declared.census.Granted.{Granted}

-- by owner, then by label
abbrev pub owned_cmp : {X : Type 0} → (X → ℕ) → (X → List ℕ) → X → X → Ordering
owned_cmp owner label x y = ordering_then (nat_cmp (owner x) (owner y)) (slice_cmp nat_cmp (label x) (label y))

abbrev pub token_cmp : Granted → Granted → Ordering
token_cmp = owned_cmp (λ t. t.token.tenant) (λ t. t.token.digest)

abbrev pub network_cmp : Counted → Counted → Ordering
network_cmp = owned_cmp (λ n. n.network_entry.tenant) (λ n. n.network_entry.name)
