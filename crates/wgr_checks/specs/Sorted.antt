-- The orders in which rows are read.
use Rattle.std.specs.Prelude.{◌≡◌, ◌<◌, ℕ, List, true, nat_eq}
use Rattle.std.specs.List.{AllByRecursion, list_any}
use Rattle.std.specs.Ordering.{nat_cmp, ordering_then}
use Rattle.std.specs.declared.cmp.Ordering.{Ordering}
use Rattle.std.specs.Cmp.Lexicographic.{slice_cmp}
use Rattle.wgr_text.specs.Prefix.{PrefixValue, IsAddr, IsPrefix, rank}
use Rattle.wgr_model.specs.Register.{Bytes}
use Rattle.wgr_model.specs.Rows.{last_of, family_number}

-- by tenant, then by name
abbrev pub slot_cmp : ℕ × Bytes → ℕ × Bytes → Ordering
slot_cmp p q = ordering_then (nat_cmp p.0 q.0) (slice_cmp nat_cmp p.1 q.1)

-- by host, then by port
abbrev pub endpoint_cmp : Bytes × ℕ → Bytes × ℕ → Ordering
endpoint_cmp p q = ordering_then (slice_cmp nat_cmp p.0 q.0) (nat_cmp p.1 q.1)

-- by family, then by the first address
abbrev pub pool_cmp : PrefixValue → PrefixValue → Ordering
pool_cmp p q = ordering_then (nat_cmp (family_number p.address.family) (family_number q.address.family)) (nat_cmp p.address.number q.address.number)

-- each of the owners is one of the ids
abbrev pub AreAmong : List ℕ → List ℕ → Type 0
AreAmong owners ids = AllByRecursion (λ owner. list_any (λ id. nat_eq owner id) ids ≡ true) owners

-- a pool ends before another begins
pub record IsBelow (p q : PrefixValue) : Type 0 where
  pub first : IsPrefix p × IsAddr p.address
  pub next : IsPrefix q × IsAddr q.address
  pub below : rank (last_of p) < rank q.address
