-- What is shown of a register.
use Rattle.std.specs.Prelude.{◌≡◌, Bool, true, nat_eq, List, [], ◌∷◌, Option, Some, None}
use Rattle.std.specs.List.{filter, list_any}
use Rattle.std.specs.List.Sorted.{IsPermutation, IsSortedByKey}
use Rattle.std.specs.Ordering.{nat_cmp}
use Rattle.std.specs.Cmp.Lexicographic.{slice_cmp}
use Rattle.wgr_model.specs.Register.{Bytes, Tenant, is_same}
use Rattle.wgr_orders.specs.declared.census.Census.{Census}
use Rattle.wgr_orders.specs.declared.census.Counted.{Counted}
use Rattle.wgr_orders.specs.declared.census.Granted.{Granted}

-- whether a tenant is asked for: each is, or those of a name are
abbrev pub is_asked : Option Bytes → Tenant → Bool
is_asked None t = true
is_asked (Some name) t = is_same name t.name

abbrev pub asked_tenants : Option Bytes → List Tenant → List Tenant
asked_tenants name tenants = filter (is_asked name) tenants

-- whether there is what is asked for: all tenants, or one of the name
abbrev pub is_there : Option Bytes → List Tenant → Bool
is_there None tenants = true
is_there (Some name) tenants = list_any (λ t. is_same name t.name) tenants

-- the same elements in the byte order of a key
pub record IsSortedOf {X : Type 0} (key : X → Bytes) (xs ys : List X) : Type 0 where
  pub same : IsPermutation xs ys
  pub sorted : IsSortedByKey key (slice_cmp nat_cmp) ys

-- what is shown of a tenant
pub record ShownTenant : Type 0 where
  pub name : Bytes
  pub tokens : List Granted
  pub networks : List Counted

-- its name, its tokens by digest and its networks by name
pub record ShowsTenant (c : Census) (t : Tenant) (s : ShownTenant) : Type 0 where
  pub name : s.name ≡ t.name
  pub tokens : IsSortedOf (λ x. x.token.digest) (filter (λ x. nat_eq x.token.tenant t.id) c.tokens.items) s.tokens
  pub networks : IsSortedOf (λ n. n.network_entry.name) (filter (λ n. nat_eq n.network_entry.tenant t.id) c.networks.items) s.networks

-- that for each of the tenants
abbrev pub ShowsEach : Census → List Tenant → List ShownTenant → Type 0
ShowsEach c [] [] = Unit {0}
ShowsEach c (t ∷ ts) (s ∷ ss) = ShowsTenant c t s × ShowsEach c ts ss
ShowsEach c [] (s ∷ ss) = ⊥
ShowsEach c (t ∷ ts) [] = ⊥

-- the tenants that are asked for, by name
pub record IsListing (c : Census) (name : Option Bytes) (shown : List ShownTenant) : Type 0 where
  pub tenants : List Tenant
  pub asked_tenants : IsSortedOf (λ t. t.name) (asked_tenants name c.tenants.items) tenants
  pub each : ShowsEach c tenants shown
