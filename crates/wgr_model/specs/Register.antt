-- A register of the networks of many tenants, and what one tenant sees of it.
use Rattle.std.specs.Prelude.{ℕ, Bool, if◌then◌else◌, nat_eq, List, [], ◌∷◌, map, Option, Some, None}
use Rattle.std.specs.List.{filter, list_any}
use Rattle.std.specs.List.Sorted.{IsPermutation}
use Rattle.std.specs.Ordering.{nat_cmp, eq_by_cmp}
use Rattle.std.specs.Cmp.Lexicographic.{slice_cmp}
use Rattle.std.specs.FinMap.{FinMap}
use Rattle.std.specs.FinMap as map_
use Rattle.wgr_core.specs.Network.{NetworkValue}
use Rattle.wgr_model.specs.declared.right.Right.{Right}
use Rattle.wgr_model.specs.declared.right.Right.TheVariants.{Full, Read}

abbrev pub Bytes : Type 0
Bytes = List ℕ

-- whether two texts are byte for byte the same
unfoldable pub is_same : Bytes → Bytes → Bool
is_same x y = eq_by_cmp (slice_cmp nat_cmp) x y

-- ---- the register

pub record Tenant : Type 0 where
  pub id : ℕ
  pub name : Bytes

-- the digest of a token, and the id of the tenant that the token names
pub record Token : Type 0 where
  pub digest : Bytes
  pub tenant : ℕ

-- a network, with its own id, its tenant's id and its name
pub record NetworkEntry : Type 0 where
  pub id : ℕ
  pub tenant : ℕ
  pub name : Bytes
  pub network : NetworkValue

-- `readers` has the digests of the tokens that only read
pub record Register : Type 0 where
  pub tenants : List Tenant
  pub tokens : List Token
  pub readers : List Bytes
  pub networks : List NetworkEntry

abbrev pub empty_register : Register
empty_register = record { tenants = []; tokens = []; readers = []; networks = [] }

-- the same entries, in whatever order
pub record IsSame (r s : Register) : Type 0 where
  pub tenants : IsPermutation r.tenants s.tenants
  pub tokens : IsPermutation r.tokens s.tokens
  pub readers : IsPermutation r.readers s.readers
  pub networks : IsPermutation r.networks s.networks

-- the right of the token of this digest
abbrev pub right_of : List Bytes → Bytes → Right
right_of readers digest = if list_any (is_same digest) readers then Read else Full

-- ---- what a tenant sees: the right of each of its tokens by digest, and its networks by name

pub record View : Type 0 where
  pub rights : FinMap (slice_cmp nat_cmp) Right
  pub networks : FinMap (slice_cmp nat_cmp) NetworkValue

abbrev pub empty_view : View
empty_view = record { rights = map_.empty; networks = map_.empty }

-- the id of the tenant of this name
abbrev pub id_of : List Tenant → Bytes → Option ℕ
id_of [] name = None
id_of (t ∷ ts) name = if is_same name t.name then Some t.id else id_of ts name

abbrev pub digests_of : List Token → ℕ → List Bytes
digests_of ts id = map (λ t. t.digest) (filter (λ t. nat_eq t.tenant id) ts)

abbrev pub rights_of : List Bytes → List Token → ℕ → List (Bytes × Right)
rights_of readers ts id = map (λ d. (d, right_of readers d)) (digests_of ts id)

abbrev pub networks_of : List NetworkEntry → ℕ → List (Bytes × NetworkValue)
networks_of hs id = map (λ h. (h.name, h.network)) (filter (λ h. nat_eq h.tenant id) hs)

-- what the tenant of this id sees
abbrev pub view_at : Register → ℕ → View
view_at r id = record { rights = map_.from_entries (rights_of r.readers r.tokens id); networks = map_.from_entries (networks_of r.networks id) }

abbrev pub view_of : Register → Option ℕ → View
view_of r None = empty_view
view_of r (Some id) = view_at r id

-- what the tenant of this name sees: nothing where there is no such tenant
abbrev pub tenant_view : Register → Bytes → View
tenant_view r name = view_of r (id_of r.tenants name)
