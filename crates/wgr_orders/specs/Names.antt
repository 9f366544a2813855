-- The names of tenants by their ids.
use Rattle.std.specs.Prelude.{◌≡◌, ℕ, List, [], MatchOption}
use Rattle.std.specs.Borrow.{Bor}
use Rattle.std.specs.BTreeMap.{BTreeMap, get}
use Rattle.std.specs.Ordering.{nat_cmp}
use Rattle.wgr_model.specs.Register.{Bytes, Tenant}
use Rattle.wgr_model.specs.Steps.{name_of}

-- each id has the name of the first tenant of this id
abbrev pub NamesOf : List Tenant → BTreeMap ℕ (Bor Bytes) → Type 0
NamesOf ts names = (id : ℕ) → MatchOption (get nat_cmp names id) (name_of ts id ≡ []) (λ name. name.now ≡ name_of ts id)
