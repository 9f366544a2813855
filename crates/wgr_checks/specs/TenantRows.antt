-- Rows of tenants.
use Rattle.std.specs.Prelude.{◌≡◌, ℕ, List, [], ◌∷◌, map, nat_eq}
use Rattle.std.specs.List.{AllByRecursion, IsDistinct}
use Rattle.std.specs.List.Sorted.{IsPermutation, IsSorted}
use Rattle.std.specs.Ordering.{nat_cmp}
use Rattle.sqlite_value.specs.Order.{Row, column, value_cmp}
use Rattle.sqlite.specs.declared.types.Value.TheVariants.{Null}
use Rattle.wgr_model.specs.Register.{is_same}
use Rattle.wgr_columns.specs.declared.columns.tenant.TheConstants as tenant
use Rattle.wgr_columns.specs.Decode.{number_at, bytes_at}
use Rattle.wgr_columns.specs.Fields.{IsIdAt, IsNameAt}

abbrev pub IsTenantRow : Row → Type 0
IsTenantRow row = IsIdAt row tenant.ID × IsNameAt row tenant.NAME

-- the rows are those of tenants, no two of which share an id
pub record HaveOwnIds (rows : List Row) : Type 0 where
  pub each : AllByRecursion IsTenantRow rows
  pub ids : IsDistinct nat_eq (map (λ r. number_at r tenant.ID) rows)

-- they have names, no two of which are equal
pub record HaveOwnNames (rows : List Row) : Type 0 where
  pub each : AllByRecursion (λ r. IsNameAt r tenant.NAME) rows
  pub names : IsDistinct is_same (map (λ r. bytes_at r tenant.NAME) rows)

abbrev pub AreGoodTenants : List Row → Type 0
AreGoodTenants rows = HaveOwnIds rows × HaveOwnNames rows

-- the ids in the rows, ascending
pub record AreIdsOf (rows : List Row) (ids : List ℕ) : Type 0 where
  pub same : IsPermutation (map (λ r. number_at r tenant.ID) rows) ids
  pub sorted : IsSorted nat_cmp ids

-- ---- what queries return

-- the values of a tenant, each at its place; its name alone
abbrev pub tenant_values : Row → Row
tenant_values row = column row tenant.ID ∷ Null ∷ column row tenant.NAME ∷ []

abbrev pub name_values : Row → Row
name_values row = Null ∷ Null ∷ column row tenant.NAME ∷ []

-- values of all rows of a table, sorted by those at this place
pub record ListsSorted (values : Row → Row) (at : ℕ) (table rows : List Row) : Type 0 where
  pub chosen : List Row
  pub same : IsPermutation table chosen
  pub shown : rows ≡ map values chosen
  pub sorted : IsSorted (λ a b. value_cmp (column a at) (column b at)) chosen
