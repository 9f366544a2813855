-- Rows of networks.
use Rattle.std.specs.Prelude.{◌≤◌, ℕ, List, [], ◌∷◌, length, map, nat_eq}
use Rattle.std.specs.List.{AllByRecursion, IsDistinct}
use Rattle.sqlite_value.specs.Order.{Row, column}
use Rattle.sqlite.specs.declared.types.Value.TheVariants.{Null}
use Rattle.wgr_model.specs.Register.{Bytes}
use Rattle.wgr_model.specs.Consistent.{overlaps, same_endpoint, same_slot, max_entries}
use Rattle.wgr_columns.specs.declared.columns.network.TheConstants as network
use Rattle.wgr_columns.specs.Decode.{number_at, bytes_at, prefix_at}
use Rattle.wgr_checks.specs.Sorted.{AreAmong}
use Rattle.wgr_columns.specs.Fields.{IsIdAt, IsNameAt, IsPoolAt, IsHostAt, IsPortAt, IsKeyAt, IsCapacityAt, IsWordAt}
use Rattle.wgr_checks.specs.TokenRows.{HaveOwners}

-- each value is at its place in a network's row, and is of its form
pub record IsNetworkRow (row : Row) : Type 0 where
  pub id : IsIdAt row network.ID
  pub tenant : IsIdAt row network.TENANT
  pub name : IsNameAt row network.NAME
  pub pool : IsPoolAt row network.FAMILY
  pub host : IsHostAt row network.HOST
  pub port : IsPortAt row network.PORT
  pub server : IsKeyAt row network.SERVER
  pub capacity : IsCapacityAt row network.CAPACITY
  pub next : IsWordAt row network.NEXT

-- the tenant's id and the network's name
abbrev pub slot_at : Row → ℕ × Bytes
slot_at row = (number_at row network.TENANT, bytes_at row network.NAME)

-- the server's host and port
abbrev pub endpoint_at : Row → Bytes × ℕ
endpoint_at row = (bytes_at row network.HOST, number_at row network.PORT)

-- the rows are those of networks of the tenants that have these ids; no two networks share an id, an
-- address of their pools or an endpoint, and no tenant has two networks of the same name
pub record AreGoodNetworks (tenants : List ℕ) (rows : List Row) : Type 0 where
  pub few : length rows ≤ max_entries
  pub each : AllByRecursion IsNetworkRow rows
  pub ids : IsDistinct nat_eq (map (λ r. number_at r network.ID) rows)
  pub slots : IsDistinct same_slot (map slot_at rows)
  pub endpoints : IsDistinct same_endpoint (map endpoint_at rows)
  pub pools : IsDistinct overlaps (map (λ r. prefix_at r network.FAMILY) rows)
  pub owners : AreAmong (map (λ r. number_at r network.TENANT) rows) tenants

-- ---- the same, part by part

abbrev pub IsSlotRow : Row → Type 0
IsSlotRow row = IsIdAt row network.TENANT × IsNameAt row network.NAME

abbrev pub IsEndpointRow : Row → Type 0
IsEndpointRow row = IsHostAt row network.HOST × IsPortAt row network.PORT

abbrev pub HasSettingColumns : Row → Type 0
HasSettingColumns row = IsKeyAt row network.SERVER × IsCapacityAt row network.CAPACITY × IsWordAt row network.NEXT

pub record HaveOwnSlots (rows : List Row) : Type 0 where
  pub each : AllByRecursion IsSlotRow rows
  pub slots : IsDistinct same_slot (map slot_at rows)

pub record HaveOwnEndpoints (rows : List Row) : Type 0 where
  pub each : AllByRecursion IsEndpointRow rows
  pub endpoints : IsDistinct same_endpoint (map endpoint_at rows)

pub record HaveOwnPools (rows : List Row) : Type 0 where
  pub each : AllByRecursion (λ r. IsPoolAt r network.FAMILY) rows
  pub pools : IsDistinct overlaps (map (λ r. prefix_at r network.FAMILY) rows)

abbrev pub AreNetworkRowsApart : List Row → Type 0
AreNetworkRowsApart rows = HaveOwnSlots rows × HaveOwnEndpoints rows × HaveOwnPools rows

-- what `AreGoodNetworks` requires, except for ids
pub record AreFit (tenants : List ℕ) (rows : List Row) : Type 0 where
  pub few : length rows ≤ max_entries
  pub settings : AllByRecursion HasSettingColumns rows
  pub apart : AreNetworkRowsApart rows
  pub owned : HaveOwners tenants rows

-- ---- what the query returns

-- the values of a network, each at its place
abbrev pub network_values : Row → Row
network_values row = column row network.ID ∷ Null ∷ column row network.TENANT ∷ column row network.NAME ∷ column row network.FAMILY ∷ column row network.LO ∷ column row network.LENGTH ∷ column row network.HOST ∷ column row network.PORT ∷ column row network.SERVER ∷ column row network.CAPACITY ∷ column row network.NEXT ∷ []
