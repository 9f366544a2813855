-- What queries by a key return, and what is counted.
use Rattle.std.specs.Prelude.{◌≡◌, ℕ, ⊤, ◌&&◌, List, [], ◌∷◌, filter, length, map, nat_eq, Option, Some, None}
use Rattle.std.specs.List.Sorted.{IsPermutation}
use Rattle.sqlite_value.specs.Order.{Row}
use Rattle.wgr_model.specs.Consistent.{same_slot}
use Rattle.wgr_model.specs.Register.{Bytes, NetworkEntry, is_same}
use Rattle.wgr_model.specs.Rows.{NetworkRow, Tables}
use Rattle.wgr_model.specs.Steps.{Settings, new_network}
use Rattle.wgr_columns.specs.Decode.{number_at, tenant_in, token_in, network_in}
use Rattle.wgr_columns.specs.Fields.{IsWordAt}

-- these are the rows of the tokens of the digest; of the tenants of the name; of a tenant's networks of the name
abbrev pub ShowToken : Bytes → Tables → List Row → Type 0
ShowToken digest t rows = IsPermutation (filter (λ x. is_same digest x.digest) t.tokens) (map token_in rows)

abbrev pub ShowTenant : Bytes → Tables → List Row → Type 0
ShowTenant name t rows = IsPermutation (filter (λ x. is_same name x.name) t.tenants) (map tenant_in rows)

abbrev pub ShowSlot : ℕ × Bytes → Tables → List Row → Type 0
ShowSlot slot t rows = IsPermutation (filter (λ w. same_slot slot (w.tenant, w.name)) t.networks) (map network_in rows)

-- the rows are those of the networks of the tenant of this id
abbrev pub ShowNetworksOf : ℕ → Tables → List Row → Type 0
ShowNetworksOf tenant t rows = IsPermutation (filter (λ w. nat_eq w.tenant tenant) t.networks) (map network_in rows)

-- how many peers and how many routes the rows of the network of this id have
abbrev pub peer_count : Tables → ℕ → ℕ
peer_count t network = length (filter (λ p. nat_eq p.network network) t.peers)

abbrev pub route_count : Tables → ℕ → ℕ
route_count t network = length (filter (λ a. a.is_route && nat_eq a.network network) t.allowed)

-- the number at this place of the one row, or none where there is no row
abbrev pub IsNumberIn : List Row → ℕ → Option ℕ → Type 0
IsNumberIn rows at (Some number) = (row : Row) × (rows ≡ row ∷ []) × (number_at row at ≡ number)
IsNumberIn rows at None = rows ≡ []

-- no row, or one with a number below 2 ^ 32 at this place
abbrev pub HasWordAt : List Row → ℕ → Type 0
HasWordAt [] at = ⊤
HasWordAt (row ∷ []) at = IsWordAt row at
HasWordAt (row ∷ next ∷ more) at = ⊥

-- the network has the name, and is of the tenant of this id
abbrev pub IsSlotOf : NetworkRow → ℕ → Bytes → Type 0
IsSlotOf w tenant name = (w.tenant ≡ tenant) × (w.name ≡ name)

-- the settings of the network of a row
abbrev pub settings_of : NetworkRow → Settings
settings_of w = record { pool = w.pool; host = w.host; port = w.port; server = w.server; capacity = w.capacity }

-- the network of a row as it was added
abbrev pub settled : NetworkRow → NetworkEntry
settled w = record { id = w.id; tenant = w.tenant; name = w.name; network = new_network (settings_of w) }
