-- When a write of an order fails: the database refuses one of its statements.
use Rattle.std.specs.Prelude.{ℕ, [], ◌∷◌, codes}
use Rattle.sqlite_value.specs.Order.{Row}
use Rattle.sqlite.specs.declared.types.Value.TheVariants.{Text, Blob}
use Rattle.wgr_model.specs.declared.right.Right.{Right}
use Rattle.wgr_model.specs.declared.right.Right.TheVariants.{Full, Read}
use Rattle.wgr_model.specs.Register.{Bytes, Tenant, Token}
use Rattle.wgr_model.specs.Rows.{NetworkRow, Tables, family_number}
use Rattle.wgr_columns.specs.Decode.{bytes_of}
use Rattle.wgr_tables.specs.Stops.{IsStatementRefused, OneOfTwo, number}
use Rattle.wgr_tables.specs.Writes.{NetworkGained, NetworkLost, Replaced, TenantGained, TokenGained, TokenLost, Written}
use Rattle.wgr_entries.specs.OrderSteps.{NetworkAllowedGoes, NetworkPeersGo}
use Rattle.wgr_entries.specs.Readers.{ReaderComes, ReaderGoes, ReaderStays, ReaderStaysOut}

abbrev pub TenantStaysOut : Tenant → Tables → Type 0
TenantStaysOut x = IsStatementRefused (codes "INSERT INTO tenant (id, name) VALUES (?1, ?2)") (number x.id ∷ Text x.name ∷ [])

abbrev pub TokenRowStaysOut : Token → Tables → Type 0
TokenRowStaysOut x = IsStatementRefused (codes "INSERT INTO token (digest, tenant) VALUES (?1, ?2)") (Blob x.digest ∷ number x.tenant ∷ [])

abbrev pub TokenRowStays : Bytes → Tables → Type 0
TokenRowStays digest = IsStatementRefused (codes "DELETE FROM token WHERE digest = ?1") (Blob digest ∷ [])

-- the row among those that only read comes first, and goes first
abbrev pub TokenStaysOut : Token → Right → Tables → Type 0
TokenStaysOut x Full = TokenRowStaysOut x
TokenStaysOut x Read = OneOfTwo (ReaderStaysOut x.digest) (ReaderComes x.digest) (TokenRowStaysOut x)

abbrev pub TokenStays : Bytes → Tables → Type 0
TokenStays digest = OneOfTwo (ReaderStays digest) (ReaderGoes digest) (TokenRowStays digest)

-- the values of a new network's row, except its next number, which is 1
abbrev pub network_params : NetworkRow → Row
network_params w = number w.id ∷ number w.tenant ∷ Text w.name ∷ number (family_number w.pool.address.family) ∷ Blob (bytes_of w.pool.address.number) ∷ number w.pool.length ∷ Text w.host ∷ number w.port ∷ Blob w.server.0 ∷ number w.capacity ∷ []

abbrev pub NetworkStaysOut : NetworkRow → Tables → Type 0
NetworkStaysOut w = IsStatementRefused (codes "INSERT INTO network (id, tenant, name, family, lo, length, host, port, server, capacity, next) VALUES (?1, ?2, ?3, ?4, ?5, ?6, ?7, ?8, ?9, ?10, 1)") (network_params w)

abbrev pub NetworkAllowedStays : ℕ → Tables → Type 0
NetworkAllowedStays network = IsStatementRefused (codes "DELETE FROM allowed WHERE network = ?1") (number network ∷ [])

abbrev pub PeersStay : ℕ → Tables → Type 0
PeersStay network = IsStatementRefused (codes "DELETE FROM peer WHERE network = ?1") (number network ∷ [])

abbrev pub NetworkRowStays : ℕ → Tables → Type 0
NetworkRowStays network = IsStatementRefused (codes "DELETE FROM network WHERE id = ?1") (number network ∷ [])

abbrev pub NetworkStays : ℕ → Tables → Type 0
NetworkStays network = OneOfTwo (NetworkAllowedStays network) (NetworkAllowedGoes network) (OneOfTwo (PeersStay network) (NetworkPeersGo network) (NetworkRowStays network))

-- a write of an order fails on these rows
abbrev pub WriteStops : Written → Tables → Type 0
WriteStops (Replaced network value) t = ⊥
WriteStops (TenantGained x) t = TenantStaysOut x t
WriteStops (TokenGained x right) t = TokenStaysOut x right t
WriteStops (TokenLost digest) t = TokenStays digest t
WriteStops (NetworkGained w) t = NetworkStaysOut w t
WriteStops (NetworkLost network) t = NetworkStays network t
