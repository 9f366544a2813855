-- Rows as the register writes them, except rowids that are no column's.
use Rattle.std.specs.Prelude.{◌≡◌, ◌+◌, ◌<◌, ℕ, pos, Bool, true, false, List, [], ◌∷◌, map, Option, Some, None}
use Rattle.std.specs.List.Sorted.{IsSorted}
use Rattle.std.specs.Ordering.{nat_cmp}
use Rattle.sqlite_value.specs.Order.{Row, column}
use Rattle.sqlite.specs.declared.types.Value.TheVariants.{Null, Int, Text, Blob}
use Rattle.wgr_text.specs.Prefix.{AddrValue, PrefixValue, IsAddr, IsPrefix}
use Rattle.wgr_pool.specs.Pool.{IsPool}
use Rattle.wgr_peers.specs.declared.peer.Peer.{Peer}
use Rattle.wgr_peers.specs.declared.peer.Status.{Status}
use Rattle.wgr_peers.specs.Host.{IsHost}
use Rattle.wgr_peers.specs.Limits.{IsCapacity, IsPort}
use Rattle.wgr_core.specs.Forms.{IsPeerFormed, IsKey}
use Rattle.wgr_model.specs.Consistent.{IsName}
use Rattle.wgr_model.specs.Register.{Tenant}
use Rattle.wgr_model.specs.Rows.{AllowedRow, NetworkRow, PeerRow, family_number}
use Rattle.wgr_columns.specs.declared.columns.peer.TheConstants as peer
use Rattle.wgr_columns.specs.Decode.{address_kind, bytes_of, route_kind}

-- the three places of a status
abbrev pub status_values : Option Status → Row
status_values None = Null ∷ Null ∷ Null ∷ []
status_values (Some s) = Int (pos s.handshake) ∷ Int (pos s.received) ∷ Int (pos s.sent) ∷ []

abbrev pub stored_peer : PeerRow → Row
stored_peer p = Int (pos p.id) ∷ Null ∷ Int (pos p.network) ∷ Blob p.key.0 ∷ Text p.label ∷ Int (pos p.until) ∷ Int (pos p.keepalive) ∷ status_values p.status

abbrev pub kind_of : Bool → List ℕ
kind_of true = route_kind
kind_of false = address_kind

abbrev pub stored_allowed : AllowedRow → Row
stored_allowed a = Null ∷ Int (pos a.network) ∷ Int (pos (family_number a.prefix.address.family)) ∷ Blob (bytes_of a.prefix.address.number) ∷ Int (pos a.prefix.length) ∷ Blob (bytes_of a.last.number) ∷ Int (pos a.peer) ∷ Text (kind_of a.is_route) ∷ []

abbrev pub stored_network : NetworkRow → Row
stored_network w = Int (pos w.id) ∷ Null ∷ Int (pos w.tenant) ∷ Text w.name ∷ Int (pos (family_number w.pool.address.family)) ∷ Blob (bytes_of w.pool.address.number) ∷ Int (pos w.pool.length) ∷ Text w.host ∷ Int (pos w.port) ∷ Blob w.server.0 ∷ Int (pos w.capacity) ∷ Int (pos w.next) ∷ []

abbrev pub stored_tenant : Tenant → Row
stored_tenant x = Int (pos x.id) ∷ Null ∷ Text x.name ∷ []

-- the family and the bytes of the address are at these places
abbrev pub HasAddress : Row → ℕ → ℕ → AddrValue → Type 0
HasAddress row family at a = (column row family ≡ Int (pos (family_number a.family))) × (column row at ≡ Blob (bytes_of a.number))

-- the family, the first address and the length of the prefix are at this place and the next two
abbrev pub HasPrefix : Row → ℕ → PrefixValue → Type 0
HasPrefix row at p = HasAddress row at (at + 1) p.address × (column row (at + 2) ≡ Int (pos p.length))

-- a status, or none, is at its three places
abbrev pub HasStatus : Row → Option Status → Type 0
HasStatus row None = column row peer.HANDSHAKE ≡ Null
HasStatus row (Some s) = (column row peer.HANDSHAKE ≡ Int (pos s.handshake)) × (column row peer.RECEIVED ≡ Int (pos s.received)) × (column row peer.SENT ≡ Int (pos s.sent))

-- the rows are those that store what is read from them
abbrev pub AreStored : {T : Type 0} → (T → Row) → (Row → T) → List Row → Type 0
AreStored stored read rows = rows ≡ map stored (map read rows)

-- what is read from them is in ascending order of its keys
abbrev pub AreRising : {T : Type 0} → (T → ℕ) → (Row → T) → List Row → Type 0
AreRising key read rows = IsSorted nat_cmp (map key (map read rows))

-- ---- what is stored in rows

pub record IsKeptPeer (p : Peer) : Type 0 where
  pub number : p.number < 4294967296
  pub forms : IsPeerFormed p
  pub address : IsAddr p.address

pub record IsKeptRoute (r : PrefixValue × ℕ) : Type 0 where
  pub peer : r.1 < 4294967296
  pub prefix : IsAddr r.0.address × IsPrefix r.0

pub record AreSettings (w : NetworkRow) : Type 0 where
  pub pool : IsPool w.pool
  pub host : IsHost w.host
  pub port : IsPort w.port
  pub server : IsKey w.server
  pub capacity : IsCapacity w.capacity
  pub next : w.next < 4294967296

-- with an id and a tenant's id below 2 ^ 32, and a name
pub record IsKeptNetwork (w : NetworkRow) : Type 0 where
  pub settings : AreSettings w
  pub id : w.id < 4294967296
  pub tenant : w.tenant < 4294967296
  pub name : IsName w.name
