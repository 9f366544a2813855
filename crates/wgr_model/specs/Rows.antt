-- The register as the rows of its tables.
use Rattle.std.specs.Prelude.{◌≡◌, ℕ, ◌+◌, ◌-◌, ◌*◌, Bool, true, false, not, ◌&&◌, ◌⊎◌, ◌↔◌, if◌then◌else◌, nat_eq, List, [], ◌∷◌, ◌++◌, map, Option, None}
use Rattle.std.specs.List.{filter, flat_map, IsDistinct}
use Rattle.std.specs.List.Sorted.{IsPermutation}
use Rattle.std.specs.Ordering.{nat_cmp, ordering_then}
use Rattle.std.specs.declared.cmp.Ordering.{Ordering}
use Rattle.std.specs.FinMap as map_
use Rattle.wgr_text.specs.declared.addr.Family.{Family}
use Rattle.wgr_text.specs.declared.addr.Family.TheVariants.{V4, V6}
use Rattle.wgr_text.specs.declared.key.Key.{Key}
use Rattle.wgr_text.specs.Prefix.{AddrValue, PrefixValue, block}
use Rattle.wgr_pool.specs.PrefixTests.{full}
use Rattle.wgr_peers.specs.declared.peer.Peer.{Peer}
use Rattle.wgr_peers.specs.declared.peer.Status.{Status}
use Rattle.wgr_peers.specs.Routes.{Routes}
use Rattle.wgr_core.specs.Network.{NetworkValue}
use Rattle.wgr_model.specs.Register.{Bytes, Tenant, Token, NetworkEntry, Register}
use Rattle.wgr_model.specs.Laws.{Has}

-- ---- the rows; those of tenants and of tokens are `Tenant` and `Token`

pub record NetworkRow : Type 0 where
  pub id : ℕ
  pub tenant : ℕ
  pub name : Bytes
  pub pool : PrefixValue
  pub host : Bytes
  pub port : ℕ
  pub server : Key
  pub capacity : ℕ
  pub next : ℕ

-- a peer of the network of this id, without its address
pub record PeerRow : Type 0 where
  pub id : ℕ
  pub network : ℕ
  pub key : Key
  pub label : Bytes
  pub until : ℕ
  pub keepalive : ℕ
  pub status : Option Status

-- a prefix that leads to the peer of a row's id, with its last address: the peer's own address at
-- full length, or a route
pub record AllowedRow : Type 0 where
  pub network : ℕ
  pub prefix : PrefixValue
  pub last : AddrValue
  pub peer : ℕ
  pub is_route : Bool

-- the second pool of the network of this id
pub record SecondRow : Type 0 where
  pub network : ℕ
  pub pool : PrefixValue

-- how the tables are laid out
pub record MetaRow : Type 0 where
  pub version : ℕ

pub record Tables : Type 0 where
  pub meta : List MetaRow
  pub tenants : List Tenant
  pub tokens : List Token
  pub networks : List NetworkRow
  pub seconds : List SecondRow
  pub readers : List Bytes
  pub peers : List PeerRow
  pub allowed : List AllowedRow

-- how many ids of peers belong to a network
abbrev pub ids_per_network : ℕ
ids_per_network = 1048576

-- a peer's id has its network's id and its number, which is below 2 ^ 20
abbrev pub peer_id : ℕ → ℕ → ℕ
peer_id network number = network * ids_per_network + number

abbrev pub number_in : ℕ → ℕ → ℕ
number_in network id = id - network * ids_per_network

-- ---- keys

abbrev pub family_number : Family → ℕ
family_number V4 = 4
family_number V6 = 6

abbrev pub prefix_key : PrefixValue → ℕ × ℕ × ℕ
prefix_key p = (family_number p.address.family, p.address.number, p.length)

-- the order of prefixes: by family, then by address, then by length
abbrev pub prefix_cmp : ℕ × ℕ × ℕ → ℕ × ℕ × ℕ → Ordering
prefix_cmp p q = ordering_then (nat_cmp p.0 q.0) (ordering_then (nat_cmp p.1 q.1) (nat_cmp p.2 q.2))

abbrev pub same_pair : ℕ × ℕ → ℕ × ℕ → Bool
same_pair p q = nat_eq p.0 q.0 && nat_eq p.1 q.1

abbrev pub same_allowed : ℕ × ℕ × ℕ × ℕ → ℕ × ℕ × ℕ × ℕ → Bool
same_allowed p q = nat_eq p.0 q.0 && nat_eq p.1 q.1 && nat_eq p.2 q.2 && nat_eq p.3 q.3

abbrev pub allowed_key : AllowedRow → ℕ × ℕ × ℕ × ℕ
allowed_key a = (a.network, family_number a.prefix.address.family, a.prefix.address.number, a.prefix.length)

-- no two peers have the same id, no two rows of a network the same prefix, and no two address rows the same peer
pub record AreKeyed (t : Tables) : Type 0 where
  pub peer_keys : IsDistinct same_pair (map (λ p. (p.network, number_in p.network p.id)) t.peers)
  pub allowed_keys : IsDistinct same_allowed (map allowed_key t.allowed)
  pub address_keys : IsDistinct same_pair (map (λ a. (a.network, a.peer)) (filter (λ a. not a.is_route) t.allowed))

-- ---- from the rows to the register, by following ids

-- the values in the order of their keys
abbrev pub in_order : {K V : Type 0} → (K → K → Ordering) → List (K × V) → List V
in_order cmp es = map (λ e. e.1) (map_.entries (map_.from_entries {R = cmp} es))

-- the address of the peer of this id
abbrev pub address_of : List AllowedRow → ℕ → ℕ → AddrValue
address_of [] network peer = record { family = V4; number = 0 }
address_of (a ∷ rows) network peer = if not a.is_route && (nat_eq a.network network && nat_eq a.peer peer) then a.prefix.address else address_of rows network peer

abbrev pub peer_value : Tables → PeerRow → Peer
peer_value t p = record { number = number_in p.network p.id; key = p.key; label = p.label; address = address_of t.allowed p.network p.id; second = None; until = p.until; keepalive = p.keepalive; status = p.status }

abbrev pub peers_of : Tables → ℕ → List Peer
peers_of t id = in_order nat_cmp (map (λ p. (number_in p.network p.id, peer_value t p)) (filter (λ p. nat_eq p.network id) t.peers))

abbrev pub route_value : AllowedRow → PrefixValue × ℕ
route_value a = (a.prefix, number_in a.network a.peer)

abbrev pub routes_of : Tables → ℕ → Routes
routes_of t id = in_order prefix_cmp (map (λ a. (prefix_key a.prefix, route_value a)) (filter (λ a. a.is_route && nat_eq a.network id) t.allowed))

abbrev pub network_entry_of : Tables → NetworkRow → NetworkEntry
network_entry_of t n = record { id = n.id; tenant = n.tenant; name = n.name; network = record { pool = n.pool; host = n.host; port = n.port; server = n.server; capacity = n.capacity; next = n.next; peers = peers_of t n.id; routes = routes_of t n.id } }

-- it is the network that the rows of this id form
abbrev pub IsFormed : Tables → ℕ → NetworkValue → Type 0
IsFormed t id n = (w : NetworkRow) × Has t.networks w × (w.id ≡ id) × (n ≡ (network_entry_of t w).network)

abbrev pub register_of : Tables → Register
register_of t = record { tenants = t.tenants; tokens = t.tokens; readers = t.readers; networks = map (network_entry_of t) t.networks }

-- ---- from the register to the rows

abbrev pub network_row : NetworkEntry → NetworkRow
network_row h = record { id = h.id; tenant = h.tenant; name = h.name; pool = h.network.pool; host = h.network.host; port = h.network.port; server = h.network.server; capacity = h.network.capacity; next = h.network.next }

abbrev pub peer_row : ℕ → Peer → PeerRow
peer_row network p = record { id = peer_id network p.number; network = network; key = p.key; label = p.label; until = p.until; keepalive = p.keepalive; status = p.status }

-- the last address of a prefix
abbrev pub last_of : PrefixValue → AddrValue
last_of p = record p.address { number = p.address.number + block p.address.family p.length - 1 }

abbrev pub allowed_row : ℕ → Bool → PrefixValue → ℕ → AllowedRow
allowed_row network is_route prefix number = record { network = network; prefix = prefix; last = last_of prefix; peer = peer_id network number; is_route = is_route }

abbrev pub address_row : ℕ → Peer → AllowedRow
address_row network p = allowed_row network false (full p.address) p.number

abbrev pub route_row : ℕ → PrefixValue × ℕ → AllowedRow
route_row network r = allowed_row network true r.0 r.1

abbrev pub peer_rows : NetworkEntry → List PeerRow
peer_rows h = map (peer_row h.id) h.network.peers

abbrev pub allowed_rows : NetworkEntry → List AllowedRow
allowed_rows h = map (address_row h.id) h.network.peers ++ map (route_row h.id) h.network.routes

-- the same elements
abbrev pub HaveSame : {A : Type 0} → List A → List A → Type 0
HaveSame {A} xs ys = (a : A) → Has xs a ↔ Has ys a

-- the one row of the table `meta`: the tables are laid out in their third version, which has those of
-- second pools and of tokens that only read
abbrev pub third_version : List MetaRow
third_version = record { version = 3 } ∷ []

-- The rows are those of the register, in whatever order: its tenants, tokens and networks; one for each
-- token that only reads; for each peer one row, and one of its address at full length; and one for each
-- route. No network has a second pool.
pub record AreRowsOf (r : Register) (t : Tables) : Type 0 where
  pub meta : t.meta ≡ third_version
  pub tenants : IsPermutation r.tenants t.tenants
  pub tokens : IsPermutation r.tokens t.tokens
  pub networks : IsPermutation (map network_row r.networks) t.networks
  pub seconds : t.seconds ≡ []
  pub readers : IsPermutation r.readers t.readers
  pub peers : HaveSame (flat_map peer_rows r.networks) t.peers
  pub allowed : HaveSame (flat_map allowed_rows r.networks) t.allowed
  pub keyed : AreKeyed t

-- ---- what a commit of one changed network must do

abbrev pub with_next : ℕ → ℕ → NetworkRow → NetworkRow
with_next id next w = if nat_eq w.id id then record w { next = next } else w

-- The rows `u` are the rows `t` with those of the network of this id in place of the old ones: its
-- next number, its peers, and what they are allowed. Every other row stays.
pub record Replaces (id : ℕ) (n : NetworkValue) (t u : Tables) : Type 0 where
  pub meta : u.meta ≡ t.meta
  pub tenants : u.tenants ≡ t.tenants
  pub tokens : u.tokens ≡ t.tokens
  pub networks : IsPermutation (map (with_next id n.next) t.networks) u.networks
  pub seconds : u.seconds ≡ t.seconds
  pub readers : u.readers ≡ t.readers
  pub peers : (a : PeerRow) → Has u.peers a ↔ (Has (map (peer_row id) n.peers) a ⊎ (Has t.peers a × (nat_eq a.network id ≡ false)))
  pub allowed : (a : AllowedRow) → Has u.allowed a ↔ (Has (map (address_row id) n.peers ++ map (route_row id) n.routes) a ⊎ (Has t.allowed a × (nat_eq a.network id ≡ false)))
  pub keyed : AreKeyed u
