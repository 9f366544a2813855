-- What consistency says about single rows, and what the orders must do to the rows.
use Rattle.std.specs.Prelude.{◌≡◌, ℕ, ◌<◌, ◌≤◌, ◌⊎◌, ◌↔◌, true, false, not, nat_eq, List, ◌∷◌}
use Rattle.std.specs.List.{filter, IsDistinct}
use Rattle.std.specs.List.Sorted.{IsPermutation}
use Rattle.wgr_text.specs.Prefix.{IsAddr, IsPrefix}
use Rattle.wgr_pool.specs.Allot.{is_assignable}
use Rattle.wgr_pool.specs.PrefixTests.{full, same_prefix}
use Rattle.wgr_peers.specs.Peers.{same_key}
use Rattle.wgr_core.specs.Network.{server_address}
use Rattle.wgr_model.specs.declared.right.Right.{Right}
use Rattle.wgr_model.specs.Register.{Bytes, NetworkEntry, Register, Tenant, Token, is_same}
use Rattle.wgr_model.specs.Consistent.{IsConsistent}
use Rattle.wgr_model.specs.Steps.{Settings, new_network, with_new_network, with_reader, with_tenant, with_token, without_network, without_reader, without_token}
use Rattle.wgr_model.specs.Laws.{Has}
use Rattle.wgr_model.specs.Rows.{AllowedRow, NetworkRow, PeerRow, Tables, AreKeyed, AreRowsOf, last_of, network_row, peer_id}
use Rattle.wgr_model.specs.RowLaws.{AreConsistent}

-- ---- single rows

-- a peer's id has its network's id and its number, which that network has given; its key isn't the server's
pub record IsPeerOf (w : NetworkRow) (p : PeerRow) : Type 0 where
  pub network : p.network ≡ w.id
  pub number : ℕ
  pub id : p.id ≡ peer_id w.id number
  pub given : (1 ≤ number) × (number < w.next)
  pub not_server : same_key p.key w.server ≡ false

-- the address of a peer, at full length; the network's pool may give it
pub record IsAddressOf (w : NetworkRow) (p : PeerRow) (a : AllowedRow) : Type 0 where
  pub kind : a.is_route ≡ false
  pub network : a.network ≡ w.id
  pub peer : a.peer ≡ p.id
  pub whole : a.prefix ≡ full a.prefix.address
  pub last : a.last ≡ last_of a.prefix
  pub assignable : is_assignable w.pool a.prefix.address ≡ true

-- a route to a peer: it is masked, and isn't the server's address
pub record IsRouteOf (w : NetworkRow) (p : PeerRow) (a : AllowedRow) : Type 0 where
  pub kind : a.is_route ≡ true
  pub network : a.network ≡ w.id
  pub peer : a.peer ≡ p.id
  pub masked : IsAddr a.prefix.address × IsPrefix a.prefix
  pub last : a.last ≡ last_of a.prefix
  pub not_server : same_prefix a.prefix (full (server_address w.pool)) ≡ false

pub record RowRules (t : Tables) : Type 0 where
  -- each token that only reads has a row among the tokens
  pub readers : (d : Bytes) → Has t.readers d → (x : Token) × Has t.tokens x × (x.digest ≡ d)
  -- and no digest stands twice among those that only read
  pub one_reader : IsDistinct is_same t.readers
  -- each peer belongs to a network that exists, and has an address row
  pub peers : (p : PeerRow) → Has t.peers p → (w : NetworkRow) × (a : AllowedRow) × Has t.networks w × Has t.allowed a × IsPeerOf w p × IsAddressOf w p a
  -- no two peers of a network have the same key
  pub keys : (p q : PeerRow) → Has t.peers p → Has t.peers q → p.network ≡ q.network → p.key ≡ q.key → p ≡ q
  -- no peer has two address rows
  pub one_address : (a b : AllowedRow) → Has t.allowed a → Has t.allowed b → a.is_route ≡ false → b.is_route ≡ false → a.network ≡ b.network → a.peer ≡ b.peer → a ≡ b
  -- each allowed prefix leads to a peer of its network
  pub allowed : (a : AllowedRow) → Has t.allowed a → (w : NetworkRow) × (p : PeerRow) × Has t.networks w × Has t.peers p × (IsAddressOf w p a ⊎ IsRouteOf w p a)
  -- no route is a peer's address
  pub routes_apart : (a b : AllowedRow) → Has t.allowed a → Has t.allowed b → a.is_route ≡ true → b.is_route ≡ false → a.network ≡ b.network → same_prefix a.prefix b.prefix ≡ false

abbrev pub ConsistentRowsKeepRules : Type 0
ConsistentRowsKeepRules = (t : Tables) → AreConsistent t → RowRules t

-- ---- what an order must do: one row more or less, and every other row as it was; a token that only
-- reads has one more row

abbrev pub TenantsGain : Type 0
TenantsGain = (r : Register) (t : Tables) (name : Bytes) (new : ℕ) (tenants : List Tenant) → AreRowsOf r t
    → IsPermutation (record { id = new; name = name } ∷ t.tenants) tenants → AreRowsOf (with_tenant r name new) (record t { tenants = tenants })

abbrev pub TokensGain : Type 0
TokensGain = (r : Register) (t : Tables) (digest : Bytes) (id : ℕ) (right : Right) (tokens : List Token) (readers : List Bytes) → AreRowsOf r t
    → IsPermutation (record { digest = digest; tenant = id } ∷ t.tokens) tokens → IsPermutation (with_reader right digest t.readers) readers
    → AreRowsOf (with_token r digest id right) (record t { tokens = tokens; readers = readers })

abbrev pub TokensLose : Type 0
TokensLose = (r : Register) (t : Tables) (digest : Bytes) (tokens : List Token) (readers : List Bytes) → AreRowsOf r t → IsConsistent r
    → IsPermutation (filter (λ x. not (is_same digest x.digest)) t.tokens) tokens → IsPermutation (without_reader digest t.readers) readers
    → AreRowsOf (without_token r digest) (record t { tokens = tokens; readers = readers })

abbrev pub NetworksGain : Type 0
NetworksGain = (r : Register) (t : Tables) (new id : ℕ) (name : Bytes) (s : Settings) (networks : List NetworkRow) → AreRowsOf r t
    → IsPermutation (network_row (record { id = new; tenant = id; name = name; network = new_network s }) ∷ t.networks) networks
    → AreRowsOf (with_new_network r new id name (new_network s)) (record t { networks = networks })

-- the rows `u` are the rows `t` without those of the network of this id
pub record Removes (id : ℕ) (t u : Tables) : Type 0 where
  pub meta : u.meta ≡ t.meta
  pub tenants : u.tenants ≡ t.tenants
  pub tokens : u.tokens ≡ t.tokens
  pub networks : IsPermutation (filter (λ w. not (nat_eq w.id id)) t.networks) u.networks
  pub seconds : u.seconds ≡ t.seconds
  pub readers : u.readers ≡ t.readers
  pub peers : (a : PeerRow) → Has u.peers a ↔ (Has t.peers a × (nat_eq a.network id ≡ false))
  pub allowed : (a : AllowedRow) → Has u.allowed a ↔ (Has t.allowed a × (nat_eq a.network id ≡ false))
  pub keyed : AreKeyed u

-- a network is removed with its peers and its routes
abbrev pub NetworksLose : Type 0
NetworksLose = (r : Register) (t u : Tables) (h : NetworkEntry) → AreRowsOf r t → IsConsistent r → Has r.networks h → Removes h.id t u → AreRowsOf (without_network r h.tenant h.name) u
