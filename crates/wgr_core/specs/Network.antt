-- One network as a value: its peers are a finite map by number and its routes one by prefix, each
-- a list in the order of its keys.
use Rattle.std.specs.Prelude.{ℕ, ◌≡◌, ◌+◌, ◌<◌, ◌≤◌, Bool, true, false, not, ◌&&◌, ◌||◌, nat_eq, List, length, Option, None, is_some, All}
use Rattle.std.specs.List.{filter, list_any}
use Rattle.wgr_text.specs.declared.key.Key.{Key}
use Rattle.wgr_text.specs.Prefix.{AddrValue, PrefixValue, IsAddr, IsPrefix}
use Rattle.wgr_peers.specs.declared.peer.Peer.{Peer}
use Rattle.wgr_pool.specs.PrefixTests.{has, covers, same_prefix, full}
use Rattle.wgr_pool.specs.Pool.{IsPool}
use Rattle.wgr_pool.specs.Allot.{is_assignable, lowest_where}
use Rattle.wgr_peers.specs.Limits.{IsPort, IsCapacity, max_number, max_routes}
use Rattle.wgr_peers.specs.Peers.{is_live, is_own, peer_of, same_key, AreNumbered, AreApart}
use Rattle.wgr_peers.specs.Routes.{Routes, AreOrdered}

pub record NetworkValue : Type 0 where
  pub pool : PrefixValue
  pub host : List ℕ
  pub port : ℕ
  pub server : Key
  pub capacity : ℕ
  pub next : ℕ
  pub peers : List Peer
  pub routes : Routes

-- the server's address: the pool's second
abbrev pub server_address : PrefixValue → AddrValue
server_address pool = record pool.address { number = pool.address.number + 1 }

-- the network without the expired peers, and without the routes to them
abbrev pub live_at : NetworkValue → ℕ → NetworkValue
live_at n now =
    let peers = filter (is_live now) n.peers in
    record n { peers = peers; routes = filter (λ r. is_some (peer_of peers r.1)) n.routes }

-- whether the number is one of these
abbrev pub is_among : List ℕ → ℕ → Bool
is_among numbers n = list_any (nat_eq n) numbers

-- the network without the peers with these numbers, and without the routes to them
abbrev pub without_peers : NetworkValue → List ℕ → NetworkValue
without_peers n removed = record n {
  peers = filter (λ p. not (is_among removed p.number)) n.peers;
  routes = filter (λ r. not (is_among removed r.1)) n.routes;
}

-- whether the address is a peer's own, or lies in a route that lies wholly in the pool
abbrev pub is_held : NetworkValue → PrefixValue → AddrValue → Bool
is_held n pool a = is_own n.peers a || list_any (λ r. covers pool r.0 && has r.0 a) n.routes

-- the lowest address that the pool may give and that isn't held
abbrev pub lowest_free : NetworkValue → PrefixValue → Option AddrValue
lowest_free n pool = lowest_where pool (is_held n pool)

-- ---- the rules that each network keeps

-- a peer's number is given already, its key isn't the server's, the pool may give its address, and it has no other
pub record IsMember (n : NetworkValue) (p : Peer) : Type 0 where
  pub numbered : (1 ≤ p.number) × (p.number < n.next)
  pub not_server : same_key p.key n.server ≡ false
  pub assignable : is_assignable n.pool p.address ≡ true
  pub alone : p.second ≡ None

-- no peer has a second address
abbrev pub AreAlone : List Peer → Type 0
AreAlone = All (λ p. p.second ≡ None)

-- whether the prefix is a peer's or the server's address at full length
abbrev pub is_address : NetworkValue → PrefixValue → Bool
is_address n p = list_any (λ e. same_prefix p (full e.address)) n.peers || same_prefix p (full (server_address n.pool))

-- a route is masked, leads to a peer, and is no peer's and not the server's address
pub record IsRoute (n : NetworkValue) (r : PrefixValue × ℕ) : Type 0 where
  pub masked : IsAddr r.0.address × IsPrefix r.0
  pub leads : is_some (peer_of n.peers r.1) ≡ true
  pub no_address : is_address n r.0 ≡ false

pub record IsNetwork (n : NetworkValue) : Type 0 where
  pub pool : IsPool n.pool
  pub port : IsPort n.port
  pub capacity : IsCapacity n.capacity
  pub next : (1 ≤ n.next) × (n.next ≤ max_number + 1)
  pub room : length n.peers ≤ n.capacity
  pub members : All (IsMember n) n.peers
  pub numbered : AreNumbered n.peers
  pub apart : AreApart n.peers
  pub few_routes : length n.routes ≤ max_routes
  pub routes : All (IsRoute n) n.routes
  pub ordered : AreOrdered n.routes
