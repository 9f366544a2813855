-- The network that its parts make.
use Rattle.std.specs.Prelude.{◌≡◌}
use Rattle.std.specs.List.Sorted.{IsPermutation}
use Rattle.wgr_core.specs.declared.parts.Parts.{Parts}
use Rattle.wgr_peers.specs.Peers.{AreNumbered}
use Rattle.wgr_peers.specs.Routes.{AreOrdered}
use Rattle.wgr_core.specs.Network.{NetworkValue, IsNetwork}

-- the network has the settings of the parts, and their peers and routes in the order of their keys
pub record IsNetworkOf (parts : Parts) (n : NetworkValue) : Type 0 where
  pub pool : n.pool ≡ parts.pool
  pub host : n.host ≡ parts.host
  pub port : n.port ≡ parts.port
  pub server : n.server ≡ parts.server
  pub capacity : n.capacity ≡ parts.capacity
  pub next : n.next ≡ parts.next
  pub peers : IsPermutation parts.peers.items n.peers × AreNumbered n.peers
  pub routes : IsPermutation parts.routes.items n.routes × AreOrdered n.routes

-- the parts make a network that keeps the rules
abbrev pub KeepTheRules : Parts → Type 0
KeepTheRules parts = (n : NetworkValue) × IsNetworkOf parts n × IsNetwork n

-- the network of the parts if these are already in order
abbrev pub network_of : Parts → NetworkValue
network_of parts = record {
  pool = parts.pool;
  host = parts.host;
  port = parts.port;
  server = parts.server;
  capacity = parts.capacity;
  next = parts.next;
  peers = parts.peers.items;
  routes = parts.routes.items;
}
