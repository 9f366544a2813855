use Rattle.std.proofs.Common.{◌≡◌, take, is_some}
use Rattle.std.specs.List.{filter}
use Rattle.wgr_peers.specs.Peers.{peer_of}
use Rattle.wgr_core.proofs.network.Network.routes_within.Given as goal

abbrev pub invariant-loop-route : goal.invariant-loop-route
invariant-loop-route l = (l.routes.items ≡ filter (λ r. is_some (peer_of l.peers r.1)) (take l.route-index l.route-items)) × (l.route-items ≡ l.self.routes)
