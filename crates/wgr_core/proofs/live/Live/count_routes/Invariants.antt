use Rattle.std.proofs.Common.{◌≡◌, ◌≤◌, length, take, is_some}
use Rattle.std.specs.List.{filter}
use Rattle.wgr_peers.specs.Peers.{peer_of}
use Rattle.wgr_core.proofs.live.Live.count_routes.Given as goal

abbrev pub invariant-loop-route : goal.invariant-loop-route
invariant-loop-route l = (l.count ≡ length (filter (λ r. is_some (peer_of l.self.peers r.1)) (take l.route-index l.route-items))) × (l.count ≤ l.route-index)
