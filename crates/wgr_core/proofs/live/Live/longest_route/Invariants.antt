use Rattle.std.proofs.Common.{◌≡◌, drop, is_some}
use Rattle.std.specs.List.{filter}
use Rattle.wgr_peers.specs.Peers.{peer_of}
use Rattle.wgr_core.specs.Owner.{longest_match, longer}
use Rattle.wgr_core.proofs.live.Live.longest_route.Given as goal

abbrev pub invariant-loop-route : goal.invariant-loop-route
invariant-loop-route l = longer l.longest (longest_match (filter (λ r. is_some (peer_of l.self.peers r.1)) (drop l.route-index l.route-items)) l.address) ≡ longest_match (filter (λ r. is_some (peer_of l.self.peers r.1)) l.route-items) l.address
