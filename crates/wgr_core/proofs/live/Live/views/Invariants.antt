use Rattle.std.proofs.Common.{◌≡◌, take, map}
use Rattle.wgr_core.specs.Outcome.{peer_view}
use Rattle.wgr_core.proofs.live.Live.views.Given as goal

abbrev pub invariant-loop-route : goal.invariant-loop-route
invariant-loop-route l = l.views.items ≡ map (peer_view (take l.route-index l.route-items)) l.self.peers
