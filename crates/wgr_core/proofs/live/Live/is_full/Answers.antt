use Rattle.std.proofs.Common.{length, is_some, ap, arith}
use Rattle.wgr_peers.specs.Peers.{peer_of}
use Rattle.wgr_core.specs.Network.{NetworkValue, live_at}
use Rattle.wgr_core.proofs.KeptLemmas.{length-filter}
use Rattle.wgr_core.proofs.LiveLooks.{not_full}
use Rattle.wgr_core.proofs.live.Live.is_full.Goals as goal

pub returns-else-routes-ge-MAX_ROUTES : goal.returns-else-routes-ge-MAX_ROUTES
returns-else-routes-ge-MAX_ROUTES c =
    let n = c.self.inside.network.now in
    let live = ap (λ (m : NetworkValue). length m.routes) c.self.view_is in
    let some = length-filter (λ r. is_some (peer_of (live_at n c.self.inside.moment).peers r.1)) n.routes in
    let all = ap length c.routes.ensures in
    not_full (length c.routes.result.now) (length c.args.self.now.routes) (omega (arith, live, some, all)) (omega (arith, c.if-routes-ge-MAX_ROUTES.false))
