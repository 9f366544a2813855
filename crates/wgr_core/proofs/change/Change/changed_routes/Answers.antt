use Rattle.std.proofs.Common.{drop, ◌+◌, sym, ap, ◌∙◌}
use Rattle.wgr_peers.specs.Routes.{Routes}
use Rattle.wgr_core.specs.Change.{assign_routes}
use Rattle.wgr_pool.proofs.Lists.{drop_next}
use Rattle.wgr_core.proofs.change.Change.changed_routes.Goals as goal

pub loop-route-preserved : goal.loop-route-preserved
loop-route-preserved c =
    let xs = c.as_slice-routes_put.result.now in
    let i = c.loop-route.route-index in
    ap (λ (rs : Routes). assign_routes rs (drop (i + 1) xs)) c.in_ok-put.ensures.ok ∙ sym (ap (assign_routes c.loop-route.slots) (drop_next xs i c.route-item-in-loop-route.result c.loop-route-test.true c.route-item-in-loop-route.is)) ∙ c.loop-route.invariant
