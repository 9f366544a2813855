use Rattle.std.proofs.Common.{ap, ◌∙◌}
use Rattle.wgr_peers.specs.Routes.{Routes, assign_route}
use Rattle.wgr_peers.proofs.SlotLemmas.{assign_next}
use Rattle.wgr_peers.proofs.route_slots.RouteSlots.new.Goals as goal

pub loop-route-preserved : goal.loop-route-preserved
loop-route-preserved c =
    let route = c.route-item.result in
    c.in_ok-put.ensures.ok
    ∙ ap (λ (routes : Routes). assign_route routes route.0 route.1) c.loop-route.invariant
    ∙ assign_next c.args.routes.now c.loop-route.route-index route c.requires c.loop-route-test.true c.route-item.is
