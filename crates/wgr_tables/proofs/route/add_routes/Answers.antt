use Rattle.std.proofs.Common.{◌∙◌}
use Rattle.wgr_tables.specs.TableSteps.{RouteComes}
use Rattle.wgr_tables.specs.Stops.{RouteStaysOut}
use Rattle.wgr_tables.proofs.Loops.{item_hands_on, one_more, taken}
use Rattle.wgr_tables.proofs.route.add_routes.Goals as goal

pub loop-route-preserved : goal.loop-route-preserved
loop-route-preserved g c = (
  c.add_route.ensures.same_reference ∙ c.loop-route.invariant.0,
  one_more (RouteComes c.args.network) c.args.routes.now _ _ (taken _ _ _ c.loop-route-test.true c.route-item.is) _ _ _ c.loop-route.invariant.1 c.add_route.ensures.survives
      c.in_ok-add_route.field-0 (λ clean. c.in_ok-add_route.ensures.step clean),
)

pub returns-in_err-add_route-clause-cause : goal.returns-in_err-add_route-clause-cause
returns-in_err-add_route-clause-cause g c =
    item_hands_on (RouteComes c.args.network) c.args.routes.now _ _ (taken _ _ _ c.loop-route-test.true c.route-item.is) _ _ _ c.loop-route.invariant.1 c.add_route.ensures.survives
    (RouteStaysOut c.args.network) c.from_residual.result c.in_err-add_route.field-0.0 c.from_residual.ensures.1 c.in_err-add_route.ensures.cause
