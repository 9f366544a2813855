use Rattle.std.proofs.Common.{◌∙◌}
use Rattle.wgr_tables.specs.TableSteps.{RoutePuts}
use Rattle.wgr_tables.specs.Stops.{RouteIsNotPut}
use Rattle.wgr_tables.proofs.Loops.{item_hands_on, one_more, taken}
use Rattle.wgr_tables.proofs.route.replace_routes.Goals as goal

pub loop-route-preserved : goal.loop-route-preserved
loop-route-preserved g c = (
  c.put_route.ensures.same_reference ∙ c.loop-route.invariant.0,
  one_more (RoutePuts c.args.network) c.args.routes.now _ _ (taken _ _ _ c.loop-route-test.true c.route-item.is) _ _ _ c.loop-route.invariant.1 c.put_route.ensures.survives
      c.in_ok-put_route.field-0 (λ clean. c.in_ok-put_route.ensures.step clean),
)

pub returns-in_err-put_route-clause-cause : goal.returns-in_err-put_route-clause-cause
returns-in_err-put_route-clause-cause g c =
    item_hands_on (RoutePuts c.args.network) c.args.routes.now _ _ (taken _ _ _ c.loop-route-test.true c.route-item.is) _ _ _ c.loop-route.invariant.1 c.put_route.ensures.survives
    (RouteIsNotPut c.args.network) c.from_residual.result c.in_err-put_route.field-0.0 c.from_residual.ensures.1 c.in_err-put_route.ensures.cause
