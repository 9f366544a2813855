use Rattle.std.proofs.Common.{◌∙◌}
use Rattle.wgr_tables.specs.TableSteps.{RouteGoes}
use Rattle.wgr_tables.specs.Stops.{RouteStays}
use Rattle.wgr_tables.proofs.Loops.{item_hands_on, one_more, taken}
use Rattle.wgr_tables.proofs.route.drop_routes.Goals as goal

pub loop-prefix-preserved : goal.loop-prefix-preserved
loop-prefix-preserved g c = (
  c.drop_route.ensures.same_reference ∙ c.loop-prefix.invariant.0,
  one_more (RouteGoes c.args.network) c.args.prefixes.now _ _ (taken _ _ _ c.loop-prefix-test.true c.prefix-item.is) _ _ _ c.loop-prefix.invariant.1 c.drop_route.ensures.survives
      c.in_ok-drop_route.field-0 (λ clean. c.in_ok-drop_route.ensures.step clean),
)

pub returns-in_err-drop_route-clause-cause : goal.returns-in_err-drop_route-clause-cause
returns-in_err-drop_route-clause-cause g c =
    item_hands_on (RouteGoes c.args.network) c.args.prefixes.now _ _ (taken _ _ _ c.loop-prefix-test.true c.prefix-item.is) _ _ _ c.loop-prefix.invariant.1 c.drop_route.ensures.survives
    (RouteStays c.args.network) c.from_residual.result c.in_err-drop_route.field-0.0 c.from_residual.ensures.1 c.in_err-drop_route.ensures.cause
