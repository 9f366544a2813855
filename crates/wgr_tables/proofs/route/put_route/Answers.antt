use Rattle.std.proofs.Common.{arith}
use Rattle.sqlite.specs.State.{HasCleanDisk}
use Rattle.sqlite.specs.Held.{state}
use Rattle.wgr_tables.specs.TableSteps.{RouteGoes, RouteComes}
use Rattle.wgr_tables.specs.Stops.{RouteStays, RouteStaysOut}
use Rattle.wgr_sql.specs.declared.fault.Fault.{Fault}
use Rattle.wgr_sql.proofs.StepLemmas.{steps_then}
use Rattle.wgr_columns.specs.Decode.{IsRegister, tables_of}
use Rattle.wgr_tables.proofs.StopLemmas.{first_hands_on, second_fails}
use Rattle.wgr_tables.proofs.route.put_route.Goals as goal

pub returns-clause-step : goal.returns-clause-step
returns-clause-step g c clean =
    let network = c.args.network in
    let route = c.args.route.now in
    let a = state g.S.Store c.args.tx.now.conn.now in
    let b = state g.S.Store c.drop_route.new.tx.conn.now in
    let d = state g.S.Store c.add_route.new.tx.conn.now in
    let was : HasCleanDisk b = omega (arith, c.add_route.ensures.survives.clean, clean) in
    steps_then IsRegister tables_of Fault (RouteGoes network route.0) (RouteComes network route) a b d c.in_ok-drop_route.field-0 c.add_route.result
    (c.in_ok-drop_route.ensures.step was) (c.add_route.ensures.step clean)

pub returns-in_err-drop_route-clause-cause : goal.returns-in_err-drop_route-clause-cause
returns-in_err-drop_route-clause-cause g c =
    let network = c.args.network in
    let route = c.args.route.now in
    first_hands_on (RouteStays network route.0) (RouteGoes network route.0) (RouteStaysOut network route)
    (state g.S.Store c.args.tx.now.conn.now) (state g.S.Store c.drop_route.new.tx.conn.now) c.from_residual.result _ c.from_residual.ensures.1 c.in_err-drop_route.ensures.cause

pub returns-clause-cause : goal.returns-clause-cause
returns-clause-cause g c =
    let network = c.args.network in
    let route = c.args.route.now in
    second_fails (RouteStays network route.0) (RouteGoes network route.0) (RouteStaysOut network route) _ _ _ c.in_ok-drop_route.field-0 c.add_route.result
    (λ clean. c.in_ok-drop_route.ensures.step clean) c.drop_route.ensures.survives c.add_route.ensures.survives c.add_route.ensures.cause
