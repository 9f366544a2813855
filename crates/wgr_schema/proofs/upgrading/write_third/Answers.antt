use Rattle.std.proofs.Common.{arith}
use Rattle.sqlite.specs.State.{HasCleanDisk}
use Rattle.sqlite.specs.Held.{state}
use Rattle.wgr_schema.specs.Upgrade.{Begins, IsUpgraded, MadeBoth, StopsUpgrade}
use Rattle.wgr_schema.proofs.LayLemmas.{lays_then}
use Rattle.wgr_schema.proofs.UpgradeStops.{handed_lays, handed_stops, next_stops}
use Rattle.wgr_schema.proofs.upgrading.write_third.Goals as goal

pub returns-clause-step : goal.returns-clause-step
returns-clause-step g c clean start =
    let a = state g.S.Store c.args.tx.now.conn.now in
    let b = state g.S.Store c.create_missing.new.tx.conn.now in
    let d = state g.S.Store c.say_third.new.tx.conn.now in
    let clean_b : HasCleanDisk b = omega (arith, c.say_third.ensures.survives.clean, clean) in
    lays_then (Begins c.args.from start) (MadeBoth start) (IsUpgraded start) a b d c.in_ok-create_missing.field-0 c.say_third.result
    (c.in_ok-create_missing.ensures.step clean_b start) (c.say_third.ensures.step clean start)

pub returns-in_err-create_missing-clause-step : goal.returns-in_err-create_missing-clause-step
returns-in_err-create_missing-clause-step g c clean start =
    let a = state g.S.Store c.args.tx.now.conn.now in
    let b = state g.S.Store c.create_missing.new.tx.conn.now in
    handed_lays (Begins c.args.from start) (MadeBoth start) (IsUpgraded start) a b c.from_residual.result c.in_err-create_missing.field-0.0 c.from_residual.ensures.1 (c.in_err-create_missing.ensures.step clean start)

pub returns-in_err-create_missing-clause-cause : goal.returns-in_err-create_missing-clause-cause
returns-in_err-create_missing-clause-cause g c start =
    let a = state g.S.Store c.args.tx.now.conn.now in
    let b = state g.S.Store c.create_missing.new.tx.conn.now in
    handed_stops (StopsUpgrade start) (Begins c.args.from start) a b c.from_residual.result c.in_err-create_missing.field-0.0 c.from_residual.ensures.1 (c.in_err-create_missing.ensures.cause start)

pub returns-clause-cause : goal.returns-clause-cause
returns-clause-cause g c start =
    let a = state g.S.Store c.args.tx.now.conn.now in
    let b = state g.S.Store c.create_missing.new.tx.conn.now in
    let d = state g.S.Store c.say_third.new.tx.conn.now in
    next_stops (StopsUpgrade start) (Begins c.args.from start) (MadeBoth start) a b d c.in_ok-create_missing.field-0 c.say_third.result
    (λ clean. c.in_ok-create_missing.ensures.step clean start) c.create_missing.ensures.survives c.say_third.ensures.survives (c.say_third.ensures.cause start)
