use Rattle.std.proofs.Common.{arith}
use Rattle.sqlite.specs.State.{HasCleanDisk}
use Rattle.sqlite.specs.Held.{state}
use Rattle.wgr_schema.specs.Upgrade.{Begins, MadeBoth, MadeSecond, StopsUpgrade}
use Rattle.wgr_schema.specs.declared.version.Version.TheVariants.{One}
use Rattle.wgr_schema.proofs.LayLemmas.{lays_then}
use Rattle.wgr_schema.proofs.UpgradeStops.{handed_lays, handed_stops, next_stops}
use Rattle.wgr_schema.proofs.upgrading.create_both.Goals as goal

pub returns-clause-step : goal.returns-clause-step
returns-clause-step g c clean start =
    let a = state g.S.Store c.args.tx.now.conn.now in
    let b = state g.S.Store c.create_second.new.tx.conn.now in
    let d = state g.S.Store c.create_reader.new.tx.conn.now in
    let clean_b : HasCleanDisk b = omega (arith, c.create_reader.ensures.survives.clean, clean) in
    lays_then (Begins One start) (MadeSecond start) (MadeBoth start) a b d c.in_ok-create_second.field-0 c.create_reader.result
    (c.in_ok-create_second.ensures.step clean_b start) (c.create_reader.ensures.step clean start)

pub returns-in_err-create_second-clause-step : goal.returns-in_err-create_second-clause-step
returns-in_err-create_second-clause-step g c clean start =
    let a = state g.S.Store c.args.tx.now.conn.now in
    let b = state g.S.Store c.create_second.new.tx.conn.now in
    handed_lays (Begins One start) (MadeSecond start) (MadeBoth start) a b c.from_residual.result c.in_err-create_second.field-0.0 c.from_residual.ensures.1 (c.in_err-create_second.ensures.step clean start)

pub returns-in_err-create_second-clause-cause : goal.returns-in_err-create_second-clause-cause
returns-in_err-create_second-clause-cause g c start =
    let a = state g.S.Store c.args.tx.now.conn.now in
    let b = state g.S.Store c.create_second.new.tx.conn.now in
    handed_stops (StopsUpgrade start) (Begins One start) a b c.from_residual.result c.in_err-create_second.field-0.0 c.from_residual.ensures.1 (c.in_err-create_second.ensures.cause start)

pub returns-clause-cause : goal.returns-clause-cause
returns-clause-cause g c start =
    let a = state g.S.Store c.args.tx.now.conn.now in
    let b = state g.S.Store c.create_second.new.tx.conn.now in
    let d = state g.S.Store c.create_reader.new.tx.conn.now in
    next_stops (StopsUpgrade start) (Begins One start) (MadeSecond start) a b d c.in_ok-create_second.field-0 c.create_reader.result
    (λ clean. c.in_ok-create_second.ensures.step clean start) c.create_second.ensures.survives c.create_reader.ensures.survives (c.create_reader.ensures.cause start)
