use Rattle.std.proofs.Common.{inl, inr, refl}
use Rattle.sqlite.specs.Held.{state}
use Rattle.wgr_schema.specs.Upgrade.{MadeBoth, MadeSecond, reader_text}
use Rattle.wgr_schema.proofs.UpgradeTexts.{reader_writes}
use Rattle.wgr_schema.proofs.UpgradeSteps.{lays, reader_made}
use Rattle.wgr_schema.proofs.UpgradeStops.{text_stops}
use Rattle.wgr_schema.proofs.upgrading.create_reader.Goals as goal

pub returns-clause-step : goal.returns-clause-step
returns-clause-step g c clean start =
    let a = state g.S.Store c.args.tx.now.conn.now in
    let b = state g.S.Store c.execute.new.tx.conn.now in
    lays a b c.execute.result (c.execute.ensures.kept clean) reader_text (MadeSecond start) (MadeBoth start) (reader_made start a b) (c.execute.ensures.ran clean)

pub returns-clause-cause : goal.returns-clause-cause
returns-clause-cause g c start =
    let a = state g.S.Store c.args.tx.now.conn.now in
    let b = state g.S.Store c.execute.new.tx.conn.now in
    text_stops start (MadeSecond start) reader_text (inr (inl refl)) a b c.execute.result (λ db at. at.still) (λ db at. reader_writes db.schema at.free) c.execute.ensures.cause
