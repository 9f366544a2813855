use Rattle.std.proofs.Common.{codes, inl, refl, ap, ◌∙◌}
use Rattle.sqlite.specs.Effect.{Database}
use Rattle.sqlite.specs.Held.{state}
use Rattle.sqlite_catalog.specs.Change.{is_used}
use Rattle.wgr_schema.specs.Upgrade.{Begins, MadeSecond, second_text}
use Rattle.wgr_schema.specs.declared.version.Version.TheVariants.{One}
use Rattle.wgr_schema.proofs.UpgradeTexts.{second_writes}
use Rattle.wgr_schema.proofs.UpgradeSteps.{begins_has, lays, second_made}
use Rattle.wgr_schema.proofs.UpgradeStops.{text_stops}
use Rattle.wgr_schema.proofs.upgrading.create_second.Goals as goal

pub returns-clause-step : goal.returns-clause-step
returns-clause-step g c clean start =
    let a = state g.S.Store c.args.tx.now.conn.now in
    let b = state g.S.Store c.execute.new.tx.conn.now in
    lays a b c.execute.result (c.execute.ensures.kept clean) second_text (Begins One start) (MadeSecond start) (second_made start a b) (c.execute.ensures.ran clean)

pub returns-clause-cause : goal.returns-clause-cause
returns-clause-cause g c start =
    let a = state g.S.Store c.args.tx.now.conn.now in
    let b = state g.S.Store c.execute.new.tx.conn.now in
    text_stops start (Begins One start) second_text (inl refl) a b c.execute.result (begins_has One start)
    (λ db at. second_writes db.schema (ap (λ (d : Database). is_used d.schema (codes "second")) at.same ∙ at.may.free.0)) c.execute.ensures.cause
