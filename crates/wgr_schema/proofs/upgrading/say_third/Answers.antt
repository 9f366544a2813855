use Rattle.std.proofs.Common.{Ok, Err, [], inl, inr, refl, sym, subst, arith}
use Rattle.sqlite.specs.State.{HasCleanDisk}
use Rattle.sqlite.specs.Held.{state}
use Rattle.wgr_sql.specs.Causes.{IsWriting}
use Rattle.wgr_schema.specs.Upgrade.{Cleared, IsUpgraded, MadeBoth, StopsUpgrade, clear_text, say_text}
use Rattle.wgr_schema.proofs.LayLemmas.{lays_then}
use Rattle.wgr_schema.proofs.UpgradeTexts.{clear_writes, say_writes}
use Rattle.wgr_schema.proofs.UpgradeSteps.{lays, meta_cleared, version_said}
use Rattle.wgr_schema.proofs.UpgradeStops.{handed_stops, next_stops, text_stops}
use Rattle.wgr_schema.proofs.upgrading.say_third.Goals as goal

pub returns-clause-step : goal.returns-clause-step
returns-clause-step g c clean start =
    let a = state g.S.Store c.args.tx.now.conn.now in
    let b = state g.S.Store c.execute.new.tx.conn.now in
    let d = state g.S.Store c.execute-2.new.tx.conn.now in
    let clean_b : HasCleanDisk b = omega (arith, c.execute-2.ensures.survives.clean, clean) in
    lays_then (MadeBoth start) (Cleared start) (IsUpgraded start) a b d c.in_ok-execute.field-0 c.execute-2.result
    (lays a b (Ok c.in_ok-execute.field-0) (c.execute.ensures.kept clean_b) clear_text (MadeBoth start) (Cleared start) (meta_cleared start a b) (c.in_ok-execute.ensures.ran clean_b))
    (lays b d c.execute-2.result (c.execute-2.ensures.kept clean) say_text (Cleared start) (IsUpgraded start) (version_said start b d) (c.execute-2.ensures.ran clean))

pub returns-in_err-execute-clause-cause : goal.returns-in_err-execute-clause-cause
returns-in_err-execute-clause-cause g c start =
    let a = state g.S.Store c.args.tx.now.conn.now in
    let b = state g.S.Store c.execute.new.tx.conn.now in
    handed_stops (StopsUpgrade start) (MadeBoth start) a b c.from_residual.result c.in_err-execute.field-0.0 c.from_residual.ensures.1
    (text_stops start (MadeBoth start) clear_text (inr (inr (inl refl))) a b (Err c.in_err-execute.field-0.0) (λ db at. at.still)
    (λ db at. subst (λ s. IsWriting s clear_text []) (sym at.still.register.schema_is) (clear_writes at.still.register.others)) c.in_err-execute.ensures.cause)

pub returns-clause-cause : goal.returns-clause-cause
returns-clause-cause g c start =
    let a = state g.S.Store c.args.tx.now.conn.now in
    let b = state g.S.Store c.execute.new.tx.conn.now in
    let d = state g.S.Store c.execute-2.new.tx.conn.now in
    next_stops (StopsUpgrade start) (MadeBoth start) (Cleared start) a b d c.in_ok-execute.field-0 c.execute-2.result
    (λ clean. lays a b (Ok c.in_ok-execute.field-0) (c.execute.ensures.kept clean) clear_text (MadeBoth start) (Cleared start) (meta_cleared start a b) (c.in_ok-execute.ensures.ran clean)) c.execute.ensures.survives c.execute-2.ensures.survives
    (text_stops start (Cleared start) say_text (inr (inr (inr (inl refl)))) b d c.execute-2.result (λ db at. at.made.still)
    (λ db at. subst (λ s. IsWriting s say_text []) (sym at.made.still.register.schema_is) (say_writes at.made.still.register.others)) c.execute-2.ensures.cause)
