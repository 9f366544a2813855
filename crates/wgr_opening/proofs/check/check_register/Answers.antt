use Rattle.sqlite.specs.Effect.{Database}
use Rattle.sqlite.specs.Held.{state}
use Rattle.sqlite.specs.State.{HasCleanDisk, State}
use Rattle.wgr_sql.specs.Calls.{IsKept}
use Rattle.wgr_sql.specs.Causes.{HasCause}
use Rattle.wgr_sql.proofs.CauseLemmas.{cause_after}
use Rattle.std.proofs.Common.{◌∙◌, IfSome, IsTrue, Option, [], sym, subst}
use Rattle.wgr_schema.specs.Versions.{IsOfVersion}
use Rattle.wgr_schema.specs.declared.version.Version.TheVariants.{Three}
use Rattle.wgr_schema.proofs.CauseLemmas.{told_as}
use Rattle.wgr_columns.specs.Decode.{tables_of}
use Rattle.wgr_tables.specs.Standing.{Stands}
use Rattle.wgr_opening.specs.Good.{IsReadyIn, HasSoundRows}
use Rattle.wgr_opening.specs.Outlines.{AreOutlines, outline_in}
use Rattle.wgr_opening.specs.declared.outlines.Outlines.{Outlines}
use Rattle.wgr_opening.proofs.JoinLemmas.{good_of}
use Rattle.wgr_opening.proofs.check.check_register.Goals as goal

-- the version is still the third
ready : (old mid : State) → HasCleanDisk mid → IsKept old mid → IsOfVersion Three old.now → IsReadyIn Three mid
ready old mid clean kept is live = (subst (IsOfVersion Three) (sym (kept clean live).1) is, tt)

pub returns-in-Err-clause-cause : goal.returns-in-Err-clause-cause
returns-in-Err-clause-cause g c =
    let old = state g.S.Store c.args.conn.now in
    let mid = state g.S.Store c.check_layout.new.conn in
    let new = state g.S.Store c.audit.new.conn in
    told_as (HasCause old new) c.register_fault.result c.in-Err.fault c.register_fault.ensures.value
    (cause_after old mid new ⊥ ⊥ (λ _. ⊥) (λ _. ⊥) c.check_layout.ensures.survives c.audit.ensures.survives (λ none. none) c.in-Err.fault (c.in-Err.ensures.cause (λ clean.
    let before = c.audit.ensures.clean clean in
    ready old mid before c.check_layout.ensures.kept (c.in_ok-check_layout.ensures.right before))))

pub returns-in-Some-clause-right : goal.returns-in-Some-clause-right
returns-in-Some-clause-right g c clean =
    let before = c.audit.ensures.clean clean in
    let old = state g.S.Store c.args.conn.now in
    let mid = state g.S.Store c.check_layout.new.conn in
    let third = c.in_ok-check_layout.ensures.right before in
    let told = subst (λ (o : Option Outlines). IfSome o (λ outlines. IsTrue mid.is_open × HasSoundRows mid.now × Stands g.S.Store c.audit.new.conn mid.now [] × AreOutlines (outline_in outlines) (tables_of mid.now)))
    c.in-Some.is (c.in-Ok.ensures.good clean (ready old mid before c.check_layout.ensures.kept third)) in
    let same = (c.check_layout.ensures.kept before told.0).1 in
    (good_of old.now third (subst HasSoundRows same told.1), subst (λ (d : Database). Stands g.S.Store c.audit.new.conn d []) same told.2)

pub returns-in-Some-clause-outlines : goal.returns-in-Some-clause-outlines
returns-in-Some-clause-outlines g c clean =
    let before = c.audit.ensures.clean clean in
    let old = state g.S.Store c.args.conn.now in
    let mid = state g.S.Store c.check_layout.new.conn in
    let told = subst (λ (o : Option Outlines). IfSome o (λ outlines. IsTrue mid.is_open × HasSoundRows mid.now × Stands g.S.Store c.audit.new.conn mid.now [] × AreOutlines (outline_in outlines) (tables_of mid.now)))
    c.in-Some.is (c.in-Ok.ensures.good clean (ready old mid before c.check_layout.ensures.kept (c.in_ok-check_layout.ensures.right before))) in
    subst (λ (d : Database). AreOutlines (outline_in c.in-Some.outlines) (tables_of d)) (c.check_layout.ensures.kept before told.0).1 told.3

pub returns-in-Some-clause-kept : goal.returns-in-Some-clause-kept
returns-in-Some-clause-kept g c clean live =
    let before = c.audit.ensures.clean clean in
    let old = state g.S.Store c.args.conn.now in
    let mid = state g.S.Store c.check_layout.new.conn in
    let then = c.audit.ensures.kept (λ _. ready old mid before c.check_layout.ensures.kept (c.in_ok-check_layout.ensures.right before)) clean live in
    let back = c.check_layout.ensures.kept before then.0 in
    (back.0, then.1 ∙ back.1)
