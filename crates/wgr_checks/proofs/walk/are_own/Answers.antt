use Rattle.std.proofs.Common.{rules, ◌≡◌, ◌↔◌, [], IfErr, IsTrue, sym, subst, ◌∙◌, arith}
use Rattle.sqlite.specs.Effect.{Database}
use Rattle.sqlite.specs.Given.{HasBegun}
use Rattle.sqlite.specs.Held.{state}
use Rattle.sqlite.specs.State.{HasCleanDisk, Survives, FailsToQuery, CommitsShowing}
use Rattle.wgr_sql.specs.Causes.{HasCause}
use Rattle.wgr_sql.proofs.ResultLemmas.{if_ok}
use Rattle.wgr_sql.proofs.SurvivesLemmas.{survives_next}
use Rattle.wgr_columns.specs.LaidOut.{IsLaidOut}
use Rattle.wgr_columns.specs.LaidOut.{Laid}
use Rattle.wgr_checks.specs.OwnRows.{AreOwnRows}
use Rattle.wgr_checks.specs.TableRows.{IsRowOf, tree_of}
use Rattle.wgr_checks.proofs.SelectLemmas.{begun, commits_nothing}
use Rattle.wgr_checks.proofs.StreamLemmas.{failed_kept}
use Rattle.wgr_checks.proofs.WalkCauses.{failed_cause, walk_cause}
use Rattle.wgr_checks.proofs.walk.are_own.Goals as goal

pub returns-in-Err-clause-kept : goal.returns-in-Err-clause-kept
returns-in-Err-clause-kept g c laid clean live =
    let old = state g.S.Store c.args.conn.now in
    let new = state g.S.Store c.query.follows.lender-at-none in
    let held = c.query.follows.holds-at-none in
    let failed : FailsToQuery c.text.result.now [] old new c.in-Err.error = search (rules, clean) in
    let yes : IsTrue c.is_autocommit-settled.result = rw (c.is_autocommit-settled.ensures.value, c.requires.idle) in
    failed_kept c.args.table old new c.in-Err.error (subst (λ t. FailsToQuery t [] old new c.in-Err.error) c.text.ensures failed) (laid clean) (c.is_autocommit-settled.ensures.settled yes) live

pub returns-in-Err-clause-survives : goal.returns-in-Err-clause-survives
returns-in-Err-clause-survives g c =
    let old = state g.S.Store c.args.conn.now in
    let new = state g.S.Store c.query.follows.lender-at-none in
    let held = c.query.follows.holds-at-none in
    let kept : Survives old new (CommitsShowing c.text.result.now [] old) = search rules in
    commits_nothing c.args.table [] old new (subst (λ t. Survives old new (CommitsShowing t [] old)) c.text.ensures kept)

pub returns-clause-answer : goal.returns-clause-answer
returns-clause-answer g c clean laid up =
    let first = c.args.conn.now in
    let mid = c.in-Ok.rows.conn.now in
    let end = c.all_pass.new.rows.conn.now in
    let same : end ≡ c.conn-2-1.given.0 = search rules in
    let late = subst (λ h. HasCleanDisk (state g.S.Store h)) (sym same) clean in
    let before : HasCleanDisk (state g.S.Store mid) = omega (arith, c.all_pass.ensures.survives.clean, late) in
    let start = begun g.S.Store c.args.table [] first mid (subst (λ t. HasBegun g.S.Store t [] first mid) c.text.ensures (c.in-Ok.ensures.begun before)) in
    let here : Laid (state g.S.Store mid) = λ live. subst (λ (d : Database). IsLaidOut d.schema) (sym start.1.0.now_is) (laid start.1.0.was_open) in
    if_ok c.all_pass.result _ _ (λ is told. (
      start.1.0.was_open,
      subst (λ (d : Database). IsTrue is ↔ AreOwnRows (IsRowOf c.args.table c.args.networks.now) (d.trees (tree_of c.args.table))) start.1.0.now_is told,
    )) (c.all_pass.ensures.answer late here up start.0)

pub returns-clause-kept : goal.returns-clause-kept
returns-clause-kept g c laid clean live =
    let first = c.args.conn.now in
    let mid = c.in-Ok.rows.conn.now in
    let end = c.all_pass.new.rows.conn.now in
    let same : end ≡ c.conn-2-1.given.0 = search rules in
    let late = subst (λ h. HasCleanDisk (state g.S.Store h)) (sym same) clean in
    let before : HasCleanDisk (state g.S.Store mid) = omega (arith, c.all_pass.ensures.survives.clean, late) in
    let start = begun g.S.Store c.args.table [] first mid (subst (λ t. HasBegun g.S.Store t [] first mid) c.text.ensures (c.in-Ok.ensures.begun before)) in
    let rests = start.1.0 in
    let yes : IsTrue c.is_autocommit-settled.result = rw (c.is_autocommit-settled.ensures.value, c.requires.idle) in
    let kept = c.all_pass.ensures.kept (λ open_mid. rests.now_is ∙ c.is_autocommit-settled.ensures.settled yes rests.was_open ∙ sym rests.committed_is) late (subst (λ h. IsTrue (state g.S.Store h).is_open) (sym same) live) in
    (rests.was_open, subst (λ h. (state g.S.Store h).now ≡ (state g.S.Store first).now) same (kept.1 ∙ rests.now_is))

pub returns-clause-survives : goal.returns-clause-survives
returns-clause-survives g c =
    let old = state g.S.Store c.args.conn.now in
    let mid = state g.S.Store c.in-Ok.rows.conn.now in
    let end = c.all_pass.new.rows.conn.now in
    let same : end ≡ c.conn-2-1.given.0 = search rules in
    let first = commits_nothing c.args.table [] old mid (subst (λ t. Survives old mid (CommitsShowing t [] old)) c.text.ensures c.in-Ok.ensures.survives) in
    subst (λ h. Survives old (state g.S.Store h) (λ _. ⊥)) same (survives_next old mid (state g.S.Store end) first c.all_pass.ensures.survives)

pub returns-in-Err-clause-cause : goal.returns-in-Err-clause-cause
returns-in-Err-clause-cause g c laid =
    let old = state g.S.Store c.args.conn.now in
    let new = state g.S.Store c.query.follows.lender-at-none in
    let held = c.query.follows.holds-at-none in
    failed_cause c.args.table old new c.in-Err.error c.fault_of.result c.fault_of.ensures.memory laid (λ clean.
    let failed : FailsToQuery c.text.result.now [] old new c.in-Err.error = search (rules, clean) in
    subst (λ t. FailsToQuery t [] old new c.in-Err.error) c.text.ensures failed)

pub returns-clause-cause : goal.returns-clause-cause
returns-clause-cause g c laid =
    let first = c.args.conn.now in
    let mid = c.in-Ok.rows.conn.now in
    let end = c.all_pass.new.rows.conn.now in
    let same : end ≡ c.conn-2-1.given.0 = search rules in
    let begins = commits_nothing c.args.table [] (state g.S.Store first) (state g.S.Store mid) (subst (λ t. Survives (state g.S.Store first) (state g.S.Store mid) (CommitsShowing t [] (state g.S.Store first))) c.text.ensures c.in-Ok.ensures.survives) in
    subst (λ h. IfErr c.all_pass.result (HasCause (state g.S.Store first) (state g.S.Store h))) same
    (walk_cause (state g.S.Store first) (state g.S.Store mid) (state g.S.Store end) begins c.all_pass.ensures.survives c.all_pass.result (c.all_pass.ensures.cause (λ late.
    let before : HasCleanDisk (state g.S.Store mid) = omega (arith, c.all_pass.ensures.survives.clean, late) in
    let start = begun g.S.Store c.args.table [] first mid (subst (λ t. HasBegun g.S.Store t [] first mid) c.text.ensures (c.in-Ok.ensures.begun before)) in
    let here : Laid (state g.S.Store mid) = λ live. subst (λ (d : Database). IsLaidOut d.schema) (sym start.1.0.now_is) (laid (subst (λ h. HasCleanDisk (state g.S.Store h)) same late) start.1.0.was_open) in
    (here, start.0))))
