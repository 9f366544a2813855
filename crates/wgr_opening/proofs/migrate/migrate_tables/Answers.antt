use Rattle.std.proofs.Common.{◌∙◌, sym, subst, arith}
use Rattle.sqlite.specs.Effect.{Database}
use Rattle.sqlite.specs.State.{HasCleanDisk, State}
use Rattle.sqlite.specs.Held.{state}
use Rattle.wgr_sql.specs.Calls.{IsKept}
use Rattle.wgr_sql.specs.Causes.{HasCauseOr}
use Rattle.wgr_sql.proofs.CauseLemmas.{cause_after}
use Rattle.wgr_columns.specs.Decode.{tables_of}
use Rattle.wgr_schema.specs.Faults.{IfStatementFails}
use Rattle.wgr_schema.specs.Upgrade.{StopsUpgrade}
use Rattle.wgr_schema.specs.declared.version.Version.{Version}
use Rattle.wgr_schema.proofs.CauseLemmas.{told_as}
use Rattle.wgr_opening.specs.Good.{IsReady, IsReadyIn}
use Rattle.wgr_opening.specs.Outlines.{AreOutlines, outline_in}
use Rattle.sqlite.proofs.StateLemmas.{survives_then}
use Rattle.wgr_opening.proofs.MigrateLemmas.{Present, Earlier, age_of, fails_migrated, handed_on, known_from, may_then, migrated, outlines_stay, survives_migrated}
use Rattle.wgr_opening.proofs.migrate.migrate_tables.Goals as goal

-- the tables are still of the version that was found
ready : (version : Version) (old mid : State) → HasCleanDisk mid → IsKept old mid → IsReady version old.now → IsReadyIn version mid
ready version old mid clean kept is live = subst (IsReady version) (sym (kept clean live).1) is

pub returns-in_err-outlines-clause-cause : goal.returns-in_err-outlines-clause-cause
returns-in_err-outlines-clause-cause g c =
    let old = state g.S.Store c.args.conn.now in
    let mid = state g.S.Store c.version_from.new.conn in
    let new = state g.S.Store c.audited.new.conn in
    handed_on (IfStatementFails (HasCauseOr (StopsUpgrade old.now) old new)) c.from_residual-in_err-outlines.result c.in_err-outlines.field-0.0 c.from_residual-in_err-outlines.ensures.1 (λ why is.
    cause_after old mid new ⊥ (StopsUpgrade old.now) (λ _. ⊥) (λ _. ⊥) c.version_from.ensures.survives c.audited.ensures.survives (λ none. absurd none) why
    (c.in_err-outlines.ensures.cause (λ clean.
    let before : HasCleanDisk mid = omega (arith, c.audited.ensures.survives.clean, clean) in
    ready c.in_ok-version.version old mid before c.version_from.ensures.kept (c.in_ok-version.ensures.right before).0) why is))

pub returns-in-Ok-clause-done : goal.returns-in-Ok-clause-done
returns-in-Ok-clause-done g c clean =
    let old = c.args.conn.now in
    let first = c.version_from.new.conn in
    let mid = c.audited.new.conn in
    let end = c.upgrade.new.conn in
    let version = c.in_ok-version.version in
    let back : HasCleanDisk (state g.S.Store mid) → HasCleanDisk (state g.S.Store first) = λ clean. omega (arith, c.audited.ensures.survives.clean, clean) in
    let still : HasCleanDisk (state g.S.Store end) → HasCleanDisk (state g.S.Store mid) = λ clean. omega (arith, c.upgrade.ensures.survives.clean, clean) in
    let known = λ (d : Database). AreOutlines (outline_in c.in_ok-outlines.outlines) (tables_of d) in
    let all = known_from g.S.Store version old first mid known back c.version_from.ensures.kept c.in_ok-version.ensures.right c.in_ok-outlines.ensures.good in
    let it = migrated g.S.Store version old mid end known still all clean (λ earlier. c.in-Ok.ensures.live clean (may_then g.S.Store version old mid end known still all earlier clean) earlier) (c.in-Ok.ensures.done clean) (c.in-Ok.ensures.stands clean)
    (λ third. (c.upgrade.ensures.same third).0) in
    (it.0, it.1, it.2, outlines_stay (outline_in c.in_ok-outlines.outlines) (state g.S.Store old).now it.0 it.1 (all (still clean)).4)

pub returns-in-Ok-clause-survives : goal.returns-in-Ok-clause-survives
returns-in-Ok-clause-survives g c =
    let old = c.args.conn.now in
    let first = c.version_from.new.conn in
    let mid = c.audited.new.conn in
    let end = c.upgrade.new.conn in
    let version = c.in_ok-version.version in
    let back : HasCleanDisk (state g.S.Store mid) → HasCleanDisk (state g.S.Store first) = λ clean. omega (arith, c.audited.ensures.survives.clean, clean) in
    let still : HasCleanDisk (state g.S.Store end) → HasCleanDisk (state g.S.Store mid) = λ clean. omega (arith, c.upgrade.ensures.survives.clean, clean) in
    let known = λ (d : Database). AreOutlines (outline_in c.in_ok-outlines.outlines) (tables_of d) in
    let all = known_from g.S.Store version old first mid known back c.version_from.ensures.kept c.in_ok-version.ensures.right c.in_ok-outlines.ensures.good in
    let begun = survives_then (state g.S.Store old) (state g.S.Store first) (state g.S.Store mid) (λ _. ⊥) (λ _. ⊥) (λ _. ⊥) (λ _ _ none. none) (λ _ _ none. none) c.version_from.ensures.survives c.audited.ensures.survives in
    survives_migrated g.S.Store version old mid end known still all begun c.upgrade.ensures.survives (λ third. (c.upgrade.ensures.same third).0)

pub returns-in-Err-clause-survives : goal.returns-in-Err-clause-survives
returns-in-Err-clause-survives g c =
    let old = c.args.conn.now in
    let first = c.version_from.new.conn in
    let mid = c.audited.new.conn in
    let end = c.upgrade.new.conn in
    let version = c.in_ok-version.version in
    let back : HasCleanDisk (state g.S.Store mid) → HasCleanDisk (state g.S.Store first) = λ clean. omega (arith, c.audited.ensures.survives.clean, clean) in
    let still : HasCleanDisk (state g.S.Store end) → HasCleanDisk (state g.S.Store mid) = λ clean. omega (arith, c.upgrade.ensures.survives.clean, clean) in
    let known = λ (d : Database). AreOutlines (outline_in c.in_ok-outlines.outlines) (tables_of d) in
    let all = known_from g.S.Store version old first mid known back c.version_from.ensures.kept c.in_ok-version.ensures.right c.in_ok-outlines.ensures.good in
    let begun = survives_then (state g.S.Store old) (state g.S.Store first) (state g.S.Store mid) (λ _. ⊥) (λ _. ⊥) (λ _. ⊥) (λ _ _ none. none) (λ _ _ none. none) c.version_from.ensures.survives c.audited.ensures.survives in
    survives_migrated g.S.Store version old mid end known still all begun c.upgrade.ensures.survives (λ third. (c.upgrade.ensures.same third).0)

pub returns-in-Err-clause-kept : goal.returns-in-Err-clause-kept
returns-in-Err-clause-kept g c clean live =
    let old = c.args.conn.now in
    let first = c.version_from.new.conn in
    let mid = c.audited.new.conn in
    let end = c.upgrade.new.conn in
    let version = c.in_ok-version.version in
    let back : HasCleanDisk (state g.S.Store mid) → HasCleanDisk (state g.S.Store first) = λ clean. omega (arith, c.audited.ensures.survives.clean, clean) in
    let still : HasCleanDisk (state g.S.Store end) → HasCleanDisk (state g.S.Store mid) = λ clean. omega (arith, c.upgrade.ensures.survives.clean, clean) in
    let known = λ (d : Database). AreOutlines (outline_in c.in_ok-outlines.outlines) (tables_of d) in
    let all = known_from g.S.Store version old first mid known back c.version_from.ensures.kept c.in_ok-version.ensures.right c.in_ok-outlines.ensures.good in
    elim (age_of version) [
      | Present third ↦ absurd (c.in-Err.ensures.same third).1
      | Earlier earlier ↦
          let third = c.in-Err.ensures.kept (may_then g.S.Store version old mid end known still all earlier) clean live in
          let second = c.audited.ensures.kept (λ now. ready version (state g.S.Store old) (state g.S.Store first) (back now) c.version_from.ensures.kept (c.in_ok-version.ensures.right (back now)).0) (still clean) third.0 in
          let one = c.version_from.ensures.kept (back (still clean)) second.0 in
          (one.0, third.1 ∙ second.1 ∙ one.1)
    ]

pub returns-in-Err-clause-cause : goal.returns-in-Err-clause-cause
returns-in-Err-clause-cause g c =
    let old = c.args.conn.now in
    let first = c.version_from.new.conn in
    let mid = c.audited.new.conn in
    let end = c.upgrade.new.conn in
    let version = c.in_ok-version.version in
    let back : HasCleanDisk (state g.S.Store mid) → HasCleanDisk (state g.S.Store first) = λ clean. omega (arith, c.audited.ensures.survives.clean, clean) in
    let still : HasCleanDisk (state g.S.Store end) → HasCleanDisk (state g.S.Store mid) = λ clean. omega (arith, c.upgrade.ensures.survives.clean, clean) in
    let known = λ (d : Database). AreOutlines (outline_in c.in_ok-outlines.outlines) (tables_of d) in
    let all = known_from g.S.Store version old first mid known back c.version_from.ensures.kept c.in_ok-version.ensures.right c.in_ok-outlines.ensures.good in
    let begun = survives_then (state g.S.Store old) (state g.S.Store first) (state g.S.Store mid) (λ _. ⊥) (λ _. ⊥) (λ _. ⊥) (λ _ _ none. none) (λ _ _ none. none) c.version_from.ensures.survives c.audited.ensures.survives in
    told_as (HasCauseOr (StopsUpgrade (state g.S.Store old).now) (state g.S.Store old) (state g.S.Store end)) c.register_fault.result c.in-Err.fault c.register_fault.ensures.value
    (elim (age_of version) [
      | Present third ↦ absurd (c.in-Err.ensures.same third).1
      | Earlier earlier ↦ fails_migrated g.S.Store version old mid end known still all begun c.upgrade.ensures.survives c.in-Err.fault (c.in-Err.ensures.cause (may_then g.S.Store version old mid end known still all earlier))
    ])
