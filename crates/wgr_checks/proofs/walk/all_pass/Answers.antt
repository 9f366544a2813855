use Rattle.std.proofs.Common.{rules, ◌≡◌, [], ◌∷◌, ◌++◌, ◌<◌, ℤ, Some, None, Err, IfSome, refl, sym, ap, subst, ◌∙◌, arith, SFits, w64}
use Rattle.std.specs.Option.{option_copied}
use Rattle.std.specs.Ordering.{int_cmp}
use Rattle.std.specs.declared.cmp.Ordering.TheVariants.{Less}
use Rattle.std.proofs.lemmas.Int.{to_z-of_z}
use Rattle.sqlite.specs.State.{HasCleanDisk, IsUnchanged}
use Rattle.sqlite.specs.Held.{state}
use Rattle.sqlite.specs.Given.{Advances, GivesOn, row_if}
use Rattle.wgr_sql.specs.Causes.{HasCause}
use Rattle.wgr_sql.proofs.CauseLemmas.{handed}
use Rattle.wgr_sql.proofs.SurvivesLemmas.{survives_still, survives_next}
use Rattle.wgr_checks.specs.TableRows.{IsRowOf, text_of}
use Rattle.wgr_checks.specs.Walked.{still_to_come}
use Rattle.wgr_checks.proofs.StreamLemmas.{fewer_to_come, must_pass, still_then, walked_next, walked_none, whole}
use Rattle.wgr_checks.proofs.WalkCauses.{advance_cause}
use Rattle.wgr_checks.proofs.walk.all_pass.Goals as goal

pub rows-init : goal.rows-init
rows-init g c = (
  refl,
  (λ idle. idle),
  survives_still (state g.S.Store c.args.rows.now.conn.now),
  (λ clean live. (live, refl, refl)),
  (λ clean given. ([], given, λ up. walked_none (IsRowOf c.args.table c.args.networks.now))),
  tt,
)

pub returns-in_default-clause-answer : goal.returns-in_default-clause-answer
returns-in_default-clause-answer g c clean laid up given =
    let text = text_of c.args.table in
    let mid = c.rows.rows.conn.now in
    let new = c.advance.new.self.conn.now in
    let before : HasCleanDisk (state g.S.Store mid) = omega (arith, c.advance.ensures.survives.clean, clean) in
    let walk = c.rows.invariant.4 before given in
    let moved = c.advance.ensures.ok clean in
    let advanced : Advances g.S.Store mid new (row_if c.advance.new.self.has_row new) = search (rules, moved) in
    let none : row_if c.advance.new.self.has_row new ≡ None = sym c.get.ensures ∙ ap option_copied c.in_default.is in
    let shown = subst (GivesOn g.S.Store text [] mid new walk.0) none (advanced text [] walk.0 walk.1) in (
      (λ so. whole c.args.table c.args.networks.now (state g.S.Store c.args.rows.now.conn.now) (state g.S.Store mid) (state g.S.Store new) laid (c.rows.invariant.3 before) walk.0 c.rows.last (walk.2 up) shown),
      (λ all. refl),
    )

pub returns-in_default-passing_rowid-clause-answer : goal.returns-in_default-passing_rowid-clause-answer
returns-in_default-passing_rowid-clause-answer g c clean laid up given =
    let text = text_of c.args.table in
    let mid = c.rows.rows.conn.now in
    let new = c.advance.new.self.conn.now in
    let row = c.in-Some.row.now in
    let before : HasCleanDisk (state g.S.Store mid) = omega (arith, c.advance.ensures.survives.clean, clean) in
    let walk = c.rows.invariant.4 before given in
    let moved = c.advance.ensures.ok clean in
    let rested = c.advance.ensures.same clean in
    let advanced : Advances g.S.Store mid new (row_if c.advance.new.self.has_row new) = search (rules, moved) in
    let same : IsUnchanged (state g.S.Store mid) (state g.S.Store new) = search (rules, rested) in
    let some : row_if c.advance.new.self.has_row new ≡ Some row = sym c.get.ensures ∙ ap option_copied c.in-Some.is in
    let more = subst (GivesOn g.S.Store text [] mid new walk.0) some (advanced text [] walk.0 walk.1) in
    let old = state g.S.Store c.args.rows.now.conn.now in
    let still = still_then old (state g.S.Store mid) (state g.S.Store new) (c.rows.invariant.3 before) same in (
      (λ never. search rules),
      (λ good.
          let passes = must_pass c.args.table c.args.networks.now g.S.Store old new laid still walk.0 c.rows.last row (walk.2 up) more good in
          absurd (c.in_default-passing_rowid.ensures.none up passes.0 passes.1 passes.2)),
    )

pub rows-preserved : goal.rows-preserved
rows-preserved g c =
    let text = text_of c.args.table in
    let mid = c.rows.rows.conn.now in
    let new = c.advance.new.self.conn.now in
    let row = c.in-Some.row.now in
    let start = state g.S.Store c.args.rows.now.conn.now in
    let back : HasCleanDisk (state g.S.Store new) → HasCleanDisk (state g.S.Store mid) = λ clean. omega (arith, c.advance.ensures.survives.clean, clean) in (
      c.advance.ensures.same_reference ∙ c.rows.invariant.0,
      (λ idle. c.advance.ensures.mode (c.rows.invariant.1 idle)),
      survives_next start (state g.S.Store mid) (state g.S.Store new) c.rows.invariant.2 c.advance.ensures.survives,
      (λ clean.
          let rested = c.advance.ensures.same clean in
          let same : IsUnchanged (state g.S.Store mid) (state g.S.Store new) = search (rules, rested) in
          still_then start (state g.S.Store mid) (state g.S.Store new) (c.rows.invariant.3 (back clean)) same),
      (λ clean given.
          let walk = c.rows.invariant.4 (back clean) given in
          let moved = c.advance.ensures.ok clean in
          let advanced : Advances g.S.Store mid new (row_if c.advance.new.self.has_row new) = search (rules, moved) in
          let some : row_if c.advance.new.self.has_row new ≡ Some row = sym c.get.ensures ∙ ap option_copied c.in-Some.is in
          let rowid = c.in-Some-passing_rowid.rowid in
          let fits : SFits w64 rowid = search rules in
          let itself = sym (to_z-of_z w64 rowid fits) in (
            walk.0 ++ row ∷ [],
            subst (GivesOn g.S.Store text [] mid new walk.0) some (advanced text [] walk.0 walk.1),
            λ up.
                let passed = c.in-Some-passing_rowid.ensures.some up in
                walked_next (IsRowOf c.args.table c.args.networks.now) walk.0 c.rows.last row (walk.2 up) passed.0 passed.1 _ (sym itself ∙ passed.2) (subst (λ (z : ℤ). IfSome c.rows.last (λ y. int_cmp y z ≡ Less)) itself passed.3),
          )),
      search rules,
    )

pub rows-smaller : goal.rows-smaller
rows-smaller g c =
    let rowid = c.in-Some-passing_rowid.rowid in
    let fits : SFits w64 rowid = search rules in
    subst (λ (z : ℤ). still_to_come (Some z) < still_to_come c.rows.last) (sym (to_z-of_z w64 rowid fits)) (fewer_to_come c.rows.last rowid fits c.in-Some-passing_rowid.ensures.rises)

pub returns-in_err-map_err-clause-cause : goal.returns-in_err-map_err-clause-cause
returns-in_err-map_err-clause-cause g c known =
    let start = state g.S.Store c.args.rows.now.conn.now in
    let mid = c.rows.rows.conn.now in
    let new = c.advance.new.self.conn.now in
    let why = c.in_err-map_err.field-0.0 in
    handed (HasCause start (state g.S.Store new)) c.from_residual.result why c.from_residual.ensures.1
    (advance_cause g.S.Store c.args.table start mid new c.rows.invariant.2 c.rows.invariant.3 c.advance.ensures.survives
    (λ clean.
    let before : HasCleanDisk (state g.S.Store mid) = omega (arith, c.advance.ensures.survives.clean, clean) in
    let it = known clean in
    let walk = c.rows.invariant.4 before it.1 in
    (it.0, (walk.0, walk.1)))
    c.advance.result (Err why) c.in_err-map_err.ensures.cases c.advance.ensures.err)
