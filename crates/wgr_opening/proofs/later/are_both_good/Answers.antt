use Rattle.std.proofs.Common.{rules, codes, sym, subst, arith}
use Rattle.sqlite.specs.Effect.{Database}
use Rattle.sqlite.specs.State.{HasCleanDisk}
use Rattle.sqlite.specs.Held.{state}
use Rattle.wgr_sql.specs.Causes.{HasCause}
use Rattle.wgr_sql.specs.Named.{rows_named}
use Rattle.wgr_sql.proofs.CauseLemmas.{handed}
use Rattle.wgr_sql.proofs.ResultLemmas.{if_ok}
use Rattle.wgr_schema.specs.declared.version.Version.TheVariants.{Three}
use Rattle.wgr_checks.specs.Later.{HasReadersToo}
use Rattle.wgr_checks.specs.ReaderRows.{AreGoodReaders}
use Rattle.wgr_checks.specs.TokenRows.{HaveOwnDigests}
use Rattle.wgr_checks.proofs.NextLemmas.{both_kept, either_fails, second_holds}
use Rattle.wgr_opening.specs.Good.{IsReady}
use Rattle.wgr_opening.proofs.later.are_both_good.Goals as goal

pub returns-in_err-has_no_seconds-clause-cause : goal.returns-in_err-has_no_seconds-clause-cause
returns-in_err-has_no_seconds-clause-cause g c ready =
    handed (HasCause (state g.S.Store c.args.conn.now) (state g.S.Store c.has_no_seconds.new.conn)) c.from_residual.result c.in_err-has_no_seconds.field-0.0 c.from_residual.ensures.1
    (c.in_err-has_no_seconds.ensures.cause (λ clean live. (ready clean live).0.2.0))

pub returns-then-not-branch-clause-answer : goal.returns-then-not-branch-clause-answer
returns-then-not-branch-clause-answer g c clean ready =
    let first = c.in_ok-has_no_seconds.ensures.answer clean (λ live. (ready live).0.2.0) in
    (first.0, λ own. ((λ never. search rules), (λ good. let so = first.1.1 good.seconds in search (rules, so))))

pub returns-clause-answer : goal.returns-clause-answer
returns-clause-answer g c clean ready =
    let old = state g.S.Store c.args.conn.now in
    let mid = state g.S.Store c.has_no_seconds.new.conn in
    let new = state g.S.Store c.readers_are_good.new.conn in
    let before : HasCleanDisk mid = omega (arith, c.readers_are_good.ensures.survives.clean, clean) in
    let first = c.in_ok-has_no_seconds.ensures.answer before (λ live. (ready live).0.2.0) in
    let kept = c.has_no_seconds.ensures.kept (λ clean live. (ready live).0.2.0) in
    if_ok c.readers_are_good.result _ _ (λ is told.
    let same = (kept before told.0).1 in (
      first.0,
      λ own.
          let all = told.1 (subst (λ (d : Database). HaveOwnDigests (d.trees 3)) (sym same) own) in (
            (λ so. record { seconds = first.1.0 c.if-not-branch.false; readers = subst (λ (d : Database). AreGoodReaders (d.trees 3) (rows_named d (codes "reader"))) same (all.0 so) }),
            (λ good. all.1 (subst (λ (d : Database). AreGoodReaders (d.trees 3) (rows_named d (codes "reader"))) (sym same) good.readers)),
          ),
    ))
    (c.readers_are_good.ensures.answer clean
    (second_holds (IsReady Three) HasReadersToo (λ db is. (is.0.0, is.0.2.1)) old mid new c.has_no_seconds.ensures.survives c.readers_are_good.ensures.survives
    (λ before. c.has_no_seconds.ensures.kept (λ clean live. (before clean live).0.2.0)) (λ _. ready) clean))

pub returns-clause-kept : goal.returns-clause-kept
returns-clause-kept g c ready =
    let old = state g.S.Store c.args.conn.now in
    let mid = state g.S.Store c.has_no_seconds.new.conn in
    let new = state g.S.Store c.readers_are_good.new.conn in
    both_kept (IsReady Three) HasReadersToo (λ db is. (is.0.0, is.0.2.1)) old mid new c.has_no_seconds.ensures.survives c.readers_are_good.ensures.survives
    (λ before. c.has_no_seconds.ensures.kept (λ clean live. (before clean live).0.2.0)) ready c.readers_are_good.ensures.kept

pub returns-clause-cause : goal.returns-clause-cause
returns-clause-cause g c ready =
    let old = state g.S.Store c.args.conn.now in
    let mid = state g.S.Store c.has_no_seconds.new.conn in
    let new = state g.S.Store c.readers_are_good.new.conn in
    either_fails (IsReady Three) HasReadersToo (λ db is. (is.0.0, is.0.2.1)) old mid new c.has_no_seconds.ensures.survives c.readers_are_good.ensures.survives
    (λ before. c.has_no_seconds.ensures.kept (λ clean live. (before clean live).0.2.0)) ready c.readers_are_good.result c.readers_are_good.ensures.cause
