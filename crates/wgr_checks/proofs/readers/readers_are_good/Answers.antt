use Rattle.std.proofs.Common.{codes, sym, subst, arith}
use Rattle.sqlite.specs.Effect.{Database}
use Rattle.sqlite.specs.State.{HasCleanDisk}
use Rattle.sqlite.specs.Held.{state}
use Rattle.wgr_sql.specs.Causes.{HasCause}
use Rattle.wgr_sql.specs.Named.{rows_named}
use Rattle.wgr_sql.proofs.CauseLemmas.{handed}
use Rattle.wgr_sql.proofs.ResultLemmas.{if_ok}
use Rattle.wgr_checks.specs.Later.{HasReadersToo}
use Rattle.wgr_checks.specs.ReaderRows.{HaveTokenDigests}
use Rattle.wgr_checks.specs.TokenRows.{HaveOwnDigests}
use Rattle.wgr_checks.proofs.NextLemmas.{either_fails, second_holds}
use Rattle.wgr_checks.proofs.readers.readers_are_good.Goals as goal

pub returns-in_err-readers_have_own_rowids-clause-cause : goal.returns-in_err-readers_have_own_rowids-clause-cause
returns-in_err-readers_have_own_rowids-clause-cause g c may =
    handed (HasCause (state g.S.Store c.args.conn.now) (state g.S.Store c.readers_have_own_rowids.new.conn)) c.from_residual.result c.in_err-readers_have_own_rowids.field-0.0 c.from_residual.ensures.1 (c.in_err-readers_have_own_rowids.ensures.cause may)

pub returns-clause-answer : goal.returns-clause-answer
returns-clause-answer g c clean may =
    let old = state g.S.Store c.args.conn.now in
    let mid = state g.S.Store c.readers_have_own_rowids.new.conn in
    let new = state g.S.Store c.have_token_digests.new.conn in
    let before : HasCleanDisk mid = omega (arith, c.have_token_digests.ensures.survives.clean, clean) in
    let first = c.in_ok-readers_have_own_rowids.ensures.answer before may in
    let kept = c.readers_have_own_rowids.ensures.kept (λ _. may) in
    if_ok c.have_token_digests.result _ _ (λ is told.
    let same = (kept before told.0).1 in (
      first.0,
      λ own.
          let all = told.1 (subst (λ (d : Database). HaveOwnDigests (d.trees 3)) (sym same) own) in (
            (λ so. record { own_rowids = first.1.0 c.if-not-branch.false; of_tokens = subst (λ (d : Database). HaveTokenDigests (d.trees 3) (rows_named d (codes "reader"))) same (all.0 so) }),
            (λ good. all.1 (subst (λ (d : Database). HaveTokenDigests (d.trees 3) (rows_named d (codes "reader"))) (sym same) good.of_tokens)),
          ),
    ))
    (c.have_token_digests.ensures.answer clean (second_holds HasReadersToo HasReadersToo (λ db is. is) old mid new c.readers_have_own_rowids.ensures.survives c.have_token_digests.ensures.survives c.readers_have_own_rowids.ensures.kept (λ _. may) clean))

pub returns-clause-cause : goal.returns-clause-cause
returns-clause-cause g c may =
    let old = state g.S.Store c.args.conn.now in
    let mid = state g.S.Store c.readers_have_own_rowids.new.conn in
    let new = state g.S.Store c.have_token_digests.new.conn in
    either_fails HasReadersToo HasReadersToo (λ db is. is) old mid new c.readers_have_own_rowids.ensures.survives c.have_token_digests.ensures.survives c.readers_have_own_rowids.ensures.kept may c.have_token_digests.result c.have_token_digests.ensures.cause
