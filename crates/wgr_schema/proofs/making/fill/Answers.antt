use Rattle.std.proofs.Common.{rules, ◌≡◌, [], IfErr, refl, sym, subst, arith}
use Rattle.sqlite.specs.Effect.{Database}
use Rattle.sqlite.specs.State.{HasCleanDisk}
use Rattle.sqlite.specs.Held.{state}
use Rattle.wgr_sql.proofs.ResultLemmas.{on_ok}
use Rattle.wgr_tables.specs.Standing.{Stands}
use Rattle.wgr_sql.specs.Causes.{HasCause}
use Rattle.wgr_sql.proofs.CauseLemmas.{handed}
use Rattle.wgr_schema.specs.Fresh.{HasBlank, IsFresh, no_schema}
use Rattle.wgr_schema.proofs.FailLemmas.{commit_fails, undone_fails}
use Rattle.wgr_schema.proofs.StandsLemmas.{stands_fresh}
use Rattle.wgr_schema.proofs.making.fill.Goals as goal

pub returns-clause-done : goal.returns-clause-done
returns-clause-done g c clean =
    let mid = c.make_all.new.tx.conn.now in
    let end = c.commit.new.self.0 in
    let same : end ≡ c.conn-2-1.given.0 = search rules in
    let late : HasCleanDisk (state g.S.Store end) = subst (λ h. HasCleanDisk (state g.S.Store h)) (sym same) clean in
    let before : HasCleanDisk (state g.S.Store mid) = omega (arith, c.commit.ensures.survives.clean, late) in
    let begun = c.transaction-tx.ensures.begun in
    let made = (rw begun at c.in_ok-make_all.ensures.step) before refl (λ live. record { schema_is = c.requires.empty; blank = tt }) in
    on_ok c.commit.result c.map_err.result _ _ (λ h. subst (λ x. (db : Database) × IsFresh db × Stands g.S.Store x db []) same
    (stands_fresh g.S.Store mid end c.commit.ensures.ended made.1.0 h.1 (λ trees live may. g.met.S.Store.settled end.store trees live may))) (c.commit.ensures.ok late) c.map_err.ensures.variant

pub returns-in_err-make_all-clause-cause : goal.returns-in_err-make_all-clause-cause
returns-in_err-make_all-clause-cause g c =
    let old = c.args.conn.now in
    let end = c.drop-tx.new.self.0 in
    let begun = c.transaction-tx.ensures.begun in
    let same : end ≡ c.conn-1.given.0 = search rules in
    handed (HasCause (state g.S.Store old) (state g.S.Store c.conn-1.given.0)) c.from_residual.result c.in_err-make_all.field-0.0 c.from_residual.ensures.1
    (subst (λ h. HasCause (state g.S.Store old) (state g.S.Store h) c.in_err-make_all.field-0.0) same
    (undone_fails g.S.Store old c.make_all.new.tx.conn.now end (HasBlank no_schema) IsFresh (record { schema_is = c.requires.empty; blank = tt }) (rw begun at c.make_all.ensures.survives) c.in_err-make_all.field-0.0 c.drop-tx.ensures.survives
    (rw begun at c.in_err-make_all.ensures.cause)))

pub returns-clause-cause : goal.returns-clause-cause
returns-clause-cause g c =
    let old = c.args.conn.now in
    let end = c.commit.new.self.0 in
    let begun = c.transaction-tx.ensures.begun in
    let same : end ≡ c.conn-2-1.given.0 = search rules in
    subst (λ h. IfErr c.map_err.result (HasCause (state g.S.Store old) (state g.S.Store h))) same
    (commit_fails g.S.Store old c.make_all.new.tx.conn.now end (HasBlank no_schema) IsFresh (record { schema_is = c.requires.empty; blank = tt }) (rw begun at c.make_all.ensures.survives) c.in_ok-make_all.field-0
    (rw begun at c.in_ok-make_all.ensures.step) _ c.commit.ensures.survives c.commit.result c.map_err.result c.map_err.ensures.cases c.commit.ensures.err)
