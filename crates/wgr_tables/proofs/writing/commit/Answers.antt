use Rattle.std.proofs.Common.{rules, ◌≡◌, ◌∷◌, Result, Ok, Err, OnOk, IfErr, IsErrAnd, sym, subst}
use Rattle.sqlite.specs.State.{HasCleanDisk}
use Rattle.sqlite.specs.Held.{state}
use Rattle.wgr_sql.specs.Causes.{HasCauseOr}
use Rattle.wgr_sql.specs.declared.fault.Fault.{Fault}
use Rattle.wgr_sql.proofs.CauseLemmas.{handed}
use Rattle.wgr_sql.proofs.ResultLemmas.{on_err, on_ok, if_err, push_if}
use Rattle.wgr_columns.specs.Decode.{tables_of}
use Rattle.wgr_tables.specs.Standing.{IsDone, Stands}
use Rattle.wgr_tables.proofs.Commits.{undone, done, left}
use Rattle.wgr_tables.proofs.CommitFails.{commit_fails, undone_fails}
use Rattle.wgr_tables.proofs.writing.commit.Goals as goal

never_ok : {X : Type 0} (r : Result X Fault) (why : Fault) (P : Type 0) → IsErrAnd r (λ e. e ≡ why) → OnOk r P
never_ok (Ok x) why P is = absurd is
never_ok (Err e) why P is = tt

pub returns-in_err-run-clause-commits : goal.returns-in_err-run-clause-commits
returns-in_err-run-clause-commits g c =
    let old = c.args.conn.now in
    let mid = c.run.new.tx.conn.now in
    let end = c.drop-tx.new.self.0 in
    let writes = g.W.Writing.writes c.args.writing.now in
    let stops = g.W.Writing.stops c.args.writing.now in
    let begun = c.transaction-tx.ensures.begun in
    let settled = c.is_autocommit-settled.ensures.settled (rw (c.is_autocommit-settled.ensures.value, c.requires.idle)) in
    let same : end ≡ c.conn-1.given.0 = search rules in
    let why = c.in_err-run.field-0.0 in
    record {
      done = λ db pending one stood is clean. never_ok c.from_residual.result why _ c.from_residual.ensures.1;
      fault = λ db pending one stood is. on_err c.from_residual.result _ (subst (λ h. Stands g.S.Store h db (one ∷ pending)) same
          (undone g.S.Store old mid end db pending stood settled (rw begun at c.run.ensures.survives) c.drop-tx.ensures.ended writes one is
          c.run.result (rw begun at c.run.ensures.step) c.drop-tx.ensures.undone c.drop-tx.ensures.survives));
      cause = λ db pending stood. handed (HasCauseOr (stops (tables_of db)) (state g.S.Store old) (state g.S.Store c.conn-1.given.0)) c.from_residual.result why c.from_residual.ensures.1
          (subst (λ h. HasCauseOr (stops (tables_of db)) (state g.S.Store old) (state g.S.Store h) why) same
          (undone_fails g.S.Store old mid end db pending stood stops (rw begun at c.run.ensures.survives) why c.drop-tx.ensures.survives (rw begun at c.in_err-run.ensures.cause)));
    }

pub returns-clause-commits : goal.returns-clause-commits
returns-clause-commits g c =
    let old = c.args.conn.now in
    let mid = c.run.new.tx.conn.now in
    let end = c.commit.new.self.0 in
    let writes = g.W.Writing.writes c.args.writing.now in
    let stops = g.W.Writing.stops c.args.writing.now in
    let begun = c.transaction-tx.ensures.begun in
    let settled = c.is_autocommit-settled.ensures.settled (rw (c.is_autocommit-settled.ensures.value, c.requires.idle)) in
    let same : end ≡ c.conn-2-1.given.0 = search rules in
    let count = c.in_ok-run.field-0 in
    record {
      done = λ db pending one stood is clean.
          let late : HasCleanDisk (state g.S.Store end) = subst (λ h. HasCleanDisk (state g.S.Store h)) (sym same) clean in
          on_ok c.commit.result c.map_err.result _ _ (λ h. subst (λ x. IsDone g.S.Store x db one) same
          (done g.S.Store old mid end db pending stood settled (rw begun at c.run.ensures.survives) c.commit.ensures.ended writes one is
          count (rw begun at c.in_ok-run.ensures.step) c.commit.ensures.survives late h.1
          (λ trees live may. g.met.S.Store.settled end.store trees live may))) (c.commit.ensures.ok late) c.map_err.ensures.variant;
      fault = λ db pending one stood is.
          if_err c.commit.result c.map_err.result _ _ (λ e fails. subst (λ h. Stands g.S.Store h db (one ∷ pending)) same
          (left g.S.Store old mid end db pending stood settled (rw begun at c.run.ensures.survives) c.commit.ensures.ended writes one is
          count (rw begun at c.in_ok-run.ensures.step) c.commit.ensures.survives e fails))
          (push_if c.commit.result _ _ c.commit.ensures.err) c.map_err.ensures.variant;
      cause = λ db pending stood. subst (λ h. IfErr c.map_err.result (HasCauseOr (stops (tables_of db)) (state g.S.Store old) (state g.S.Store h))) same
          (commit_fails g.S.Store old mid end db pending stood stops (rw begun at c.run.ensures.survives) writes count (rw begun at c.in_ok-run.ensures.step)
          _ c.commit.ensures.survives c.commit.result c.map_err.result c.map_err.ensures.cases c.commit.ensures.err);
    }
