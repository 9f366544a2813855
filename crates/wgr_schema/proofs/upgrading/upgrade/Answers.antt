use Rattle.std.proofs.Common.{rules, ◌≡◌, not, [], IfErr, IsTrue, OnErr, refl, sym, ap, subst, ◌∙◌, true≢false}
use Rattle.sqlite.specs.State.{HasCleanDisk, Survives}
use Rattle.sqlite.specs.Held.{state}
use Rattle.wgr_sql.specs.Calls.{IsKept}
use Rattle.wgr_sql.specs.Causes.{HasCauseOr}
use Rattle.wgr_sql.proofs.CauseLemmas.{handed}
use Rattle.wgr_sql.proofs.ResultLemmas.{on_err, on_ok}
use Rattle.wgr_tables.specs.Standing.{Stands}
use Rattle.wgr_schema.specs.Upgrade.{Begins, IsUpgraded, LeavesUpgraded, MayUpgrade, StopsUpgrade}
use Rattle.wgr_schema.specs.declared.version.Version.TheVariants.{Three}
use Rattle.wgr_schema.proofs.UpgradeEnds.{clean_before, commit_kept, present, stands_written, survives_written, undone_kept, written}
use Rattle.wgr_schema.proofs.UpgradeStops.{commit_stops, undone_stops}
use Rattle.wgr_schema.proofs.upgrading.upgrade.Goals as goal

pub returns-then-is_third-clause-done : goal.returns-then-is_third-clause-done
returns-then-is_third-clause-done g c clean may =
    let is : c.args.from ≡ Three = c.if-is_third.ensures.is refl in
    present c.args.from (state g.S.Store c.args.conn.now).now is may

pub returns-clause-done : goal.returns-clause-done
returns-clause-done g c clean may =
    let old = c.args.conn.now in
    let mid = c.write_third.new.tx.conn.now in
    let end = c.commit.new.self.0 in
    let later : c.args.from ≡ Three → ⊥ = λ e. true≢false (sym (c.if-is_third.ensures.only e)) in
    let same : end ≡ c.conn-2-1.given.0 = search rules in
    let late : HasCleanDisk (state g.S.Store end) = subst (λ h. HasCleanDisk (state g.S.Store h)) (sym same) clean in
    let before : HasCleanDisk (state g.S.Store mid) = clean_before (state g.S.Store mid) (state g.S.Store end) c.commit.ensures.survives late in
    let begun = c.transaction-tx.ensures.begun in
    let made = written g.S.Store old mid end c.args.from later c.in_ok-write_third.field-0 (rw begun at c.in_ok-write_third.ensures.step) before may in
    on_ok c.commit.result c.map_err.result _ _ (λ h. subst (λ x. IsUpgraded (state g.S.Store old).now (state g.S.Store x).now) same
    (subst (IsUpgraded (state g.S.Store old).now) (sym h.1.now_is) made)) (c.commit.ensures.ok late) c.map_err.ensures.variant

pub returns-clause-stands : goal.returns-clause-stands
returns-clause-stands g c clean may live =
    let old = c.args.conn.now in
    let mid = c.write_third.new.tx.conn.now in
    let end = c.commit.new.self.0 in
    let later : c.args.from ≡ Three → ⊥ = λ e. true≢false (sym (c.if-is_third.ensures.only e)) in
    let same : end ≡ c.conn-2-1.given.0 = search rules in
    let late : HasCleanDisk (state g.S.Store end) = subst (λ h. HasCleanDisk (state g.S.Store h)) (sym same) clean in
    let before : HasCleanDisk (state g.S.Store mid) = clean_before (state g.S.Store mid) (state g.S.Store end) c.commit.ensures.survives late in
    let begun = c.transaction-tx.ensures.begun in
    let made = written g.S.Store old mid end c.args.from later c.in_ok-write_third.field-0 (rw begun at c.in_ok-write_third.ensures.step) before may in
    on_ok c.commit.result c.map_err.result _ _ (λ h. subst (λ x. Stands g.S.Store x (state g.S.Store x).now []) same
    (stands_written g.S.Store old mid end c.commit.ensures.ended h.1 made.register (λ trees shown left. g.met.S.Store.settled end.store trees shown left))) (c.commit.ensures.ok late) c.map_err.ensures.variant

pub returns-then-is_third-clause-live : goal.returns-then-is_third-clause-live
returns-then-is_third-clause-live g c clean may later = absurd (later (c.if-is_third.ensures.is refl))

pub returns-clause-live : goal.returns-clause-live
returns-clause-live g c clean may later =
    let old = c.args.conn.now in
    let mid = c.write_third.new.tx.conn.now in
    let end = c.commit.new.self.0 in
    let same : end ≡ c.conn-2-1.given.0 = search rules in
    let late : HasCleanDisk (state g.S.Store end) = subst (λ h. HasCleanDisk (state g.S.Store h)) (sym same) clean in
    let before : HasCleanDisk (state g.S.Store mid) = clean_before (state g.S.Store mid) (state g.S.Store end) c.commit.ensures.survives late in
    let begun = c.transaction-tx.ensures.begun in
    let step = rw begun at c.in_ok-write_third.ensures.step in
    let it = step before (state g.S.Store old).now refl (λ live. record { same = refl; may = may live; older = later }) in
    on_ok c.commit.result c.map_err.result _ _ (λ h. it.0.was_open h.1.was_open) (c.commit.ensures.ok late) c.map_err.ensures.variant

pub returns-in_err-write_third-clause-kept : goal.returns-in_err-write_third-clause-kept
returns-in_err-write_third-clause-kept g c may =
    let old = c.args.conn.now in
    let mid = c.write_third.new.tx.conn.now in
    let end = c.drop-tx.new.self.0 in
    let later : c.args.from ≡ Three → ⊥ = λ e. true≢false (sym (c.if-is_third.ensures.only e)) in
    let same : end ≡ c.conn-1.given.0 = search rules in
    let begun = c.transaction-tx.ensures.begun in
    let step = rw begun at c.in_err-write_third.ensures.step in
    on_err c.from_residual.result _ (subst (λ h. IsKept (state g.S.Store old) (state g.S.Store h)) same
    (undone_kept g.S.Store old mid end (c.is_autocommit-settled.ensures.settled (c.is_autocommit-settled.ensures.value ∙ ap not c.requires.idle))
    (λ clean. let before : HasCleanDisk (state g.S.Store mid) = clean_before (state g.S.Store mid) (state g.S.Store end) c.drop-tx.ensures.survives clean in
    (step before (state g.S.Store old).now refl (λ live. record { same = refl; may = may (subst (λ h. HasCleanDisk (state g.S.Store h)) same clean) live; older = later })).0) c.drop-tx.ensures.undone))

pub returns-clause-kept : goal.returns-clause-kept
returns-clause-kept g c may =
    let old = c.args.conn.now in
    let mid = c.write_third.new.tx.conn.now in
    let end = c.commit.new.self.0 in
    let later : c.args.from ≡ Three → ⊥ = λ e. true≢false (sym (c.if-is_third.ensures.only e)) in
    let same : end ≡ c.conn-2-1.given.0 = search rules in
    let begun = c.transaction-tx.ensures.begun in
    let step = rw begun at c.in_ok-write_third.ensures.step in
    subst (λ h. OnErr c.map_err.result (IsKept (state g.S.Store old) (state g.S.Store h))) same
    (commit_kept g.S.Store old mid end (c.is_autocommit-settled.ensures.settled (c.is_autocommit-settled.ensures.value ∙ ap not c.requires.idle)) c.commit.result c.map_err.result c.map_err.ensures.variant
    (λ clean. let before : HasCleanDisk (state g.S.Store mid) = clean_before (state g.S.Store mid) (state g.S.Store end) c.commit.ensures.survives clean in
    let it = step before (state g.S.Store old).now refl (λ live. record { same = refl; may = may (subst (λ h. HasCleanDisk (state g.S.Store h)) same clean) live; older = later }) in (it.0, it.1.1.mode))
    c.commit.ensures.err)

pub returns-clause-survives : goal.returns-clause-survives
returns-clause-survives g c =
    let old = c.args.conn.now in
    let mid = c.write_third.new.tx.conn.now in
    let end = c.commit.new.self.0 in
    let later : c.args.from ≡ Three → ⊥ = λ e. true≢false (sym (c.if-is_third.ensures.only e)) in
    let same : end ≡ c.conn-2-1.given.0 = search rules in
    let begun = c.transaction-tx.ensures.begun in
    subst (λ h. Survives (state g.S.Store old) (state g.S.Store h) (λ trees. (IsTrue (state g.S.Store old).is_open → MayUpgrade c.args.from (state g.S.Store old).now) → IsTrue (state g.S.Store old).is_open × LeavesUpgraded (state g.S.Store old).now trees)) same
    (survives_written g.S.Store old mid end c.args.from later c.in_ok-write_third.field-0 (rw begun at c.in_ok-write_third.ensures.step) (rw begun at c.write_third.ensures.survives) c.commit.ensures.survives)

pub returns-in_err-write_third-clause-cause : goal.returns-in_err-write_third-clause-cause
returns-in_err-write_third-clause-cause g c may =
    let old = c.args.conn.now in
    let db = (state g.S.Store old).now in
    let mid = c.write_third.new.tx.conn.now in
    let end = c.drop-tx.new.self.0 in
    let later : c.args.from ≡ Three → ⊥ = λ e. true≢false (sym (c.if-is_third.ensures.only e)) in
    let same : end ≡ c.conn-1.given.0 = search rules in
    let begun = c.transaction-tx.ensures.begun in
    handed (HasCauseOr (StopsUpgrade db) (state g.S.Store old) (state g.S.Store c.conn-1.given.0)) c.from_residual.result c.in_err-write_third.field-0.0 c.from_residual.ensures.1
    (subst (λ h. HasCauseOr (StopsUpgrade db) (state g.S.Store old) (state g.S.Store h) c.in_err-write_third.field-0.0) same
    (undone_stops (StopsUpgrade db) g.S.Store old mid end (Begins c.args.from db) (IsUpgraded db) (λ clean live. record { same = refl; may = may (subst (λ h. HasCleanDisk (state g.S.Store h)) same clean) live; older = later })
    (rw begun at c.write_third.ensures.survives) c.in_err-write_third.field-0.0 c.drop-tx.ensures.survives ((rw begun at c.in_err-write_third.ensures.cause) db)))

pub returns-clause-cause : goal.returns-clause-cause
returns-clause-cause g c may =
    let old = c.args.conn.now in
    let db = (state g.S.Store old).now in
    let mid = c.write_third.new.tx.conn.now in
    let end = c.commit.new.self.0 in
    let later : c.args.from ≡ Three → ⊥ = λ e. true≢false (sym (c.if-is_third.ensures.only e)) in
    let same : end ≡ c.conn-2-1.given.0 = search rules in
    let begun = c.transaction-tx.ensures.begun in
    subst (λ h. IfErr c.map_err.result (HasCauseOr (StopsUpgrade db) (state g.S.Store old) (state g.S.Store h))) same
    (commit_stops (StopsUpgrade db) g.S.Store old mid end (Begins c.args.from db) (IsUpgraded db) (λ clean live. record { same = refl; may = may (subst (λ h. HasCleanDisk (state g.S.Store h)) same clean) live; older = later })
    (rw begun at c.write_third.ensures.survives) c.in_ok-write_third.field-0
    (λ clean. (rw begun at c.in_ok-write_third.ensures.step) clean db) _ c.commit.ensures.survives c.commit.result c.map_err.result c.map_err.ensures.cases c.commit.ensures.err)
