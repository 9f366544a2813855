use Rattle.std.proofs.Common.{rules, IsTrue, subst, arith}
use Rattle.sqlite.specs.Effect.{Database}
use Rattle.sqlite.specs.State.{HasCleanDisk}
use Rattle.sqlite.specs.Held.{state}
use Rattle.wgr_columns.specs.LaidOut.{IsLaidOut}
use Rattle.wgr_sql.proofs.ResultLemmas.{if_none, if_ok, if_some}
use Rattle.wgr_opening.specs.Good.{HasTables, IsReady, HasSoundRows}
use Rattle.wgr_checks.proofs.NextLemmas.{both_kept, either_fails, second_holds}
use Rattle.wgr_opening.proofs.read.read_all.Goals as goal

pub returns-then-not-branch-clause-none : goal.returns-then-not-branch-clause-none
returns-then-not-branch-clause-none g c clean ready =
    c.in_ok-are_later_good.ensures.bad clean ready (search rules)

pub returns-clause-some : goal.returns-clause-some
returns-clause-some g c clean ready =
    let old = state g.S.Store c.args.conn.now in
    let mid = state g.S.Store c.are_later_good.new.conn in
    let new = state g.S.Store c.read_tables.new.conn in
    let before : HasCleanDisk mid = omega (arith, c.read_tables.ensures.survives.clean, clean) in
    let laid = second_holds (IsReady c.args.version) (λ db. IsLaidOut db.schema) (λ db is. is.0.0) old mid new c.are_later_good.ensures.survives c.read_tables.ensures.survives c.are_later_good.ensures.kept (λ _. ready) clean in
    let is : IsTrue _ = search rules in
    if_ok c.read_tables.result _ _ (λ found. if_some found _ _ (λ ids has.
    let kept = c.are_later_good.ensures.kept (λ _. ready) before has.0 in
    let tables = subst (λ (d : Database). HasTables d.trees ids.items) kept.1 has.1 in
    (kept.0, record { tables = tables; later = c.in_ok-are_later_good.ensures.good before ready is kept.0 tables.there.entries.tokens.own_keys.1 }))) (c.read_tables.ensures.some clean laid)

pub returns-clause-none : goal.returns-clause-none
returns-clause-none g c clean ready =
    let old = state g.S.Store c.args.conn.now in
    let mid = state g.S.Store c.are_later_good.new.conn in
    let new = state g.S.Store c.read_tables.new.conn in
    let before : HasCleanDisk mid = omega (arith, c.read_tables.ensures.survives.clean, clean) in
    let laid = second_holds (IsReady c.args.version) (λ db. IsLaidOut db.schema) (λ db is. is.0.0) old mid new c.are_later_good.ensures.survives c.read_tables.ensures.survives c.are_later_good.ensures.kept (λ _. ready) clean in
    if_ok c.read_tables.result _ _ (λ found. if_none found _ _ (λ none.
    let kept = c.are_later_good.ensures.kept (λ _. ready) before none.0 in
    (kept.0, subst (λ (d : Database). HasSoundRows d → ⊥) kept.1 none.1))) (c.read_tables.ensures.none clean laid)

pub returns-clause-kept : goal.returns-clause-kept
returns-clause-kept g c ready =
    let old = state g.S.Store c.args.conn.now in
    let mid = state g.S.Store c.are_later_good.new.conn in
    let new = state g.S.Store c.read_tables.new.conn in
    both_kept (IsReady c.args.version) (λ db. IsLaidOut db.schema) (λ db is. is.0.0) old mid new c.are_later_good.ensures.survives c.read_tables.ensures.survives c.are_later_good.ensures.kept ready c.read_tables.ensures.kept

pub returns-clause-cause : goal.returns-clause-cause
returns-clause-cause g c ready =
    let old = state g.S.Store c.args.conn.now in
    let mid = state g.S.Store c.are_later_good.new.conn in
    let new = state g.S.Store c.read_tables.new.conn in
    either_fails (IsReady c.args.version) (λ db. IsLaidOut db.schema) (λ db is. is.0.0) old mid new c.are_later_good.ensures.survives c.read_tables.ensures.survives c.are_later_good.ensures.kept ready c.read_tables.result c.read_tables.ensures.cause
