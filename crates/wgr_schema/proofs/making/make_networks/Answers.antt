use Rattle.std.proofs.Common.{ℕ, Ok, Err, refl, arith}
use Rattle.sqlite.specs.State.{HasCleanDisk}
use Rattle.sqlite.specs.Held.{state}
use Rattle.wgr_columns.specs.Layout.{network_table_at, peer_table_at, allowed_table_at}
use Rattle.wgr_columns.specs.Texts.{network_text, peer_text, allowed_text}
use Rattle.wgr_columns.proofs.DefinedLemmas.{defined}
use Rattle.wgr_schema.specs.Fresh.{HasBlank, entries_schema, network_schema, peer_schema, tables_schema}
use Rattle.wgr_schema.proofs.Meanings.{network_means, peer_means, allowed_means, network_writes, peer_writes, allowed_writes}
use Rattle.wgr_schema.proofs.LayLemmas.{lays_table, lays_then}
use Rattle.wgr_schema.proofs.FailLemmas.{handed_fails, next_fails, table_fails}
use Rattle.wgr_schema.proofs.ServedLemmas.{network_served, peer_served, allowed_served}
use Rattle.wgr_sql.proofs.SurvivesLemmas.{survives_next}
use Rattle.wgr_schema.proofs.making.make_networks.Goals as goal

pub returns-clause-step : goal.returns-clause-step
returns-clause-step g c clean =
    let a = state g.S.Store c.args.tx.now.conn.now in
    let b = state g.S.Store c.execute.new.tx.conn.now in
    let d = state g.S.Store c.execute-2.new.tx.conn.now in
    let e = state g.S.Store c.execute-3.new.tx.conn.now in
    let clean_d : HasCleanDisk d = omega (arith, c.execute-3.ensures.survives.clean, clean) in
    let clean_b : HasCleanDisk b = omega (arith, c.execute-2.ensures.survives.clean, clean_d) in
    let one = lays_table a b (Ok c.in_ok-execute.field-0) (c.execute.ensures.kept clean_b) entries_schema network_text (c.in_ok-execute.ensures.ran clean_b) (network_table_at 0) network_means defined.3 refl in
    let two = lays_table b d (Ok c.in_ok-execute-2.field-0) (c.execute-2.ensures.kept clean_d) network_schema peer_text (c.in_ok-execute-2.ensures.ran clean_d) (peer_table_at 0) peer_means defined.4 refl in
    let three = lays_table d e c.execute-3.result (c.execute-3.ensures.kept clean) peer_schema allowed_text (c.execute-3.ensures.ran clean) (allowed_table_at 0) allowed_means defined.5 refl in
    lays_then (HasBlank entries_schema) (HasBlank network_schema) (HasBlank tables_schema) a b e c.in_ok-execute.field-0 c.execute-3.result one
    (lays_then (HasBlank network_schema) (HasBlank peer_schema) (HasBlank tables_schema) b d e c.in_ok-execute-2.field-0 c.execute-3.result two three)

pub returns-in_err-execute-clause-cause : goal.returns-in_err-execute-clause-cause
returns-in_err-execute-clause-cause g c =
    let a = state g.S.Store c.args.tx.now.conn.now in
    let b = state g.S.Store c.execute.new.tx.conn.now in
    handed_fails (HasBlank entries_schema) a b c.from_residual.result c.in_err-execute.field-0.0 c.from_residual.ensures.1
    (table_fails entries_schema network_text (network_table_at 0) network_served network_means network_writes a b (Err c.in_err-execute.field-0.0) c.in_err-execute.ensures.cause)

pub returns-in_err-execute-2-clause-cause : goal.returns-in_err-execute-2-clause-cause
returns-in_err-execute-2-clause-cause g c =
    let a = state g.S.Store c.args.tx.now.conn.now in
    let b = state g.S.Store c.execute.new.tx.conn.now in
    let d = state g.S.Store c.execute-2.new.tx.conn.now in
    handed_fails (HasBlank entries_schema) a d c.from_residual-in_err-execute-2.result c.in_err-execute-2.field-0.0 c.from_residual-in_err-execute-2.ensures.1
    (next_fails {Y = ℕ} (HasBlank entries_schema) (HasBlank network_schema) a b d c.in_ok-execute.field-0 (Err c.in_err-execute-2.field-0.0)
    (λ clean. lays_table a b (Ok c.in_ok-execute.field-0) (c.execute.ensures.kept clean) entries_schema network_text (c.in_ok-execute.ensures.ran clean) (network_table_at 0) network_means defined.3 refl) c.execute.ensures.survives c.execute-2.ensures.survives
    (table_fails network_schema peer_text (peer_table_at 0) peer_served peer_means peer_writes b d (Err c.in_err-execute-2.field-0.0) c.in_err-execute-2.ensures.cause))

pub returns-clause-cause : goal.returns-clause-cause
returns-clause-cause g c =
    let a = state g.S.Store c.args.tx.now.conn.now in
    let b = state g.S.Store c.execute.new.tx.conn.now in
    let d = state g.S.Store c.execute-2.new.tx.conn.now in
    let e = state g.S.Store c.execute-3.new.tx.conn.now in
    next_fails (HasBlank entries_schema) (HasBlank network_schema) a b e c.in_ok-execute.field-0 c.execute-3.result
    (λ clean. lays_table a b (Ok c.in_ok-execute.field-0) (c.execute.ensures.kept clean) entries_schema network_text (c.in_ok-execute.ensures.ran clean) (network_table_at 0) network_means defined.3 refl) c.execute.ensures.survives (survives_next b d e c.execute-2.ensures.survives c.execute-3.ensures.survives)
    (next_fails (HasBlank network_schema) (HasBlank peer_schema) b d e c.in_ok-execute-2.field-0 c.execute-3.result
    (λ clean. lays_table b d (Ok c.in_ok-execute-2.field-0) (c.execute-2.ensures.kept clean) network_schema peer_text (c.in_ok-execute-2.ensures.ran clean) (peer_table_at 0) peer_means defined.4 refl) c.execute-2.ensures.survives c.execute-3.ensures.survives
    (table_fails peer_schema allowed_text (allowed_table_at 0) allowed_served allowed_means allowed_writes d e c.execute-3.result c.execute-3.ensures.cause))
