use Rattle.std.proofs.Common.{ℕ, Ok, Err, refl, arith}
use Rattle.sqlite.specs.State.{HasCleanDisk}
use Rattle.sqlite.specs.Held.{state}
use Rattle.wgr_columns.specs.Layout.{allowed_table_at, reader_table_at, second_table_at}
use Rattle.wgr_columns.specs.Texts.{allowed_peer_text}
use Rattle.wgr_schema.specs.Fresh.{HasBlank, tables_schema, whole_schema, second_schema, reader_schema, peer_index}
use Rattle.wgr_schema.specs.Upgrade.{reader_text, second_text}
use Rattle.wgr_schema.proofs.Meanings.{index_means, index_defined, index_writes, reader_means, reader_writes, second_means, second_writes}
use Rattle.wgr_schema.proofs.RefusalLemmas.{index_is_made}
use Rattle.wgr_schema.proofs.ServedLemmas.{index_served, reader_served, second_served}
use Rattle.wgr_schema.proofs.UpgradeTexts.{later_defined}
use Rattle.wgr_schema.proofs.FailLemmas.{handed_fails, next_fails, statement_fails, table_fails}
use Rattle.wgr_schema.proofs.LayLemmas.{lays_index, lays_table, lays_then}
use Rattle.wgr_sql.proofs.SurvivesLemmas.{survives_next}
use Rattle.wgr_schema.proofs.making.make_rest.Goals as goal

pub returns-clause-step : goal.returns-clause-step
returns-clause-step g c clean =
    let a = state g.S.Store c.args.tx.now.conn.now in
    let b = state g.S.Store c.execute.new.tx.conn.now in
    let d = state g.S.Store c.execute-2.new.tx.conn.now in
    let e = state g.S.Store c.execute-3.new.tx.conn.now in
    let clean_d : HasCleanDisk d = omega (arith, c.execute-3.ensures.survives.clean, clean) in
    let clean_b : HasCleanDisk b = omega (arith, c.execute-2.ensures.survives.clean, clean_d) in
    let one = lays_index a b (Ok c.in_ok-execute.field-0) (c.execute.ensures.kept clean_b) tables_schema allowed_peer_text (c.in_ok-execute.ensures.ran clean_b) 5 (allowed_table_at 10) peer_index index_means refl index_defined in
    let two = lays_table b d (Ok c.in_ok-execute-2.field-0) (c.execute-2.ensures.kept clean_d) whole_schema second_text (c.in_ok-execute-2.ensures.ran clean_d) (second_table_at 0) second_means later_defined.0 refl in
    let three = lays_table d e c.execute-3.result (c.execute-3.ensures.kept clean) second_schema reader_text (c.execute-3.ensures.ran clean) (reader_table_at 0) reader_means later_defined.1 refl in
    lays_then (HasBlank tables_schema) (HasBlank whole_schema) (HasBlank reader_schema) a b e c.in_ok-execute.field-0 c.execute-3.result one
    (lays_then (HasBlank whole_schema) (HasBlank second_schema) (HasBlank reader_schema) b d e c.in_ok-execute-2.field-0 c.execute-3.result two three)

pub returns-in_err-execute-clause-cause : goal.returns-in_err-execute-clause-cause
returns-in_err-execute-clause-cause g c =
    let a = state g.S.Store c.args.tx.now.conn.now in
    let b = state g.S.Store c.execute.new.tx.conn.now in
    handed_fails (HasBlank tables_schema) a b c.from_residual.result c.in_err-execute.field-0.0 c.from_residual.ensures.1
    (statement_fails tables_schema allowed_peer_text a b (Err c.in_err-execute.field-0.0) index_writes
    (λ was refuses. absurd (index_is_made tables_schema 5 allowed_peer_text (allowed_table_at 10) peer_index index_served a.now was was.blank.1.1.1.1.1.0 index_means a.step_limit refuses)) c.in_err-execute.ensures.cause)

pub returns-in_err-execute-2-clause-cause : goal.returns-in_err-execute-2-clause-cause
returns-in_err-execute-2-clause-cause g c =
    let a = state g.S.Store c.args.tx.now.conn.now in
    let b = state g.S.Store c.execute.new.tx.conn.now in
    let d = state g.S.Store c.execute-2.new.tx.conn.now in
    handed_fails (HasBlank tables_schema) a d c.from_residual-in_err-execute-2.result c.in_err-execute-2.field-0.0 c.from_residual-in_err-execute-2.ensures.1
    (next_fails {Y = ℕ} (HasBlank tables_schema) (HasBlank whole_schema) a b d c.in_ok-execute.field-0 (Err c.in_err-execute-2.field-0.0)
    (λ clean. lays_index a b (Ok c.in_ok-execute.field-0) (c.execute.ensures.kept clean) tables_schema allowed_peer_text (c.in_ok-execute.ensures.ran clean) 5 (allowed_table_at 10) peer_index index_means refl index_defined) c.execute.ensures.survives c.execute-2.ensures.survives
    (table_fails whole_schema second_text (second_table_at 0) second_served second_means second_writes b d (Err c.in_err-execute-2.field-0.0) c.in_err-execute-2.ensures.cause))

pub returns-clause-cause : goal.returns-clause-cause
returns-clause-cause g c =
    let a = state g.S.Store c.args.tx.now.conn.now in
    let b = state g.S.Store c.execute.new.tx.conn.now in
    let d = state g.S.Store c.execute-2.new.tx.conn.now in
    let e = state g.S.Store c.execute-3.new.tx.conn.now in
    next_fails (HasBlank tables_schema) (HasBlank whole_schema) a b e c.in_ok-execute.field-0 c.execute-3.result
    (λ clean. lays_index a b (Ok c.in_ok-execute.field-0) (c.execute.ensures.kept clean) tables_schema allowed_peer_text (c.in_ok-execute.ensures.ran clean) 5 (allowed_table_at 10) peer_index index_means refl index_defined) c.execute.ensures.survives (survives_next b d e c.execute-2.ensures.survives c.execute-3.ensures.survives)
    (next_fails (HasBlank whole_schema) (HasBlank second_schema) b d e c.in_ok-execute-2.field-0 c.execute-3.result
    (λ clean. lays_table b d (Ok c.in_ok-execute-2.field-0) (c.execute-2.ensures.kept clean) whole_schema second_text (c.in_ok-execute-2.ensures.ran clean) (second_table_at 0) second_means later_defined.0 refl) c.execute-2.ensures.survives c.execute-3.ensures.survives
    (table_fails second_schema reader_text (reader_table_at 0) reader_served reader_means reader_writes d e c.execute-3.result c.execute-3.ensures.cause))
