use Rattle.std.proofs.Common.{ℕ, Ok, Err, refl, arith}
use Rattle.sqlite.specs.State.{HasCleanDisk}
use Rattle.sqlite.specs.Held.{state}
use Rattle.wgr_columns.specs.Layout.{meta_table_at, tenant_table_at, token_table_at}
use Rattle.wgr_columns.specs.Texts.{meta_text, tenant_text, token_text}
use Rattle.wgr_columns.proofs.DefinedLemmas.{defined}
use Rattle.wgr_schema.specs.Fresh.{HasBlank, no_schema, meta_schema, tenant_schema, entries_schema}
use Rattle.wgr_schema.proofs.Meanings.{meta_means, tenant_means, token_means, meta_writes, tenant_writes, token_writes}
use Rattle.wgr_schema.proofs.LayLemmas.{lays_table, lays_then}
use Rattle.wgr_schema.proofs.FailLemmas.{handed_fails, next_fails, table_fails}
use Rattle.wgr_schema.proofs.ServedLemmas.{meta_served, tenant_served, token_served}
use Rattle.wgr_sql.proofs.SurvivesLemmas.{survives_next}
use Rattle.wgr_schema.proofs.making.make_entries.Goals as goal

pub returns-clause-step : goal.returns-clause-step
returns-clause-step g c clean =
    let a = state g.S.Store c.args.tx.now.conn.now in
    let b = state g.S.Store c.execute.new.tx.conn.now in
    let d = state g.S.Store c.execute-2.new.tx.conn.now in
    let e = state g.S.Store c.execute-3.new.tx.conn.now in
    let clean_d : HasCleanDisk d = omega (arith, c.execute-3.ensures.survives.clean, clean) in
    let clean_b : HasCleanDisk b = omega (arith, c.execute-2.ensures.survives.clean, clean_d) in
    let one = lays_table a b (Ok c.in_ok-execute.field-0) (c.execute.ensures.kept clean_b) no_schema meta_text (c.in_ok-execute.ensures.ran clean_b) (meta_table_at 0) meta_means defined.0 refl in
    let two = lays_table b d (Ok c.in_ok-execute-2.field-0) (c.execute-2.ensures.kept clean_d) meta_schema tenant_text (c.in_ok-execute-2.ensures.ran clean_d) (tenant_table_at 0) tenant_means defined.1 refl in
    let three = lays_table d e c.execute-3.result (c.execute-3.ensures.kept clean) tenant_schema token_text (c.execute-3.ensures.ran clean) (token_table_at 0) token_means defined.2 refl in
    lays_then (HasBlank no_schema) (HasBlank meta_schema) (HasBlank entries_schema) a b e c.in_ok-execute.field-0 c.execute-3.result one
    (lays_then (HasBlank meta_schema) (HasBlank tenant_schema) (HasBlank entries_schema) b d e c.in_ok-execute-2.field-0 c.execute-3.result two three)

pub returns-in_err-execute-clause-cause : goal.returns-in_err-execute-clause-cause
returns-in_err-execute-clause-cause g c =
    let a = state g.S.Store c.args.tx.now.conn.now in
    let b = state g.S.Store c.execute.new.tx.conn.now in
    handed_fails (HasBlank no_schema) a b c.from_residual.result c.in_err-execute.field-0.0 c.from_residual.ensures.1
    (table_fails no_schema meta_text (meta_table_at 0) meta_served meta_means meta_writes a b (Err c.in_err-execute.field-0.0) c.in_err-execute.ensures.cause)

pub returns-in_err-execute-2-clause-cause : goal.returns-in_err-execute-2-clause-cause
returns-in_err-execute-2-clause-cause g c =
    let a = state g.S.Store c.args.tx.now.conn.now in
    let b = state g.S.Store c.execute.new.tx.conn.now in
    let d = state g.S.Store c.execute-2.new.tx.conn.now in
    handed_fails (HasBlank no_schema) a d c.from_residual-in_err-execute-2.result c.in_err-execute-2.field-0.0 c.from_residual-in_err-execute-2.ensures.1
    (next_fails {Y = ℕ} (HasBlank no_schema) (HasBlank meta_schema) a b d c.in_ok-execute.field-0 (Err c.in_err-execute-2.field-0.0)
    (λ clean. lays_table a b (Ok c.in_ok-execute.field-0) (c.execute.ensures.kept clean) no_schema meta_text (c.in_ok-execute.ensures.ran clean) (meta_table_at 0) meta_means defined.0 refl) c.execute.ensures.survives c.execute-2.ensures.survives
    (table_fails meta_schema tenant_text (tenant_table_at 0) tenant_served tenant_means tenant_writes b d (Err c.in_err-execute-2.field-0.0) c.in_err-execute-2.ensures.cause))

pub returns-clause-cause : goal.returns-clause-cause
returns-clause-cause g c =
    let a = state g.S.Store c.args.tx.now.conn.now in
    let b = state g.S.Store c.execute.new.tx.conn.now in
    let d = state g.S.Store c.execute-2.new.tx.conn.now in
    let e = state g.S.Store c.execute-3.new.tx.conn.now in
    next_fails (HasBlank no_schema) (HasBlank meta_schema) a b e c.in_ok-execute.field-0 c.execute-3.result
    (λ clean. lays_table a b (Ok c.in_ok-execute.field-0) (c.execute.ensures.kept clean) no_schema meta_text (c.in_ok-execute.ensures.ran clean) (meta_table_at 0) meta_means defined.0 refl) c.execute.ensures.survives (survives_next b d e c.execute-2.ensures.survives c.execute-3.ensures.survives)
    (next_fails (HasBlank meta_schema) (HasBlank tenant_schema) b d e c.in_ok-execute-2.field-0 c.execute-3.result
    (λ clean. lays_table b d (Ok c.in_ok-execute-2.field-0) (c.execute-2.ensures.kept clean) meta_schema tenant_text (c.in_ok-execute-2.ensures.ran clean) (tenant_table_at 0) tenant_means defined.1 refl) c.execute-2.ensures.survives c.execute-3.ensures.survives
    (table_fails tenant_schema token_text (token_table_at 0) token_served token_means token_writes d e c.execute-3.result c.execute-3.ensures.cause))
