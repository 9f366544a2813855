use Rattle.std.proofs.Common.{ℕ, Err}
use Rattle.sqlite.specs.Held.{state}
use Rattle.wgr_sql.proofs.SurvivesLemmas.{survives_next}
use Rattle.wgr_schema.specs.Fresh.{HasBlank, no_schema, entries_schema, tables_schema}
use Rattle.wgr_schema.proofs.FailLemmas.{handed_fails, next_fails}
use Rattle.wgr_schema.proofs.making.make_tables.Goals as goal

pub returns-in_err-make_entries-clause-cause : goal.returns-in_err-make_entries-clause-cause
returns-in_err-make_entries-clause-cause g c =
    let a = state g.S.Store c.args.tx.now.conn.now in
    let b = state g.S.Store c.make_entries.new.tx.conn.now in
    handed_fails (HasBlank no_schema) a b c.from_residual.result c.in_err-make_entries.field-0.0 c.from_residual.ensures.1 c.in_err-make_entries.ensures.cause

pub returns-in_err-make_networks-clause-cause : goal.returns-in_err-make_networks-clause-cause
returns-in_err-make_networks-clause-cause g c =
    let a = state g.S.Store c.args.tx.now.conn.now in
    let b = state g.S.Store c.make_entries.new.tx.conn.now in
    let d = state g.S.Store c.make_networks.new.tx.conn.now in
    handed_fails (HasBlank no_schema) a d c.from_residual-in_err-make_networks.result c.in_err-make_networks.field-0.0 c.from_residual-in_err-make_networks.ensures.1
    (next_fails {Y = ℕ} (HasBlank no_schema) (HasBlank entries_schema) a b d c.in_ok-make_entries.field-0 (Err c.in_err-make_networks.field-0.0) c.in_ok-make_entries.ensures.step c.make_entries.ensures.survives c.make_networks.ensures.survives
    c.in_err-make_networks.ensures.cause)

pub returns-clause-cause : goal.returns-clause-cause
returns-clause-cause g c =
    let a = state g.S.Store c.args.tx.now.conn.now in
    let b = state g.S.Store c.make_entries.new.tx.conn.now in
    let d = state g.S.Store c.make_networks.new.tx.conn.now in
    let e = state g.S.Store c.make_rest.new.tx.conn.now in
    next_fails (HasBlank no_schema) (HasBlank entries_schema) a b e c.in_ok-make_entries.field-0 c.make_rest.result c.in_ok-make_entries.ensures.step c.make_entries.ensures.survives (survives_next b d e c.make_networks.ensures.survives c.make_rest.ensures.survives)
    (next_fails (HasBlank entries_schema) (HasBlank tables_schema) b d e c.in_ok-make_networks.field-0 c.make_rest.result c.in_ok-make_networks.ensures.step c.make_networks.ensures.survives c.make_rest.ensures.survives
    c.make_rest.ensures.cause)
