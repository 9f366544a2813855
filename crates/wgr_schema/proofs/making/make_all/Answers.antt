use Rattle.std.proofs.Common.{[], sym, subst, arith}
use Rattle.sqlite.specs.State.{HasCleanDisk}
use Rattle.sqlite.specs.Held.{state}
use Rattle.wgr_sql.specs.Causes.{IsWriting}
use Rattle.wgr_schema.specs.Fresh.{HasBlank, IsFresh, no_schema, reader_schema}
use Rattle.wgr_schema.specs.Upgrade.{say_text}
use Rattle.wgr_schema.proofs.FailLemmas.{handed_fails, next_fails, statement_fails}
use Rattle.wgr_schema.proofs.InsertLemmas.{version_is_put}
use Rattle.wgr_schema.proofs.LayLemmas.{lays_then, lays_version}
use Rattle.wgr_schema.proofs.Meanings.{reader_is, version_writes}
use Rattle.wgr_schema.proofs.making.make_all.Goals as goal

pub returns-clause-step : goal.returns-clause-step
returns-clause-step g c clean =
    let a = state g.S.Store c.args.tx.now.conn.now in
    let b = state g.S.Store c.make_tables.new.tx.conn.now in
    let d = state g.S.Store c.execute.new.tx.conn.now in
    let clean_b : HasCleanDisk b = omega (arith, c.execute.ensures.survives.clean, clean) in
    lays_then (HasBlank no_schema) (HasBlank reader_schema) IsFresh a b d c.in_ok-make_tables.field-0 c.execute.result
    (c.in_ok-make_tables.ensures.step clean_b) (lays_version b d c.execute.result (c.execute.ensures.kept clean) (c.execute.ensures.ran clean))

pub returns-in_err-make_tables-clause-cause : goal.returns-in_err-make_tables-clause-cause
returns-in_err-make_tables-clause-cause g c =
    let a = state g.S.Store c.args.tx.now.conn.now in
    let b = state g.S.Store c.make_tables.new.tx.conn.now in
    handed_fails (HasBlank no_schema) a b c.from_residual.result c.in_err-make_tables.field-0.0 c.from_residual.ensures.1 c.in_err-make_tables.ensures.cause

pub returns-clause-cause : goal.returns-clause-cause
returns-clause-cause g c =
    let a = state g.S.Store c.args.tx.now.conn.now in
    let b = state g.S.Store c.make_tables.new.tx.conn.now in
    let d = state g.S.Store c.execute.new.tx.conn.now in
    next_fails (HasBlank no_schema) (HasBlank reader_schema) a b d c.in_ok-make_tables.field-0 c.execute.result c.in_ok-make_tables.ensures.step c.make_tables.ensures.survives c.execute.ensures.survives
    (statement_fails reader_schema say_text b d c.execute.result (subst (λ s. IsWriting s say_text []) (sym reader_is) version_writes) (version_is_put b.step_limit b.now) c.execute.ensures.cause)
