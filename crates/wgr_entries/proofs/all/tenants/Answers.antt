use Rattle.wgr_sql.proofs.ResultLemmas.{if_ok}
use Rattle.wgr_columns.specs.Decode.{tables_of}
use Rattle.wgr_entries.proofs.AllLemmas.{tenants_read}
use Rattle.sqlite.specs.Held.{state}
use Rattle.wgr_sql.specs.Causes.{HasCause}
use Rattle.wgr_sql.proofs.CauseLemmas.{handed, never_stores}
use Rattle.wgr_columns.specs.Decode.{tenant_in}
use Rattle.wgr_columns.specs.Stored.{stored_tenant}
use Rattle.wgr_entries.proofs.KeptLemmas.{rows_kept}
use Rattle.wgr_model.specs.Consistent.{IsTenant}
use Rattle.wgr_entries.proofs.LookupLemmas.{on_any}
use Rattle.wgr_entries.proofs.all.tenants.Goals as goal

pub returns-clause-listed : goal.returns-clause-listed
returns-clause-listed g c db pending stood clean =
    let shows = c.in_ok-rows.ensures.listed db pending stood clean in
    if_ok c.tenants_in.result _ _ (λ tenants is. tenants_read (tables_of db) c.in_ok-rows.rows.items tenants.items shows is) (rw c.as_slice.ensures.value at c.tenants_in.ensures.read)

pub returns-in_err-rows-clause-cause : goal.returns-in_err-rows-clause-cause
returns-in_err-rows-clause-cause g c db pending stood kept = handed (HasCause (state g.S.Store c.args.conn.now) (state g.S.Store c.tenant_rows.new.conn)) c.from_residual.result c.in_err-rows.field-0.0 c.from_residual.ensures.1 (c.in_err-rows.ensures.cause db pending stood)

pub returns-clause-cause : goal.returns-clause-cause
returns-clause-cause g c db pending stood kept = never_stores _ (state g.S.Store c.args.conn.now) (state g.S.Store c.tenant_rows.new.conn) c.tenants_in.result (rw c.as_slice.ensures.value at c.tenants_in.ensures.only)
    (λ clean only. only (rows_kept tenant_in stored_tenant IsTenant (tables_of db).tenants c.in_ok-rows.rows.items (c.in_ok-rows.ensures.listed db pending stood clean) (c.in_ok-rows.ensures.stored db pending stood clean) kept))

pub returns-clause-open : goal.returns-clause-open
returns-clause-open g c clean = on_any c.tenants_in.result _ (c.in_ok-rows.ensures.open clean)
