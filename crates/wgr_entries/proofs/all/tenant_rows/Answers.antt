use Rattle.std.proofs.Common.{[]}
use Rattle.wgr_sql.proofs.ResultLemmas.{if_ok}
use Rattle.wgr_tables.proofs.ReadLemmas.{rows_read, reads_query}
use Rattle.wgr_entries.proofs.AllLemmas.{ShowTenants, tenants_asks, tenants_listed, tenants_text}
use Rattle.wgr_tables.proofs.AskedLemmas.{answered_here}
use Rattle.wgr_entries.proofs.AllLemmas.{tenants_answered, tenants_stored}
use Rattle.wgr_columns.specs.Decode.{tenant_in}
use Rattle.wgr_columns.specs.Stored.{AreStored, stored_tenant}
use Rattle.wgr_entries.proofs.LookupLemmas.{on_each}
use Rattle.wgr_entries.proofs.all.tenant_rows.Goals as goal

pub returns-clause-reads : goal.returns-clause-reads
returns-clause-reads g c = reads_query g.S.Store c.args.conn.now c.query.new.conn tenants_text c.query.ensures.survives (λ others. (tenants_asks others).means.plain) c.query.ensures.kept c.query.ensures.idle

pub returns-clause-listed : goal.returns-clause-listed
returns-clause-listed g c db pending stood clean =
    if_ok c.query.result _ _ (λ rows given. rows_read g.S.Store c.args.conn.now c.query.new.conn db pending stood tenants_text c.query.ensures.survives ShowTenants [] (λ a b register found. tenants_listed a b register found) clean rows.items given) (c.query.ensures.shown clean)

pub returns-clause-cause : goal.returns-clause-cause
returns-clause-cause g c db pending stood = c.query.ensures.cause (answered_here g.S.Store c.args.conn.now c.query.new.conn db pending stood c.query.ensures.survives tenants_text [] tenants_answered)

pub returns-clause-stored : goal.returns-clause-stored
returns-clause-stored g c db pending stood clean =
    if_ok c.query.result _ _ (λ rows given. rows_read g.S.Store c.args.conn.now c.query.new.conn db pending stood tenants_text c.query.ensures.survives (λ t. AreStored stored_tenant tenant_in) [] (λ a b register found. tenants_stored a b register found) clean rows.items given) (c.query.ensures.shown clean)

pub returns-clause-open : goal.returns-clause-open
returns-clause-open g c clean = on_each c.query.result _ _ (λ rows given. given.was_open) (c.query.ensures.shown clean)
