use Rattle.std.proofs.Common.{pos, [], ◌∷◌}
use Rattle.sqlite.specs.declared.types.Value.TheVariants.{Int}
use Rattle.wgr_sql.proofs.ResultLemmas.{if_ok}
use Rattle.wgr_tables.proofs.ReadLemmas.{rows_read, reads_query}
use Rattle.wgr_entries.specs.Lookups.{ShowNetworksOf}
use Rattle.wgr_entries.proofs.LookupTexts.{of_tenant_answered, of_tenant_asks, of_tenant_text}
use Rattle.wgr_entries.proofs.LookupLemmas.{of_tenant_shown, of_tenant_stored}
use Rattle.wgr_columns.specs.Decode.{network_in}
use Rattle.wgr_columns.specs.Stored.{AreStored, stored_network}
use Rattle.wgr_tables.proofs.AskedLemmas.{answered_here}
use Rattle.wgr_entries.proofs.lookup.networks_of_tenant.Goals as goal

pub returns-clause-reads : goal.returns-clause-reads
returns-clause-reads g c = reads_query g.S.Store c.args.conn.now c.query.new.conn of_tenant_text c.query.ensures.survives (λ others. (of_tenant_asks others).means.plain) c.query.ensures.kept c.query.ensures.idle

pub returns-clause-listed : goal.returns-clause-listed
returns-clause-listed g c db pending stood clean =
    if_ok c.query.result _ _ (λ rows given. rows_read g.S.Store c.args.conn.now c.query.new.conn db pending stood of_tenant_text c.query.ensures.survives (ShowNetworksOf c.args.tenant) (Int (pos c.args.tenant) ∷ []) (λ a b register found shown. of_tenant_shown a b register found c.args.tenant shown) clean rows.items
    (rw c.number_value.ensures at given)) (c.query.ensures.shown clean)

pub returns-clause-cause : goal.returns-clause-cause
returns-clause-cause g c db pending stood = (rw (c.number_value.ensures) at c.query.ensures.cause) (answered_here g.S.Store c.args.conn.now c.query.new.conn db pending stood c.query.ensures.survives of_tenant_text (Int (pos c.args.tenant) ∷ []) (λ others. of_tenant_answered others c.args.tenant))

pub returns-clause-stored : goal.returns-clause-stored
returns-clause-stored g c db pending stood clean =
    if_ok c.query.result _ _ (λ rows given. rows_read g.S.Store c.args.conn.now c.query.new.conn db pending stood of_tenant_text c.query.ensures.survives (λ t. AreStored stored_network network_in) (Int (pos c.args.tenant) ∷ []) (λ a b register found shown. of_tenant_stored a b register found c.args.tenant shown) clean rows.items
    (rw c.number_value.ensures at given)) (c.query.ensures.shown clean)
