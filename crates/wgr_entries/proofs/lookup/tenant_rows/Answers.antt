use Rattle.std.proofs.Common.{[], ◌∷◌}
use Rattle.sqlite.specs.declared.types.Value.TheVariants.{Text}
use Rattle.wgr_sql.proofs.ResultLemmas.{if_ok}
use Rattle.wgr_entries.specs.Lookups.{ShowTenant, HasWordAt}
use Rattle.wgr_entries.proofs.LookupLemmas.{on_each, tenant_listed}
use Rattle.wgr_entries.proofs.LookupTexts.{tenant_text, tenant_asks}
use Rattle.wgr_tables.proofs.ReadLemmas.{rows_read, reads_query}
use Rattle.wgr_tables.proofs.AskedLemmas.{answered_here}
use Rattle.wgr_entries.proofs.LookupTexts.{tenant_answered}
use Rattle.wgr_model.specs.RowLaws.{AreConsistent}
use Rattle.wgr_entries.proofs.WordLemmas.{tenant_word}
use Rattle.wgr_entries.proofs.lookup.tenant_rows.Goals as goal

pub returns-clause-reads : goal.returns-clause-reads
returns-clause-reads g c = reads_query g.S.Store c.args.conn.now c.query.new.conn tenant_text c.query.ensures.survives (λ others. (tenant_asks others).means.plain) c.query.ensures.kept c.query.ensures.idle

pub returns-clause-listed : goal.returns-clause-listed
returns-clause-listed g c db pending stood clean =
    if_ok c.query.result _ _ (λ rows given. rows_read g.S.Store c.args.conn.now c.query.new.conn db pending stood tenant_text c.query.ensures.survives (ShowTenant c.args.name.now) (Text c.args.name.now ∷ []) (λ a b register found. tenant_listed a b register found c.args.name.now) clean rows.items
    (rw (c.as_bytes.ensures.value, c.as_str.ensures.value) at given)) (c.query.ensures.shown clean)

pub returns-clause-open : goal.returns-clause-open
returns-clause-open g c clean = on_each c.query.result _ _ (λ rows given. given.was_open) (c.query.ensures.shown clean)

pub returns-clause-cause : goal.returns-clause-cause
returns-clause-cause g c db pending stood = (rw (c.as_bytes.ensures.value, c.as_str.ensures.value) at c.query.ensures.cause) (answered_here g.S.Store c.args.conn.now c.query.new.conn db pending stood c.query.ensures.survives tenant_text (Text c.args.name.now ∷ []) (λ others. tenant_answered others c.args.name.now))

pub returns-clause-word : goal.returns-clause-word
returns-clause-word g c db pending stood good clean =
    if_ok c.query.result _ _ (λ rows given. rows_read g.S.Store c.args.conn.now c.query.new.conn db pending stood tenant_text c.query.ensures.survives (λ t l. AreConsistent t → HasWordAt l 0) (Text c.args.name.now ∷ []) (λ a b register found shown fine. tenant_word a b register found fine c.args.name.now shown) clean rows.items
    (rw (c.as_bytes.ensures.value, c.as_str.ensures.value) at given) good) (c.query.ensures.shown clean)
