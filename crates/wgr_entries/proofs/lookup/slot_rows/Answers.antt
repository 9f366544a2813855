use Rattle.std.proofs.Common.{pos, [], ◌∷◌}
use Rattle.sqlite.specs.declared.types.Value.TheVariants.{Int, Text}
use Rattle.wgr_sql.proofs.ResultLemmas.{if_ok}
use Rattle.wgr_entries.specs.Lookups.{ShowSlot, HasWordAt}
use Rattle.wgr_entries.proofs.LookupLemmas.{slot_listed}
use Rattle.wgr_entries.proofs.LookupTexts.{slot_text, slot_asks}
use Rattle.wgr_tables.proofs.ReadLemmas.{rows_read, reads_query}
use Rattle.wgr_tables.proofs.AskedLemmas.{answered_here}
use Rattle.wgr_entries.proofs.LookupTexts.{slot_answered}
use Rattle.wgr_model.specs.RowLaws.{AreConsistent}
use Rattle.wgr_entries.proofs.WordLemmas.{slot_word}
use Rattle.wgr_entries.proofs.lookup.slot_rows.Goals as goal

pub returns-clause-reads : goal.returns-clause-reads
returns-clause-reads g c = reads_query g.S.Store c.args.conn.now c.query.new.conn slot_text c.query.ensures.survives (λ others. (slot_asks others).means.plain) c.query.ensures.kept c.query.ensures.idle

pub returns-clause-listed : goal.returns-clause-listed
returns-clause-listed g c db pending stood clean =
    if_ok c.query.result _ _ (λ rows given. rows_read g.S.Store c.args.conn.now c.query.new.conn db pending stood slot_text c.query.ensures.survives (ShowSlot (c.args.tenant, c.args.name.now)) (Int (pos c.args.tenant) ∷ Text c.args.name.now ∷ []) (λ a b register found. slot_listed a b register found c.args.tenant c.args.name.now) clean rows.items
    (rw (c.number_value.ensures, c.as_bytes.ensures.value, c.as_str.ensures.value) at given)) (c.query.ensures.shown clean)

pub returns-clause-cause : goal.returns-clause-cause
returns-clause-cause g c db pending stood = (rw (c.number_value.ensures, c.as_bytes.ensures.value, c.as_str.ensures.value) at c.query.ensures.cause) (answered_here g.S.Store c.args.conn.now c.query.new.conn db pending stood c.query.ensures.survives slot_text (Int (pos c.args.tenant) ∷ Text c.args.name.now ∷ []) (λ others. slot_answered others c.args.tenant c.args.name.now))

pub returns-clause-word : goal.returns-clause-word
returns-clause-word g c db pending stood good clean =
    if_ok c.query.result _ _ (λ rows given. rows_read g.S.Store c.args.conn.now c.query.new.conn db pending stood slot_text c.query.ensures.survives (λ t l. AreConsistent t → HasWordAt l 0) (Int (pos c.args.tenant) ∷ Text c.args.name.now ∷ []) (λ a b register found shown fine. slot_word a b register found fine c.args.tenant c.args.name.now shown) clean rows.items
    (rw (c.number_value.ensures, c.as_bytes.ensures.value, c.as_str.ensures.value) at given) good) (c.query.ensures.shown clean)
