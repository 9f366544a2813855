use Rattle.std.proofs.Common.{[], ◌∷◌}
use Rattle.sqlite.specs.declared.types.Value.TheVariants.{Blob}
use Rattle.wgr_sql.proofs.ResultLemmas.{if_ok}
use Rattle.wgr_model.specs.RowLaws.{AreConsistent}
use Rattle.wgr_entries.specs.Lookups.{HasWordAt, ShowToken}
use Rattle.wgr_tables.proofs.AskedLemmas.{answered_here}
use Rattle.wgr_entries.proofs.LookupTexts.{token_answered}
use Rattle.wgr_entries.proofs.LookupLemmas.{on_each, token_listed}
use Rattle.wgr_entries.proofs.LookupTexts.{token_text, token_asks}
use Rattle.wgr_tables.proofs.ReadLemmas.{rows_read, reads_query}
use Rattle.wgr_entries.proofs.WordLemmas.{token_word}
use Rattle.wgr_entries.proofs.lookup.token_rows.Goals as goal

pub returns-clause-reads : goal.returns-clause-reads
returns-clause-reads g c = reads_query g.S.Store c.args.conn.now c.query.new.conn token_text c.query.ensures.survives (λ others. (token_asks others).means.plain) c.query.ensures.kept c.query.ensures.idle

pub returns-clause-listed : goal.returns-clause-listed
returns-clause-listed g c db pending stood clean =
    if_ok c.query.result _ _ (λ rows given. rows_read g.S.Store c.args.conn.now c.query.new.conn db pending stood token_text c.query.ensures.survives (ShowToken c.args.digest.now) (Blob c.args.digest.now ∷ []) (λ a b register found. token_listed a b register found c.args.digest.now) clean rows.items
    given) (c.query.ensures.shown clean)

pub returns-clause-open : goal.returns-clause-open
returns-clause-open g c clean = on_each c.query.result _ _ (λ rows given. given.was_open) (c.query.ensures.shown clean)

pub returns-clause-cause : goal.returns-clause-cause
returns-clause-cause g c db pending stood =
    c.query.ensures.cause (answered_here g.S.Store c.args.conn.now c.query.new.conn db pending stood c.query.ensures.survives token_text (Blob c.args.digest.now ∷ []) (λ others. token_answered others c.args.digest.now))

pub returns-clause-word : goal.returns-clause-word
returns-clause-word g c db pending stood good clean =
    if_ok c.query.result _ _ (λ rows given. rows_read g.S.Store c.args.conn.now c.query.new.conn db pending stood token_text c.query.ensures.survives (λ t l. AreConsistent t → HasWordAt l 2) (Blob c.args.digest.now ∷ []) (λ a b register found shown fine. token_word a b register found fine c.args.digest.now shown) clean rows.items
    given good) (c.query.ensures.shown clean)
