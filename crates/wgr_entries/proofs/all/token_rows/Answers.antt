use Rattle.std.proofs.Common.{[]}
use Rattle.wgr_sql.proofs.ResultLemmas.{if_ok}
use Rattle.wgr_tables.proofs.ReadLemmas.{rows_read, reads_query}
use Rattle.wgr_entries.proofs.AllLemmas.{ShowTokens, tokens_asks, tokens_listed, tokens_text}
use Rattle.wgr_tables.proofs.AskedLemmas.{answered_here}
use Rattle.wgr_entries.proofs.AllLemmas.{tokens_answered, tokens_stored}
use Rattle.wgr_columns.specs.Decode.{token_in}
use Rattle.wgr_columns.specs.Stored.{AreStored}
use Rattle.wgr_entries.specs.Kept.{stored_token}
use Rattle.wgr_entries.proofs.all.token_rows.Goals as goal

pub returns-clause-reads : goal.returns-clause-reads
returns-clause-reads g c = reads_query g.S.Store c.args.conn.now c.query.new.conn tokens_text c.query.ensures.survives (λ others. (tokens_asks others).means.plain) c.query.ensures.kept c.query.ensures.idle

pub returns-clause-listed : goal.returns-clause-listed
returns-clause-listed g c db pending stood clean =
    if_ok c.query.result _ _ (λ rows given. rows_read g.S.Store c.args.conn.now c.query.new.conn db pending stood tokens_text c.query.ensures.survives ShowTokens [] (λ a b register found. tokens_listed a b register found) clean rows.items given) (c.query.ensures.shown clean)

pub returns-clause-cause : goal.returns-clause-cause
returns-clause-cause g c db pending stood = c.query.ensures.cause (answered_here g.S.Store c.args.conn.now c.query.new.conn db pending stood c.query.ensures.survives tokens_text [] tokens_answered)

pub returns-clause-stored : goal.returns-clause-stored
returns-clause-stored g c db pending stood clean =
    if_ok c.query.result _ _ (λ rows given. rows_read g.S.Store c.args.conn.now c.query.new.conn db pending stood tokens_text c.query.ensures.survives (λ t. AreStored stored_token token_in) [] (λ a b register found. tokens_stored a b register found) clean rows.items given) (c.query.ensures.shown clean)
