use Rattle.std.proofs.Common.{[]}
use Rattle.wgr_sql.proofs.ResultLemmas.{if_ok}
use Rattle.wgr_tables.proofs.ReadLemmas.{rows_read, reads_query}
use Rattle.wgr_entries.proofs.AllLemmas.{ShowNetworks, networks_asks, networks_listed, networks_text}
use Rattle.wgr_tables.proofs.AskedLemmas.{answered_here}
use Rattle.wgr_entries.proofs.AllLemmas.{networks_answered, networks_stored}
use Rattle.wgr_columns.specs.Decode.{network_in}
use Rattle.wgr_columns.specs.Stored.{AreStored, stored_network}
use Rattle.wgr_entries.proofs.all.network_rows.Goals as goal

pub returns-clause-reads : goal.returns-clause-reads
returns-clause-reads g c = reads_query g.S.Store c.args.conn.now c.query.new.conn networks_text c.query.ensures.survives (λ others. (networks_asks others).means.plain) c.query.ensures.kept c.query.ensures.idle

pub returns-clause-listed : goal.returns-clause-listed
returns-clause-listed g c db pending stood clean =
    if_ok c.query.result _ _ (λ rows given. rows_read g.S.Store c.args.conn.now c.query.new.conn db pending stood networks_text c.query.ensures.survives ShowNetworks [] (λ a b register found. networks_listed a b register found) clean rows.items given) (c.query.ensures.shown clean)

pub returns-clause-cause : goal.returns-clause-cause
returns-clause-cause g c db pending stood = c.query.ensures.cause (answered_here g.S.Store c.args.conn.now c.query.new.conn db pending stood c.query.ensures.survives networks_text [] networks_answered)

pub returns-clause-stored : goal.returns-clause-stored
returns-clause-stored g c db pending stood clean =
    if_ok c.query.result _ _ (λ rows given. rows_read g.S.Store c.args.conn.now c.query.new.conn db pending stood networks_text c.query.ensures.survives (λ t. AreStored stored_network network_in) [] (λ a b register found. networks_stored a b register found) clean rows.items given) (c.query.ensures.shown clean)
