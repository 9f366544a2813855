use Rattle.std.proofs.Common.{pos, [], ◌∷◌}
use Rattle.sqlite.specs.declared.types.Value.TheVariants.{Int}
use Rattle.wgr_sql.proofs.ResultLemmas.{if_ok}
use Rattle.wgr_columns.specs.Decode.{network_in}
use Rattle.wgr_columns.specs.Stored.{AreStored, stored_network}
use Rattle.wgr_tables.specs.Loads.{ShowNetwork}
use Rattle.wgr_tables.proofs.ListedLemmas.{network_listed}
use Rattle.wgr_tables.proofs.Meanings.{network_text, network_asks}
use Rattle.wgr_tables.proofs.StoredLemmas.{network_stored}
use Rattle.wgr_tables.proofs.ReadLemmas.{rows_read, reads_query}
use Rattle.wgr_tables.proofs.AskedLemmas.{answered_here, network_answered}
use Rattle.wgr_tables.proofs.load.network_rows.Goals as goal

pub returns-clause-reads : goal.returns-clause-reads
returns-clause-reads g c = reads_query g.S.Store c.args.conn.now c.query.new.conn network_text c.query.ensures.survives (λ others. (network_asks others).means.plain) c.query.ensures.kept c.query.ensures.idle

pub returns-clause-listed : goal.returns-clause-listed
returns-clause-listed g c db pending stood clean =
    if_ok c.query.result _ _ (λ rows given. rows_read g.S.Store c.args.conn.now c.query.new.conn db pending stood network_text c.query.ensures.survives (ShowNetwork c.args.network) (Int (pos c.args.network) ∷ []) (λ a b register found. network_listed a b register c.args.network found) clean rows.items
    (rw c.number_value.ensures at given)) (c.query.ensures.shown clean)

pub returns-clause-stored : goal.returns-clause-stored
returns-clause-stored g c db pending stood clean =
    if_ok c.query.result _ _ (λ rows given. rows_read g.S.Store c.args.conn.now c.query.new.conn db pending stood network_text c.query.ensures.survives (λ t. AreStored stored_network network_in) (Int (pos c.args.network) ∷ []) (λ a b register found. network_stored a b register c.args.network found) clean rows.items
    (rw c.number_value.ensures at given)) (c.query.ensures.shown clean)

pub returns-clause-cause : goal.returns-clause-cause
returns-clause-cause g c db pending stood = (rw (c.number_value.ensures) at c.query.ensures.cause) (answered_here g.S.Store c.args.conn.now c.query.new.conn db pending stood c.query.ensures.survives network_text (Int (pos c.args.network) ∷ []) (λ others. network_answered others c.args.network))
