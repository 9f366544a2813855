use Rattle.std.proofs.Common.{pos, [], ◌∷◌}
use Rattle.sqlite.specs.declared.types.Value.TheVariants.{Int}
use Rattle.wgr_sql.proofs.ResultLemmas.{if_ok}
use Rattle.wgr_columns.specs.Decode.{peer_in}
use Rattle.wgr_columns.specs.Stored.{AreRising, AreStored, stored_peer}
use Rattle.wgr_tables.specs.Loads.{ShowPeers}
use Rattle.wgr_tables.proofs.ListedLemmas.{peers_listed}
use Rattle.wgr_tables.proofs.Meanings.{peers_text, peers_asks}
use Rattle.wgr_tables.proofs.StoredLemmas.{peers_stored, peers_rise}
use Rattle.wgr_tables.proofs.ReadLemmas.{rows_read, reads_query}
use Rattle.wgr_tables.proofs.AskedLemmas.{answered_here, peers_answered}
use Rattle.wgr_tables.proofs.load.peer_rows.Goals as goal

pub returns-clause-reads : goal.returns-clause-reads
returns-clause-reads g c = reads_query g.S.Store c.args.conn.now c.query.new.conn peers_text c.query.ensures.survives (λ others. (peers_asks others).means.plain) c.query.ensures.kept c.query.ensures.idle

pub returns-clause-listed : goal.returns-clause-listed
returns-clause-listed g c db pending stood clean =
    if_ok c.query.result _ _ (λ rows given. rows_read g.S.Store c.args.conn.now c.query.new.conn db pending stood peers_text c.query.ensures.survives (ShowPeers c.args.network) (Int (pos c.args.network) ∷ []) (λ a b register found. peers_listed a b register c.args.network found) clean rows.items
    (rw c.number_value.ensures at given)) (c.query.ensures.shown clean)

pub returns-clause-stored : goal.returns-clause-stored
returns-clause-stored g c db pending stood clean =
    if_ok c.query.result _ _ (λ rows given. rows_read g.S.Store c.args.conn.now c.query.new.conn db pending stood peers_text c.query.ensures.survives (λ t. AreStored stored_peer peer_in) (Int (pos c.args.network) ∷ []) (λ a b register found. peers_stored a b register c.args.network found) clean rows.items
    (rw c.number_value.ensures at given)) (c.query.ensures.shown clean)

pub returns-clause-rising : goal.returns-clause-rising
returns-clause-rising g c db pending stood clean =
    if_ok c.query.result _ _ (λ rows given. rows_read g.S.Store c.args.conn.now c.query.new.conn db pending stood peers_text c.query.ensures.survives (λ t. AreRising (λ p. p.id) peer_in) (Int (pos c.args.network) ∷ []) (λ a b register found. peers_rise a b register c.args.network found) clean rows.items
    (rw c.number_value.ensures at given)) (c.query.ensures.shown clean)

pub returns-clause-cause : goal.returns-clause-cause
returns-clause-cause g c db pending stood = (rw (c.number_value.ensures) at c.query.ensures.cause) (answered_here g.S.Store c.args.conn.now c.query.new.conn db pending stood c.query.ensures.survives peers_text (Int (pos c.args.network) ∷ []) (λ others. peers_answered others c.args.network))
