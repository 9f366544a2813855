use Rattle.std.proofs.Common.{pos, [], ◌∷◌}
use Rattle.sqlite.specs.declared.types.Value.TheVariants.{Int}
use Rattle.wgr_model.specs.Rows.{peer_id}
use Rattle.wgr_sql.proofs.ResultLemmas.{if_ok}
use Rattle.wgr_columns.specs.Decode.{AreNatural}
use Rattle.wgr_tables.proofs.AskedLemmas.{answered_here}
use Rattle.wgr_tables.proofs.ReadLemmas.{rows_read, reads_query}
use Rattle.wgr_rows.specs.Holder.{ShowPeer}
use Rattle.wgr_rows.proofs.LeadShown.{peer_listed, peer_numbers}
use Rattle.wgr_rows.proofs.LeadTexts.{peer_answered, peer_asks, peer_text}
use Rattle.wgr_rows.proofs.allowed.peer_rows.Goals as goal

pub returns-clause-reads : goal.returns-clause-reads
returns-clause-reads g c = reads_query g.S.Store c.args.conn.now c.query.new.conn peer_text c.query.ensures.survives (λ others. (peer_asks others).means.plain) c.query.ensures.kept c.query.ensures.idle

pub returns-clause-listed : goal.returns-clause-listed
returns-clause-listed g c db pending stood clean =
    let id = peer_id c.args.network c.args.number in
    if_ok c.query.result _ _ (λ rows given. rows_read g.S.Store c.args.conn.now c.query.new.conn db pending stood peer_text c.query.ensures.survives (ShowPeer id) (Int (pos id) ∷ []) (λ a b register found. peer_listed a b register found id) clean rows.items
    (rw (c.peer_id_value.ensures) at given)) (c.query.ensures.shown clean)

pub returns-clause-numbers : goal.returns-clause-numbers
returns-clause-numbers g c db pending stood clean =
    let id = peer_id c.args.network c.args.number in
    if_ok c.query.result _ _ (λ rows given. rows_read g.S.Store c.args.conn.now c.query.new.conn db pending stood peer_text c.query.ensures.survives (λ t. AreNatural (5 ∷ [])) (Int (pos id) ∷ []) (λ a b register found. peer_numbers a b register found id) clean rows.items
    (rw (c.peer_id_value.ensures) at given)) (c.query.ensures.shown clean)

pub returns-clause-cause : goal.returns-clause-cause
returns-clause-cause g c db pending stood =
    let id = peer_id c.args.network c.args.number in
    (rw (c.peer_id_value.ensures) at c.query.ensures.cause) (answered_here g.S.Store c.args.conn.now c.query.new.conn db pending stood c.query.ensures.survives peer_text (Int (pos id) ∷ []) (λ others. peer_answered others id))
