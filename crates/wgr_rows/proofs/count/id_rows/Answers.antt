use Rattle.std.proofs.Common.{◌≡◌, length}
use Rattle.wgr_sql.proofs.ResultLemmas.{if_ok}
use Rattle.wgr_tables.proofs.AskedLemmas.{answered_here}
use Rattle.wgr_tables.proofs.ReadLemmas.{rows_read, reads_query}
use Rattle.wgr_rows.specs.Owned.{any_end, owned_count}
use Rattle.wgr_rows.proofs.OwnedLemmas.{ids_answered, ids_asks, ids_counted, ids_params, ids_text}
use Rattle.wgr_rows.proofs.count.id_rows.Goals as goal

pub returns-clause-reads : goal.returns-clause-reads
returns-clause-reads g c = reads_query g.S.Store c.args.conn.now c.query.new.conn ids_text c.query.ensures.survives (λ others. (ids_asks others).means.plain) c.query.ensures.kept c.query.ensures.idle

pub returns-clause-counted : goal.returns-clause-counted
returns-clause-counted g c db pending stood clean =
    if_ok c.query.result _ _ (λ rows given. rows_read g.S.Store c.args.conn.now c.query.new.conn db pending stood ids_text c.query.ensures.survives (λ t l. length l ≡ owned_count c.args.network any_end t) (ids_params c.args.network) (λ a b register found. ids_counted a b register found c.args.network) clean rows.items
    (rw (c.number_value.ensures, c.peer_id_value.ensures, c.peer_id_value-2.ensures) at given)) (c.query.ensures.shown clean)

pub returns-clause-cause : goal.returns-clause-cause
returns-clause-cause g c db pending stood = (rw (c.number_value.ensures, c.peer_id_value.ensures, c.peer_id_value-2.ensures) at c.query.ensures.cause) (answered_here g.S.Store c.args.conn.now c.query.new.conn db pending stood c.query.ensures.survives ids_text (ids_params c.args.network) (λ others. ids_answered others c.args.network))
