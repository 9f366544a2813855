use Rattle.wgr_sql.proofs.ResultLemmas.{if_ok}
use Rattle.wgr_columns.specs.Decode.{peer_in}
use Rattle.wgr_columns.specs.Stored.{AreRising}
use Rattle.wgr_tables.proofs.AskedLemmas.{answered_here}
use Rattle.wgr_tables.proofs.ReadLemmas.{rows_read, reads_query}
use Rattle.wgr_rows.specs.Keyed.{HaveNumbers}
use Rattle.wgr_rows.specs.Owned.{ShowOwned, is_over}
use Rattle.wgr_rows.proofs.OwnedLemmas.{over_answered, over_asks, over_listed, over_numbers, over_params, over_rise, over_text}
use Rattle.wgr_rows.proofs.expired.over_rows.Goals as goal

pub returns-clause-reads : goal.returns-clause-reads
returns-clause-reads g c = reads_query g.S.Store c.args.conn.now c.query.new.conn over_text c.query.ensures.survives (λ others. (over_asks others).means.plain) c.query.ensures.kept c.query.ensures.idle

pub returns-clause-listed : goal.returns-clause-listed
returns-clause-listed g c db pending stood clean =
    if_ok c.query.result _ _ (λ rows given. rows_read g.S.Store c.args.conn.now c.query.new.conn db pending stood over_text c.query.ensures.survives (ShowOwned c.args.network (is_over c.args.now)) (over_params c.args.network c.args.now) (λ a b register found. over_listed a b register found c.args.network c.args.now) clean rows.items
    (rw (c.number_value.ensures, c.peer_id_value.ensures, c.peer_id_value-2.ensures, c.count_value.ensures, c.new.ensures) at given)) (c.query.ensures.shown clean)

pub returns-clause-rising : goal.returns-clause-rising
returns-clause-rising g c db pending stood clean =
    if_ok c.query.result _ _ (λ rows given. rows_read g.S.Store c.args.conn.now c.query.new.conn db pending stood over_text c.query.ensures.survives (λ t. AreRising (λ p. p.id) peer_in) (over_params c.args.network c.args.now) (λ a b register found. over_rise a b register found c.args.network c.args.now) clean rows.items
    (rw (c.number_value.ensures, c.peer_id_value.ensures, c.peer_id_value-2.ensures, c.count_value.ensures, c.new.ensures) at given)) (c.query.ensures.shown clean)

pub returns-clause-numbers : goal.returns-clause-numbers
returns-clause-numbers g c db pending stood clean =
    if_ok c.query.result _ _ (λ rows given. rows_read g.S.Store c.args.conn.now c.query.new.conn db pending stood over_text c.query.ensures.survives (λ t. HaveNumbers) (over_params c.args.network c.args.now) (λ a b register found. over_numbers a b register found c.args.network c.args.now) clean rows.items
    (rw (c.number_value.ensures, c.peer_id_value.ensures, c.peer_id_value-2.ensures, c.count_value.ensures, c.new.ensures) at given)) (c.query.ensures.shown clean)

pub returns-clause-cause : goal.returns-clause-cause
returns-clause-cause g c db pending stood = (rw (c.number_value.ensures, c.peer_id_value.ensures, c.peer_id_value-2.ensures, c.count_value.ensures, c.new.ensures) at c.query.ensures.cause) (answered_here g.S.Store c.args.conn.now c.query.new.conn db pending stood c.query.ensures.survives over_text (over_params c.args.network c.args.now) (λ others. over_answered others c.args.network c.args.now))
