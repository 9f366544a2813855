use Rattle.std.proofs.Common.{◌≡◌, pos, [], ◌∷◌, length}
use Rattle.sqlite.specs.declared.types.Value.TheVariants.{Int}
use Rattle.wgr_sql.proofs.ResultLemmas.{if_ok}
use Rattle.wgr_tables.proofs.ReadLemmas.{rows_read, reads_query}
use Rattle.wgr_tables.proofs.AskedLemmas.{answered_here}
use Rattle.wgr_entries.specs.Lookups.{route_count}
use Rattle.wgr_entries.proofs.CountLemmas.{routes_answered, routes_asks, routes_counted, routes_text}
use Rattle.wgr_entries.proofs.counts.route_rows.Goals as goal

pub returns-clause-reads : goal.returns-clause-reads
returns-clause-reads g c = reads_query g.S.Store c.args.conn.now c.query.new.conn routes_text c.query.ensures.survives (λ others. (routes_asks others).means.plain) c.query.ensures.kept c.query.ensures.idle

pub returns-clause-counted : goal.returns-clause-counted
returns-clause-counted g c db pending stood clean =
    if_ok c.query.result _ _ (λ rows given. rows_read g.S.Store c.args.conn.now c.query.new.conn db pending stood routes_text c.query.ensures.survives (λ t l. length l ≡ route_count t c.args.network) (Int (pos c.args.network) ∷ []) (λ a b register found. routes_counted a b register c.args.network found) clean rows.items
    (rw c.number_value.ensures at given)) (c.query.ensures.shown clean)

pub returns-clause-cause : goal.returns-clause-cause
returns-clause-cause g c db pending stood = (rw (c.number_value.ensures) at c.query.ensures.cause) (answered_here g.S.Store c.args.conn.now c.query.new.conn db pending stood c.query.ensures.survives routes_text (Int (pos c.args.network) ∷ []) (λ others. routes_answered others c.args.network))
