use Rattle.std.proofs.Common.{pos, [], ◌∷◌}
use Rattle.sqlite.specs.declared.types.Value.TheVariants.{Int}
use Rattle.wgr_sql.proofs.ResultLemmas.{if_ok}
use Rattle.wgr_columns.specs.Decode.{allowed_in}
use Rattle.wgr_columns.specs.Stored.{AreStored, stored_allowed}
use Rattle.wgr_tables.specs.Loads.{ShowRoutes}
use Rattle.wgr_tables.proofs.ListedLemmas.{routes_listed}
use Rattle.wgr_tables.proofs.Meanings.{routes_text, routes_asks}
use Rattle.wgr_tables.proofs.StoredLemmas.{routes_stored}
use Rattle.wgr_tables.proofs.ReadLemmas.{rows_read, reads_query}
use Rattle.wgr_tables.proofs.AskedLemmas.{answered_here, routes_answered}
use Rattle.wgr_tables.proofs.load.route_rows.Goals as goal

pub returns-clause-reads : goal.returns-clause-reads
returns-clause-reads g c = reads_query g.S.Store c.args.conn.now c.query.new.conn routes_text c.query.ensures.survives (λ others. (routes_asks others).means.plain) c.query.ensures.kept c.query.ensures.idle

pub returns-clause-listed : goal.returns-clause-listed
returns-clause-listed g c db pending stood clean =
    if_ok c.query.result _ _ (λ rows given. rows_read g.S.Store c.args.conn.now c.query.new.conn db pending stood routes_text c.query.ensures.survives (ShowRoutes c.args.network) (Int (pos c.args.network) ∷ []) (λ a b register found. routes_listed a b register c.args.network found) clean rows.items
    (rw c.number_value.ensures at given)) (c.query.ensures.shown clean)

pub returns-clause-stored : goal.returns-clause-stored
returns-clause-stored g c db pending stood clean =
    if_ok c.query.result _ _ (λ rows given. rows_read g.S.Store c.args.conn.now c.query.new.conn db pending stood routes_text c.query.ensures.survives (λ t. AreStored stored_allowed allowed_in) (Int (pos c.args.network) ∷ []) (λ a b register found. routes_stored a b register c.args.network found) clean rows.items
    (rw c.number_value.ensures at given)) (c.query.ensures.shown clean)

pub returns-clause-cause : goal.returns-clause-cause
returns-clause-cause g c db pending stood = (rw (c.number_value.ensures) at c.query.ensures.cause) (answered_here g.S.Store c.args.conn.now c.query.new.conn db pending stood c.query.ensures.survives routes_text (Int (pos c.args.network) ∷ []) (λ others. routes_answered others c.args.network))
