use Rattle.std.proofs.Common.{ap, ◌∙◌}
use Rattle.sqlite.specs.Held.{state}
use Rattle.wgr_model.specs.Register.{NetworkEntry}
use Rattle.wgr_columns.specs.Decode.{tables_of}
use Rattle.wgr_entries.specs.Lookups.{peer_count, route_count}
use Rattle.wgr_sql.specs.Causes.{HasCause}
use Rattle.wgr_sql.proofs.CauseLemmas.{cause_after, handed}
use Rattle.wgr_tables.proofs.ReadLemmas.{reads_next}
use Rattle.wgr_register.proofs.census.counted.Goals as goal

pub returns-in_err-peers-clause-cause : goal.returns-in_err-peers-clause-cause
returns-in_err-peers-clause-cause g c db pending stood = handed (HasCause (state g.S.Store c.args.conn.now) (state g.S.Store c.count_peers.new.conn)) c.from_residual.result c.in_err-peers.field-0.0 c.from_residual.ensures.1 (c.in_err-peers.ensures.cause db pending stood)

pub returns-in_err-routes-clause-reads : goal.returns-in_err-routes-clause-reads
returns-in_err-routes-clause-reads g c = reads_next c.count_peers.ensures.reads c.count_routes.ensures.reads

pub returns-in_err-routes-clause-cause : goal.returns-in_err-routes-clause-cause
returns-in_err-routes-clause-cause g c db pending stood =
    let old = state g.S.Store c.args.conn.now in
    let mid = state g.S.Store c.count_peers.new.conn in
    let new = state g.S.Store c.count_routes.new.conn in
    handed (HasCause old new) c.from_residual-in_err-routes.result c.in_err-routes.field-0.0 c.from_residual-in_err-routes.ensures.1
    (cause_after old mid new ⊥ ⊥ (λ _. ⊥) (λ _. ⊥) c.count_peers.ensures.reads.survives c.count_routes.ensures.reads.survives (λ none. none) c.in_err-routes.field-0.0 (c.in_err-routes.ensures.cause db pending (c.count_peers.ensures.reads.stands db pending stood)))

pub returns-clause-reads : goal.returns-clause-reads
returns-clause-reads g c = reads_next c.count_peers.ensures.reads c.count_routes.ensures.reads

pub returns-clause-counted : goal.returns-clause-counted
returns-clause-counted g c db pending stood clean =
    let t = tables_of db in
    let peers = c.in_ok-peers.ensures.counted db pending stood (c.count_routes.ensures.reads.clean clean) ∙ ap (λ (h : NetworkEntry). peer_count t h.id) c.network_entry.view_is in
    let routes = c.in_ok-routes.ensures.counted db pending (c.count_peers.ensures.reads.stands db pending stood) clean ∙ ap (λ (h : NetworkEntry). route_count t h.id) c.network_entry.view_is in
    λ k. record { network_entry = c.args.network_entry; peers = peers k; routes = routes k }
