use Rattle.wgr_sql.proofs.ResultLemmas.{if_ok}
use Rattle.wgr_columns.specs.Decode.{tables_of, network_in}
use Rattle.wgr_tables.proofs.LoadLemmas.{network_is_read}
use Rattle.sqlite.specs.Held.{state}
use Rattle.wgr_sql.specs.Causes.{HasCause}
use Rattle.wgr_sql.proofs.CauseLemmas.{handed, later_hands_on, never_stores}
use Rattle.std.proofs.Common.{filter, nat_eq, ◌&&◌, sym, ap, subst, ◌∙◌}
use Rattle.std.proofs.lemmas.List.Sorted.{IsPermutation-refl}
use Rattle.std.specs.List.Sorted.{IsPermutation}
use Rattle.wgr_tables.specs.Loads.{IsMade, network_with}
use Rattle.wgr_columns.specs.Stored.{AreSettings}
use Rattle.wgr_tables.proofs.ArrangeLemmas.{same_routes}
use Rattle.wgr_tables.proofs.ToldLemmas.{told_settings}
use Rattle.wgr_tables.proofs.ReadLemmas.{reads_next}
use Rattle.wgr_tables.proofs.load.load_row.Goals as goal

pub returns-in_err-routes-clause-reads : goal.returns-in_err-routes-clause-reads
returns-in_err-routes-clause-reads g c = reads_next c.load_peers.ensures.reads c.load_routes.ensures.reads

pub returns-clause-reads : goal.returns-clause-reads
returns-clause-reads g c = reads_next c.load_peers.ensures.reads c.load_routes.ensures.reads

pub returns-clause-read : goal.returns-clause-read
returns-clause-read g c db pending stood keyed clean is =
    let rows = c.in_ok-peers.ensures.rows db pending stood (c.load_routes.ensures.reads.clean clean) in
    let addresses = c.in_ok-peers.ensures.addresses db pending stood (c.load_routes.ensures.reads.clean clean) in
    let led = c.in_ok-routes.ensures.rows db pending (c.load_peers.ensures.reads.stands db pending stood) clean in
    if_ok c.make_network.result _ _ (λ n made. network_is_read (tables_of db) (network_in c.args.row.now) c.args.network is keyed _ _ n made rows addresses led) c.make_network.ensures.made

pub returns-in_err-peers-clause-cause : goal.returns-in_err-peers-clause-cause
returns-in_err-peers-clause-cause g c db pending n stood told is = handed (HasCause (state g.S.Store c.args.conn.now) (state g.S.Store c.load_peers.new.conn)) c.from_residual.result c.in_err-peers.field-0.0 c.from_residual.ensures.1 (c.in_err-peers.ensures.cause db pending n stood told)

pub returns-in_err-routes-clause-cause : goal.returns-in_err-routes-clause-cause
returns-in_err-routes-clause-cause g c db pending n stood told is =
    let old = state g.S.Store c.args.conn.now in
    let mid = state g.S.Store c.load_peers.new.conn in
    let new = state g.S.Store c.load_routes.new.conn in
    later_hands_on old mid new c.from_residual-in_err-routes.result c.in_err-routes.field-0.0 c.from_residual-in_err-routes.ensures.1 c.load_peers.ensures.reads.survives c.load_routes.ensures.reads.survives
    (c.in_err-routes.ensures.cause db pending n (c.load_peers.ensures.reads.stands db pending stood) told)

pub returns-clause-cause : goal.returns-clause-cause
returns-clause-cause g c db pending n stood told is = never_stores _ (state g.S.Store c.args.conn.now) (state g.S.Store c.load_routes.new.conn) c.make_network.result c.make_network.ensures.only (λ clean only.
    let id = c.args.network in
    let t = tables_of db in
    let peers = c.in_ok-peers.peers.items in
    let routes = c.in_ok-routes.routes.items in
    let once = (is clean).0 in
    let own = c.in_ok-peers.ensures.own db pending n stood told (c.load_routes.ensures.reads.clean clean) in
    let led = c.in_ok-routes.ensures.rows db pending (c.load_peers.ensures.reads.stands db pending stood) clean in
    let made : IsMade (network_in c.args.row.now) peers routes n = record {
      value = told.value ∙ ap (λ w. network_with w n.peers n.routes) (sym once);
      peers = subst (IsPermutation peers) own (IsPermutation-refl peers);
      routes = same_routes id routes n.routes (filter (λ a. a.is_route && nat_eq a.network id) t.allowed) led told.routes;
      rules = told.rules;
    } in
    only n made (subst AreSettings (sym once) (told_settings t id n told)) (is clean).1)
