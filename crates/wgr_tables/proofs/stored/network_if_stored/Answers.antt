use Rattle.std.proofs.Common.{◌≡◌, Ok, IsErrAnd, IfOk, IfSome, IfNone, false, refl, sym, ap, ◌∙◌, true≢false, map, filter, nat_eq, not, ◌&&◌, subst, IsPermutation}
use Rattle.std.proofs.lemmas.List.Sorted.{IsPermutation-map, IsPermutation-refl, IsPermutation-trans}
use Rattle.wgr_model.specs.Laws.{Has}
use Rattle.wgr_core.specs.Network.{NetworkValue}
use Rattle.wgr_model.specs.Rows.{NetworkRow, address_row, peer_row, route_row}
use Rattle.wgr_model.proofs.GatherLemmas.{eqb_self}
use Rattle.wgr_sql.specs.Faults.{IsStore}
use Rattle.wgr_sql.proofs.SurvivesLemmas.{survives_next}
use Rattle.wgr_columns.specs.Decode.{tables_of, network_in, number_at}
use Rattle.wgr_tables.specs.Loads.{IsMade, network_with}
use Rattle.wgr_columns.specs.Stored.{AreSettings, stored_network}
use Rattle.wgr_tables.specs.Stored.{IsStored}
use Rattle.wgr_tables.proofs.ArrangeLemmas.{same_routes}
use Rattle.wgr_tables.proofs.ToldLemmas.{only_if, told_settings}
use Rattle.sqlite.specs.Held.{state}
use Rattle.wgr_sql.specs.Causes.{HasCause}
use Rattle.wgr_sql.proofs.CauseLemmas.{handed, later_hands_on}
use Rattle.wgr_tables.proofs.ReadLemmas.{reads_next}
use Rattle.wgr_tables.proofs.stored.network_if_stored.Goals as goal

pub returns-in_err-peers-clause-reads : goal.returns-in_err-peers-clause-reads
returns-in_err-peers-clause-reads g c = reads_next c.network_row.ensures.reads c.peers_if_stored.ensures.reads

pub returns-in_default-2-clause-reads : goal.returns-in_default-2-clause-reads
returns-in_default-2-clause-reads g c = reads_next c.network_row.ensures.reads c.peers_if_stored.ensures.reads

pub returns-in_err-routes-clause-reads : goal.returns-in_err-routes-clause-reads
returns-in_err-routes-clause-reads g c = reads_next (reads_next c.network_row.ensures.reads c.peers_if_stored.ensures.reads) c.routes_if_stored.ensures.reads

pub returns-in_default-3-clause-reads : goal.returns-in_default-3-clause-reads
returns-in_default-3-clause-reads g c = reads_next (reads_next c.network_row.ensures.reads c.peers_if_stored.ensures.reads) c.routes_if_stored.ensures.reads

pub returns-in_err-made-clause-reads : goal.returns-in_err-made-clause-reads
returns-in_err-made-clause-reads g c = reads_next (reads_next c.network_row.ensures.reads c.peers_if_stored.ensures.reads) c.routes_if_stored.ensures.reads

pub returns-in_default-4-clause-reads : goal.returns-in_default-4-clause-reads
returns-in_default-4-clause-reads g c = reads_next (reads_next c.network_row.ensures.reads c.peers_if_stored.ensures.reads) c.routes_if_stored.ensures.reads

pub returns-clause-reads : goal.returns-clause-reads
returns-clause-reads g c = reads_next (reads_next c.network_row.ensures.reads c.peers_if_stored.ensures.reads) c.routes_if_stored.ensures.reads

pub returns-clause-some : goal.returns-clause-some
returns-clause-some g c db pending stood clean =
    let id = c.args.network in
    let t = tables_of db in
    let n = c.in-Some-4.made in
    let before = c.routes_if_stored.ensures.reads.clean clean in
    let first = c.network_row.ensures.reads.stands db pending stood in
    let row = subst (λ o. IfSome o (λ row. Has (tables_of db).networks (network_in row) × (number_at row 0 ≡ c.args.network))) c.in-Some.is (c.in_ok-row.ensures.some db pending stood (c.peers_if_stored.ensures.reads.clean before)) in
    let rows = subst (λ o. IfSome o (λ peers. IsPermutation (filter (λ p. nat_eq p.network id) t.peers) (map (peer_row id) peers.items))) c.in-Some-2.is (c.in_ok-peers.ensures.rows db pending first before) in
    let addresses = subst (λ o. IfSome o (λ peers. IsPermutation (filter (λ a. nat_eq a.network id && not a.is_route) t.allowed) (map (address_row id) peers.items))) c.in-Some-2.is (c.in_ok-peers.ensures.addresses db pending first before) in
    let led = subst (λ o. IfSome o (λ routes. IsPermutation (filter (λ a. a.is_route && nat_eq a.network id) t.allowed) (map (route_row id) routes.items))) c.in-Some-3.is (c.in_ok-routes.ensures.rows db pending (c.peers_if_stored.ensures.reads.stands db pending first) clean) in
    let given = subst (λ o. IfSome o (λ x. c.make_network.result ≡ Ok x)) c.in-Some-4.is c.in_ok-made.ensures.some in
    let made = subst (λ r. IfOk r (λ x. IsMade (network_in c.in-Some.row) c.in-Some-2.peers.items c.in-Some-3.routes.items x)) given c.make_network.ensures.made in
    record {
      row = network_in c.in-Some.row;
      there = row.0;
      id_is = row.1;
      value = made.value;
      rules = made.rules;
      forms = c.forms_hold.ensures.forms;
      host = c.forms_hold.ensures.host;
      peers = IsPermutation-trans _ _ _ rows (IsPermutation-map (peer_row id) _ n.peers made.peers);
      addresses = IsPermutation-trans _ _ _ addresses (IsPermutation-map (address_row id) _ n.peers made.peers);
      routes = IsPermutation-trans _ _ _ led (IsPermutation-map (route_row id) _ n.routes made.routes);
    }

pub returns-in_default-clause-none : goal.returns-in_default-clause-none
returns-in_default-clause-none g c db pending stood clean n if_stored =
    let id = c.args.network in
    let absent = subst (λ o. IfNone o ((w : NetworkRow) → Has (tables_of db).networks w → nat_eq w.id id ≡ false)) c.in_default.is (c.in_ok-row.ensures.none db pending stood clean) if_stored.row if_stored.there in
    true≢false (sym (eqb_self id) ∙ sym (ap (λ i. nat_eq i id) if_stored.id_is) ∙ absent)

pub returns-in_default-2-clause-none : goal.returns-in_default-2-clause-none
returns-in_default-2-clause-none g c db pending stood clean =
    subst (λ o. IfNone o ((n : NetworkValue) → IsStored (tables_of db) c.args.network n → ⊥)) c.in_default-2.is (c.in_ok-peers.ensures.none db pending (c.network_row.ensures.reads.stands db pending stood) clean)

pub returns-in_default-3-clause-none : goal.returns-in_default-3-clause-none
returns-in_default-3-clause-none g c db pending stood clean =
    subst (λ o. IfNone o ((n : NetworkValue) → IsStored (tables_of db) c.args.network n → ⊥)) c.in_default-3.is (c.in_ok-routes.ensures.none db pending (c.peers_if_stored.ensures.reads.stands db pending (c.network_row.ensures.reads.stands db pending stood)) clean)

pub returns-in_default-4-clause-none : goal.returns-in_default-4-clause-none
returns-in_default-4-clause-none g c db pending stood clean n if_stored =
    let id = c.args.network in
    let t = tables_of db in
    let row = c.in-Some.row in
    let peers = c.in-Some-2.peers.items in
    let routes = c.in-Some-3.routes.items in
    let before = c.routes_if_stored.ensures.reads.clean clean in
    let first = c.network_row.ensures.reads.stands db pending stood in
    let at = c.peers_if_stored.ensures.reads.clean before in
    let once = subst (λ o. IfSome o (λ x. (w : NetworkRow) → Has t.networks w → w.id ≡ id → network_in x ≡ w)) c.in-Some.is (c.in_ok-row.ensures.once db pending stood at) if_stored.row if_stored.there if_stored.id_is in
    let stored = subst (λ o. IfSome o (λ x. x ≡ stored_network (network_in x))) c.in-Some.is (c.in_ok-row.ensures.stored db pending stood at) in
    let own = subst (λ o. IfSome o (λ x. (m : NetworkValue) → IsStored t id m → x.items ≡ m.peers)) c.in-Some-2.is (c.in_ok-peers.ensures.own db pending first before) n if_stored in
    let led = subst (λ o. IfSome o (λ x. IsPermutation (filter (λ a. a.is_route && nat_eq a.network id) t.allowed) (map (route_row id) x.items))) c.in-Some-3.is (c.in_ok-routes.ensures.rows db pending (c.peers_if_stored.ensures.reads.stands db pending first) clean) in
    let made : IsMade (network_in row) peers routes n = record {
      value = if_stored.value ∙ ap (λ w. network_with w n.peers n.routes) (sym once);
      peers = subst (IsPermutation peers) own (IsPermutation-refl peers);
      routes = same_routes id routes n.routes (filter (λ a. a.is_route && nat_eq a.network id) t.allowed) led if_stored.routes;
      rules = if_stored.rules;
    } in
    let given = subst (λ o. IfNone o (IsErrAnd c.make_network.result IsStore)) c.in_default-4.is c.in_ok-made.ensures.none in
    only_if c.make_network.result IsStore ((m : NetworkValue) → IsMade (network_in row) peers routes m → AreSettings (network_in row) → row ≡ stored_network (network_in row) → ⊥) c.make_network.ensures.only given n made (subst AreSettings (sym once) (told_settings t id n if_stored)) stored

pub returns-in_err-row-clause-cause : goal.returns-in_err-row-clause-cause
returns-in_err-row-clause-cause g c db pending stood apart = handed (HasCause (state g.S.Store c.args.conn.now) (state g.S.Store c.network_row.new.conn)) c.from_residual.result c.in_err-row.field-0.0 c.from_residual.ensures.1 (c.in_err-row.ensures.cause db pending stood apart)

pub returns-in_err-peers-clause-cause : goal.returns-in_err-peers-clause-cause
returns-in_err-peers-clause-cause g c db pending stood apart =
    let old = state g.S.Store c.args.conn.now in
    let mid = state g.S.Store c.network_row.new.conn in
    let new = state g.S.Store c.peers_if_stored.new.conn in
    later_hands_on old mid new c.from_residual-in_err-peers.result c.in_err-peers.field-0.0 c.from_residual-in_err-peers.ensures.1 c.network_row.ensures.reads.survives c.peers_if_stored.ensures.reads.survives
    (c.in_err-peers.ensures.cause db pending (c.network_row.ensures.reads.stands db pending stood))

pub returns-in_err-routes-clause-cause : goal.returns-in_err-routes-clause-cause
returns-in_err-routes-clause-cause g c db pending stood apart =
    let old = state g.S.Store c.args.conn.now in
    let mid = state g.S.Store c.peers_if_stored.new.conn in
    let new = state g.S.Store c.routes_if_stored.new.conn in
    later_hands_on old mid new c.from_residual-in_err-routes.result c.in_err-routes.field-0.0 c.from_residual-in_err-routes.ensures.1 (survives_next _ _ _ c.network_row.ensures.reads.survives c.peers_if_stored.ensures.reads.survives) c.routes_if_stored.ensures.reads.survives
    (c.in_err-routes.ensures.cause db pending (c.peers_if_stored.ensures.reads.stands db pending (c.network_row.ensures.reads.stands db pending stood)))
