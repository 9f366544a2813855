use Rattle.std.proofs.Common.{◌≡◌, map, filter, nat_eq, not, ◌&&◌, sym, ap, ◌∙◌, subst, IsPermutation}
use Rattle.wgr_sql.proofs.ResultLemmas.{if_ok}
use Rattle.wgr_core.specs.Network.{NetworkValue}
use Rattle.wgr_core.proofs.AloneLemmas.{members_alone}
use Rattle.wgr_model.specs.Rows.{address_row, peer_row}
use Rattle.wgr_sql.specs.Faults.{IsStore}
use Rattle.wgr_columns.specs.Decode.{tables_of, peer_in, allowed_in}
use Rattle.wgr_columns.specs.Stored.{stored_allowed, stored_peer}
use Rattle.wgr_tables.specs.Stored.{IsStored}
use Rattle.wgr_tables.proofs.ArrangeLemmas.{if_three, kept_peers, peers_once, shown_addresses, shown_peers}
use Rattle.wgr_tables.proofs.ToldLemmas.{err_as, none_as, told_as}
use Rattle.sqlite.specs.Held.{state}
use Rattle.wgr_sql.specs.Causes.{HasCause}
use Rattle.wgr_sql.proofs.CauseLemmas.{handed, later_hands_on}
use Rattle.wgr_tables.proofs.ReadLemmas.{reads_next}
use Rattle.wgr_tables.proofs.stored.peers_if_stored.Goals as goal

pub returns-in_err-addresses-clause-reads : goal.returns-in_err-addresses-clause-reads
returns-in_err-addresses-clause-reads g c = reads_next c.peer_rows.ensures.reads c.address_rows.ensures.reads

pub returns-clause-reads : goal.returns-clause-reads
returns-clause-reads g c = reads_next c.peer_rows.ensures.reads c.address_rows.ensures.reads

pub returns-clause-rows : goal.returns-clause-rows
returns-clause-rows g c db pending stood clean =
    let rows = c.in_ok-rows.ensures.listed db pending stood (c.address_rows.ensures.reads.clean clean) in
    told_as c.peers_of.result c.if_stored.result (λ peers. IsPermutation (filter (λ p. nat_eq p.network c.args.network) (tables_of db).peers) (map (peer_row c.args.network) peers.items))
    (if_ok c.peers_of.result _ _ (λ peers p. subst (IsPermutation (filter (λ r. nat_eq r.network c.args.network) (tables_of db).peers)) (sym (p ∙ ap (map peer_in) c.as_slice.ensures.value)) rows) c.peers_of.ensures.rows)
    c.if_stored.ensures.some

pub returns-clause-addresses : goal.returns-clause-addresses
returns-clause-addresses g c db pending stood clean =
    let addresses = c.in_ok-addresses.ensures.listed db pending (c.peer_rows.ensures.reads.stands db pending stood) clean in
    told_as c.peers_of.result c.if_stored.result (λ peers. IsPermutation (filter (λ a. nat_eq a.network c.args.network && not a.is_route) (tables_of db).allowed) (map (address_row c.args.network) peers.items))
    (if_ok c.peers_of.result _ _ (λ peers p. subst (IsPermutation (filter (λ a. nat_eq a.network c.args.network && not a.is_route) (tables_of db).allowed)) (sym (p ∙ ap (map allowed_in) c.as_slice-2.ensures.value)) addresses) c.peers_of.ensures.addresses)
    c.if_stored.ensures.some

pub returns-clause-own : goal.returns-clause-own
returns-clause-own g c db pending stood clean =
    let id = c.args.network in
    let t = tables_of db in
    let before = c.address_rows.ensures.reads.clean clean in
    let next = c.peer_rows.ensures.reads.stands db pending stood in
    let typed = λ (n : NetworkValue) (if_stored : IsStored t id n). shown_peers id t n if_stored.rules if_stored.peers (map peer_in c.in_ok-rows.rows.items)
    (c.in_ok-rows.ensures.listed db pending stood before) (c.in_ok-rows.ensures.rising db pending stood before) in
    let owned = λ (n : NetworkValue) (if_stored : IsStored t id n). shown_addresses id t n if_stored.rules if_stored.addresses (map allowed_in c.in_ok-addresses.addresses.items)
    (c.in_ok-addresses.ensures.listed db pending next clean) (c.in_ok-addresses.ensures.rising db pending next clean) in
    told_as c.peers_of.result c.if_stored.result (λ peers. (n : NetworkValue) → IsStored t id n → peers.items ≡ n.peers)
    (if_three c.peers_of.result _ _ _ _ (λ peers p a alone n if_stored. peers_once id peers.items n.peers alone (members_alone n if_stored.rules) (p ∙ ap (map peer_in) c.as_slice.ensures.value ∙ typed n if_stored) (a ∙ ap (map allowed_in) c.as_slice-2.ensures.value ∙ owned n if_stored)) c.peers_of.ensures.rows c.peers_of.ensures.addresses c.peers_of.ensures.alone)
    c.if_stored.ensures.some

pub returns-clause-none : goal.returns-clause-none
returns-clause-none g c db pending stood clean =
    let id = c.args.network in
    let t = tables_of db in
    let before = c.address_rows.ensures.reads.clean clean in
    let next = c.peer_rows.ensures.reads.stands db pending stood in
    let typed = λ (n : NetworkValue) (if_stored : IsStored t id n). shown_peers id t n if_stored.rules if_stored.peers (map peer_in c.in_ok-rows.rows.items)
    (c.in_ok-rows.ensures.listed db pending stood before) (c.in_ok-rows.ensures.rising db pending stood before) in
    let owned = λ (n : NetworkValue) (if_stored : IsStored t id n). shown_addresses id t n if_stored.rules if_stored.addresses (map allowed_in c.in_ok-addresses.addresses.items)
    (c.in_ok-addresses.ensures.listed db pending next clean) (c.in_ok-addresses.ensures.rising db pending next clean) in
    none_as c.peers_of.result c.if_stored.result IsStore ((n : NetworkValue) → IsStored t id n → ⊥)
    (err_as c.peers_of.result _ _ (λ e only is n if_stored. only is n.peers (kept_peers n if_stored.rules if_stored.forms)
    (c.as_slice.ensures.value ∙ c.in_ok-rows.ensures.stored db pending stood before ∙ ap (map stored_peer) (typed n if_stored))
    (c.as_slice-2.ensures.value ∙ c.in_ok-addresses.ensures.stored db pending next clean ∙ ap (map stored_allowed) (owned n if_stored))) c.peers_of.ensures.only)
    c.if_stored.ensures.none

pub returns-in_err-rows-clause-cause : goal.returns-in_err-rows-clause-cause
returns-in_err-rows-clause-cause g c db pending stood = handed (HasCause (state g.S.Store c.args.conn.now) (state g.S.Store c.peer_rows.new.conn)) c.from_residual.result c.in_err-rows.field-0.0 c.from_residual.ensures.1 (c.in_err-rows.ensures.cause db pending stood)

pub returns-in_err-addresses-clause-cause : goal.returns-in_err-addresses-clause-cause
returns-in_err-addresses-clause-cause g c db pending stood =
    let old = state g.S.Store c.args.conn.now in
    let mid = state g.S.Store c.peer_rows.new.conn in
    let new = state g.S.Store c.address_rows.new.conn in
    later_hands_on old mid new c.from_residual-in_err-addresses.result c.in_err-addresses.field-0.0 c.from_residual-in_err-addresses.ensures.1 c.peer_rows.ensures.reads.survives c.address_rows.ensures.reads.survives
    (c.in_err-addresses.ensures.cause db pending (c.peer_rows.ensures.reads.stands db pending stood))
