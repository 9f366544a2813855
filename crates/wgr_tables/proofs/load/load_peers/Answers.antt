use Rattle.std.proofs.Common.{map, filter, nat_eq, not, ◌&&◌, sym, ap, ◌∙◌, subst, IsPermutation}
use Rattle.wgr_sql.proofs.ResultLemmas.{if_ok}
use Rattle.wgr_core.proofs.AloneLemmas.{members_alone}
use Rattle.wgr_columns.specs.Decode.{tables_of, peer_in, allowed_in}
use Rattle.sqlite.specs.Held.{state}
use Rattle.wgr_sql.specs.Causes.{HasCause}
use Rattle.wgr_sql.proofs.CauseLemmas.{handed, later_hands_on, never_stores}
use Rattle.wgr_columns.specs.Stored.{stored_allowed, stored_peer}
use Rattle.wgr_tables.proofs.ArrangeLemmas.{if_three, kept_peers, peers_once, shown_addresses, shown_peers}
use Rattle.wgr_tables.proofs.ReadLemmas.{reads_next}
use Rattle.wgr_tables.proofs.load.load_peers.Goals as goal

pub returns-in_err-addresses-clause-reads : goal.returns-in_err-addresses-clause-reads
returns-in_err-addresses-clause-reads g c = reads_next c.peer_rows.ensures.reads c.address_rows.ensures.reads

pub returns-clause-reads : goal.returns-clause-reads
returns-clause-reads g c = reads_next c.peer_rows.ensures.reads c.address_rows.ensures.reads

pub returns-clause-rows : goal.returns-clause-rows
returns-clause-rows g c db pending stood clean =
    let rows = c.in_ok-rows.ensures.listed db pending stood (c.address_rows.ensures.reads.clean clean) in
    if_ok c.peers_of.result _ _ (λ peers p. subst (IsPermutation (filter (λ r. nat_eq r.network c.args.network) (tables_of db).peers)) (sym (p ∙ ap (map peer_in) c.as_slice.ensures.value)) rows) c.peers_of.ensures.rows

pub returns-clause-addresses : goal.returns-clause-addresses
returns-clause-addresses g c db pending stood clean =
    let addresses = c.in_ok-addresses.ensures.listed db pending (c.peer_rows.ensures.reads.stands db pending stood) clean in
    if_ok c.peers_of.result _ _ (λ peers p. subst (IsPermutation (filter (λ a. nat_eq a.network c.args.network && not a.is_route) (tables_of db).allowed)) (sym (p ∙ ap (map allowed_in) c.as_slice-2.ensures.value)) addresses) c.peers_of.ensures.addresses

pub returns-in_err-rows-clause-cause : goal.returns-in_err-rows-clause-cause
returns-in_err-rows-clause-cause g c db pending n stood told = handed (HasCause (state g.S.Store c.args.conn.now) (state g.S.Store c.peer_rows.new.conn)) c.from_residual.result c.in_err-rows.field-0.0 c.from_residual.ensures.1 (c.in_err-rows.ensures.cause db pending stood)

pub returns-in_err-addresses-clause-cause : goal.returns-in_err-addresses-clause-cause
returns-in_err-addresses-clause-cause g c db pending n stood told =
    let old = state g.S.Store c.args.conn.now in
    let mid = state g.S.Store c.peer_rows.new.conn in
    let new = state g.S.Store c.address_rows.new.conn in
    later_hands_on old mid new c.from_residual-in_err-addresses.result c.in_err-addresses.field-0.0 c.from_residual-in_err-addresses.ensures.1 c.peer_rows.ensures.reads.survives c.address_rows.ensures.reads.survives
    (c.in_err-addresses.ensures.cause db pending (c.peer_rows.ensures.reads.stands db pending stood))

pub returns-clause-own : goal.returns-clause-own
returns-clause-own g c db pending n stood told clean =
    let id = c.args.network in
    let t = tables_of db in
    let before = c.address_rows.ensures.reads.clean clean in
    let next = c.peer_rows.ensures.reads.stands db pending stood in
    let typed = shown_peers id t n told.rules told.peers (map peer_in c.in_ok-rows.rows.items)
    (c.in_ok-rows.ensures.listed db pending stood before) (c.in_ok-rows.ensures.rising db pending stood before) in
    let owned = shown_addresses id t n told.rules told.addresses (map allowed_in c.in_ok-addresses.addresses.items)
    (c.in_ok-addresses.ensures.listed db pending next clean) (c.in_ok-addresses.ensures.rising db pending next clean) in
    if_three c.peers_of.result _ _ _ _ (λ peers p a alone. peers_once id peers.items n.peers alone (members_alone n told.rules) (p ∙ ap (map peer_in) c.as_slice.ensures.value ∙ typed) (a ∙ ap (map allowed_in) c.as_slice-2.ensures.value ∙ owned)) c.peers_of.ensures.rows c.peers_of.ensures.addresses c.peers_of.ensures.alone

pub returns-clause-cause : goal.returns-clause-cause
returns-clause-cause g c db pending n stood told = never_stores _ (state g.S.Store c.args.conn.now) (state g.S.Store c.address_rows.new.conn) c.peers_of.result c.peers_of.ensures.only (λ clean only.
    let id = c.args.network in
    let t = tables_of db in
    let before = c.address_rows.ensures.reads.clean clean in
    let next = c.peer_rows.ensures.reads.stands db pending stood in
    let typed = shown_peers id t n told.rules told.peers (map peer_in c.in_ok-rows.rows.items)
    (c.in_ok-rows.ensures.listed db pending stood before) (c.in_ok-rows.ensures.rising db pending stood before) in
    let owned = shown_addresses id t n told.rules told.addresses (map allowed_in c.in_ok-addresses.addresses.items)
    (c.in_ok-addresses.ensures.listed db pending next clean) (c.in_ok-addresses.ensures.rising db pending next clean) in
    only n.peers (kept_peers n told.rules told.forms) (c.as_slice.ensures.value ∙ c.in_ok-rows.ensures.stored db pending stood before ∙ ap (map stored_peer) typed) (c.as_slice-2.ensures.value ∙ c.in_ok-addresses.ensures.stored db pending next clean ∙ ap (map stored_allowed) owned))
