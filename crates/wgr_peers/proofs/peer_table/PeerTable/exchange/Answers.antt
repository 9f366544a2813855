use Rattle.std.proofs.Common.{◌≡◌, ℕ, ◌↔◌, List, true, false, nat_eq, not, cond, refl, sym, ap, ◌∙◌, subst}
use Rattle.std.specs.List.{All, AllPairs, list_any}
use Rattle.wgr_peers.specs.declared.peer.Peer.{Peer}
use Rattle.wgr_peers.specs.Peers.{is_first, is_second, key_holder, IsNumberedBelow, AreApart}
use Rattle.wgr_peers.specs.PeerIndex.{EndsFrom, HasThose, IsIndexed}
use Rattle.wgr_peers.specs.PeersLeft.{peers_left}
use Rattle.wgr_pool.proofs.Lists.{AllPairs-filter}
use Rattle.wgr_pool.proofs.PrefixLemmas.{nat_eq_self}
use Rattle.wgr_peers.proofs.TableLemmas.{indexed_same}
use Rattle.wgr_peers.proofs.ExchangeLemmas.{exchanged, indexed_insert, none_left}
use Rattle.wgr_peers.proofs.peer_table.PeerTable.exchange.Goals as goal

pub invariant_of-self-in_err-reserve-2 : goal.invariant_of-self-in_err-reserve-2
invariant_of-self-in_err-reserve-2 c =
    indexed_same _ _ c.self.inside.numbers c.reserve-2.new.self _ _ _ _ _ c.self.invariant c.reserve.ensures.items c.reserve-2.ensures.entries.2 (λ b fits. ((λ h. h), (λ h. h))) (λ b fits. ((λ h. h), (λ h. h)))

pub forget_keys-requires-clause-numbered : goal.forget_keys-requires-clause-numbered
forget_keys-requires-clause-numbered c =
    subst (AllPairs IsNumberedBelow) (sym (c.deref.ensures.value ∙ c.reserve.ensures.items)) c.self.invariant.in_order

pub forget_keys-requires-clause-by_key : goal.forget_keys-requires-clause-by_key
forget_keys-requires-clause-by_key c = λ key.
    c.reserve-2.ensures.entries.2 key ∙ c.self.invariant.by_key key ∙ sym (ap (λ (ps : List Peer). key_holder ps key) (c.deref.ensures.value ∙ c.reserve.ensures.items))

pub peer_place-requires : goal.peer_place-requires
peer_place-requires c =
    let gone = c.insert.new.self in
    let left = c.drop_peers.ensures.left ∙ ap (λ (ps : List Peer). peers_left ps gone) c.reserve.ensures.items in
    subst (AllPairs IsNumberedBelow) (sym (c.deref-2.ensures.value ∙ left)) (AllPairs-filter IsNumberedBelow (λ p. not (list_any (nat_eq p.number) gone)) c.self.inside.peers.items c.self.invariant.in_order)

pub unreachable-requires : goal.unreachable-requires
unreachable-requires c =
    let gone = c.insert.new.self in
    let ends = rw c.deref-2.ensures.value at c.in_default.ensures in
    let none = subst (All (λ q. nat_eq q.number c.args.peer.number ≡ false)) (sym c.drop_peers.ensures.left) (none_left c.reserve.new.self.items gone c.args.peer.number (c.in_ok-insert.ensures.ok c.args.peer.number ∙ ap (λ b. cond b true (list_any (nat_eq c.args.peer.number) c.args.gone)) (nat_eq_self c.args.peer.number))) in
    let bad : true ≡ false = sym (ends.2 c.args.peer) ∙ none c.in_default.field-0 c.args.peer ends.1 in
    cc

pub invariant_of-self-2 : goal.invariant_of-self-2
invariant_of-self-2 c =
    let p = c.args.peer in
    let items = c.self.inside.peers.items in
    let gone = c.insert.new.self in
    let rest = c.drop_peers.new.peers.items in
    let left = c.drop_peers.ensures.left ∙ ap (λ (ps : List Peer). peers_left ps gone) c.reserve.ensures.items in
    let numbered = subst (AllPairs IsNumberedBelow) (sym left) (AllPairs-filter IsNumberedBelow (λ p. not (list_any (nat_eq p.number) gone)) items c.self.invariant.in_order) in
    let ends = rw c.deref-2.ensures.value at c.in-Err.ensures in
    let placed = exchanged items c.args.self.now rest c.args.gone gone p c.in-Err.place c.self.invariant.in_order c.self.view_is left c.in_ok-insert.ensures.ok ends in
    let made = c.in-Ok-insert.ensures.items in
    subst (λ (ps : List Peer). IsIndexed ps c.insert-2.new.self c.insert_addresses.new.addresses c.insert_addresses.new.seconds c.soonest_end-self-inside.result) (sym made)
    (indexed_insert rest c.forget_keys.new.numbers c.insert-2.new.self c.in_ok-addresses.addresses c.insert_addresses.new.addresses c.in_ok-addresses.seconds c.insert_addresses.new.seconds c.soonest_end-self-inside.result p c.in-Err.place numbered ends
    (subst AreApart (sym placed) c.requires.fits)
    (λ key. c.forget_keys.ensures.by_key key ∙ ap (λ (gs : List ℕ). key_holder (peers_left c.deref.result.now gs) key) c.as_slice.ensures ∙ ap (λ (ps : List Peer). key_holder (peers_left ps gone) key) c.deref.ensures.value ∙ sym (ap (λ (ps : List Peer). key_holder ps key) c.drop_peers.ensures.left))
    c.in-Ok.ensures.updates.0
    (subst (λ (ps : List Peer). HasThose is_first ps c.in_ok-addresses.addresses) (ap (λ (ps : List Peer). peers_left ps gone) (sym c.self.view_is) ∙ sym left) c.in_ok-addresses.ensures.first)
    c.in_ok-insert_addresses.ensures.first
    (subst (λ (ps : List Peer). HasThose is_second ps c.in_ok-addresses.seconds) (ap (λ (ps : List Peer). peers_left ps gone) (sym c.self.view_is) ∙ sym left) c.in_ok-addresses.ensures.second)
    c.in_ok-insert_addresses.ensures.second
    (subst (All (EndsFrom c.soonest_end-self-inside.result)) (c.deref-3.ensures.value ∙ made) c.soonest_end-self-inside.ensures))

pub returns-clause-ok : goal.returns-clause-ok
returns-clause-ok c =
    let gone = c.insert.new.self in
    let left = c.drop_peers.ensures.left ∙ ap (λ (ps : List Peer). peers_left ps gone) c.reserve.ensures.items in
    let ends = rw c.deref-2.ensures.value at c.in-Err.ensures in
    c.in-Ok-insert.ensures.items ∙ exchanged c.self.inside.peers.items c.args.self.now c.drop_peers.new.peers.items c.args.gone gone c.args.peer c.in-Err.place c.self.invariant.in_order c.self.view_is left c.in_ok-insert.ensures.ok ends
