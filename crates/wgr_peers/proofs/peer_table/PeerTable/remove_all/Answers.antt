use Rattle.std.proofs.Common.{◌≡◌, ◌↔◌, ℕ, List, true, nat_eq, not, sym, ap, ◌∙◌, subst}
use Rattle.std.specs.List.{All, AllPairs, list_any}
use Rattle.wgr_peers.specs.declared.peer.Peer.{Peer}
use Rattle.wgr_peers.specs.Peers.{is_first, is_second, key_holder, IsNumberedBelow}
use Rattle.wgr_peers.specs.PeerIndex.{EndsFrom, HasThose}
use Rattle.wgr_peers.specs.PeersLeft.{peers_left}
use Rattle.wgr_pool.proofs.Lists.{AllPairs-filter}
use Rattle.wgr_peers.proofs.peer_table.PeerTable.remove_all.Goals as goal

pub invariant_of-self : goal.invariant_of-self
invariant_of-self c =
    let items = c.self.inside.peers.items in
    let gone = c.args.gone.now in
    let left = c.drop_peers.ensures.left in
    let seen = ap (λ (ps : List Peer). peers_left ps c.as_slice.result.now) c.deref.ensures.value ∙ ap (peers_left items) c.as_slice.ensures ∙ sym left in
    record {
      in_order = subst (AllPairs IsNumberedBelow) (sym left) (AllPairs-filter IsNumberedBelow (λ p. not (list_any (nat_eq p.number) gone)) items c.self.invariant.in_order);
      by_key = λ key.
          c.forget_keys.ensures.by_key key
          ∙ ap (λ (ps : List Peer). key_holder (peers_left ps c.as_slice-2.result.now) key) c.deref-2.ensures.value
          ∙ ap (λ (gs : List ℕ). key_holder (peers_left items gs) key) c.as_slice-2.ensures
          ∙ sym (ap (λ (ps : List Peer). key_holder ps key) left);
      by_address = subst (λ (ps : List Peer). HasThose is_first ps c.forget_addresses.new.addresses) seen c.forget_addresses.ensures.first;
      by_second = subst (λ (ps : List Peer). HasThose is_second ps c.forget_addresses.new.seconds) seen c.forget_addresses.ensures.second;
      ends = subst (All (EndsFrom c.soonest_end-self-inside.result)) c.deref-3.ensures.value c.soonest_end-self-inside.ensures;
    }
