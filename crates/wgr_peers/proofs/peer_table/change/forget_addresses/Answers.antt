use Rattle.std.proofs.Common.{ℕ, ◌≡◌, List, take, get_or, ◌++◌, ◌∷◌, [], sym, subst, arith}
use Rattle.std.proofs.lemmas.List.{get_or_default, take_all}
use Rattle.wgr_text.specs.declared.prefix.Span.{Span}
use Rattle.wgr_peers.specs.declared.peer.Peer.{Peer}
use Rattle.wgr_peers.specs.Peers.{is_first, is_second}
use Rattle.wgr_peers.specs.PeerIndex.{HasAllBut, HasThose}
use Rattle.wgr_peers.specs.PeersLeft.{peers_left}
use Rattle.wgr_pool.proofs.Lists.{filter_all}
use Rattle.wgr_peers.proofs.CollectLemmas.{take_next}
use Rattle.wgr_peers.proofs.IndexLemmas.{search_found, search_absent}
use Rattle.wgr_peers.proofs.LeftLemmas.{held_without, held_absent_too}
use Rattle.wgr_peers.proofs.PeerLemmas.{one_first, one_second}
use Rattle.wgr_peers.proofs.peer_table.change.forget_addresses.Goals as goal
use Rattle.wgr_peers.proofs.peer_table.change.forget_addresses.Goals.{in-Ok, in_default}

-- both sets, without the addresses of the peers of these numbers
abbrev HaveThem : List Peer → List Span → List Span → List ℕ → Type 0
HaveThem peers runs seconds gone = HasThose is_first (peers_left peers gone) runs × HasThose is_second (peers_left peers gone) seconds

pub loop-number-init : goal.loop-number-init
loop-number-init c = record {
  first = subst (λ (ps : List Peer). HasThose is_first ps c.args.addresses.now) (sym (filter_all c.args.peers.now)) c.requires.by_address;
  second = subst (λ (ps : List Peer). HasThose is_second ps c.args.seconds.now) (sym (filter_all c.args.peers.now)) c.requires.by_second;
}

pub loop-number-preserved : goal.loop-number-preserved
loop-number-preserved c =
    let peers = c.args.peers.now in
    let gone = c.args.gone.now in
    let i = c.loop-number.number-index in
    let n = get_or gone i 0 in
    let next = take_next gone i n c.loop-number-test.true (get_or_default gone i 0 n c.loop-number-test.true) in
    let kept = c.loop-number.invariant in
    let both : HaveThem peers c.match-peer_place.addresses c.match-peer_place.seconds (take i gone ++ n ∷ []) = elim c.match-peer_place.branch [
      | in-Ok w ↦
          let p = w.index-peers-place.result in
          let found = search_found peers n w.in-Ok.place p c.requires.numbered w.in-Ok.ensures w.index-peers-place.is in
          let first = w.remove_addresses.ensures.first in
          let second = w.remove_addresses.ensures.second in (
            subst (HasThose is_first (peers_left peers (take i gone ++ n ∷ []))) (sym w.addresses-is)
                (held_without is_first peers (take i gone) n p c.loop-number.addresses w.remove_addresses.new.addresses c.requires.numbered (λ b. one_first peers b c.requires.apart) found kept.first first),
            subst (HasThose is_second (peers_left peers (take i gone ++ n ∷ []))) (sym w.seconds-is)
                (held_without is_second peers (take i gone) n p c.loop-number.seconds w.remove_addresses.new.seconds c.requires.numbered (λ b. one_second peers b c.requires.apart) found kept.second second),
          )
      | in_default w ↦
          let none = search_absent peers n w.in_default.field-0 c.requires.numbered w.in_default.ensures in (
            subst (HasThose is_first (peers_left peers (take i gone ++ n ∷ []))) (sym w.addresses-is)
                (held_absent_too is_first peers (take i gone) n c.loop-number.addresses (λ b. one_first peers b c.requires.apart) none kept.first),
            subst (HasThose is_second (peers_left peers (take i gone ++ n ∷ []))) (sym w.seconds-is)
                (held_absent_too is_second peers (take i gone) n c.loop-number.seconds (λ b. one_second peers b c.requires.apart) none kept.second),
          )
    ] in
    let have = subst (HaveThem peers c.match-peer_place.addresses c.match-peer_place.seconds) (sym next) both in
    record { first = have.0; second = have.1 }

pub returns-clause-first : goal.returns-clause-first
returns-clause-first c =
    let gone = c.args.gone.now in
    let test = c.loop-number-test.false in
    subst (λ gs. HasThose is_first (peers_left c.args.peers.now gs) c.loop-number.addresses) (take_all c.loop-number.number-index gone (omega (arith, test))) c.loop-number.invariant.first

pub returns-clause-second : goal.returns-clause-second
returns-clause-second c =
    let gone = c.args.gone.now in
    let test = c.loop-number-test.false in
    subst (λ gs. HasThose is_second (peers_left c.args.peers.now gs) c.loop-number.seconds) (take_all c.loop-number.number-index gone (omega (arith, test))) c.loop-number.invariant.second
