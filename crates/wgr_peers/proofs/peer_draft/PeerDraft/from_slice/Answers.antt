use Rattle.std.proofs.Common.{◌≡◌, ◌+◌, ◌++◌, ◌∷◌, ◌<◌, take, drop, List, sym, ap, ◌∙◌, subst}
use Rattle.std.specs.List.{All, AllPairs}
use Rattle.std.proofs.lemmas.List.{take-append-drop}
use Rattle.wgr_pool.proofs.Lists.{AllPairs-before, drop_next}
use Rattle.wgr_peers.specs.declared.peer.Peer.{Peer}
use Rattle.wgr_peers.specs.Peers.{key_holder, IsNumberedBelow, IsApart}
use Rattle.wgr_peers.proofs.TableLemmas.{new_key}
use Rattle.wgr_peers.proofs.peer_draft.PeerDraft.from_slice.Goals as goal

pub push-requires-clause-above : goal.push-requires-clause-above
push-requires-clause-above c =
    let i = c.loop-peer.peer-index in
    let peers = c.args.peers.now in
    let p = c.peer-item.result in
    let parts : peers ≡ take i peers ++ p ∷ drop (i + 1) peers = sym (take-append-drop i peers) ∙ ap (λ (rest : List Peer). take i peers ++ rest) (drop_next peers i p c.loop-peer-test.true c.peer-item.is) in
    subst (λ (q : Peer). All (λ (e : Peer). e.number < q.number) c.loop-peer.draft) (sym c.in_ok-copy.ensures)
    (subst (λ (ps : List Peer). All (λ (e : Peer). e.number < p.number) ps) (sym c.loop-peer.invariant)
    (AllPairs-before IsNumberedBelow (take i peers) p (drop (i + 1) peers) (subst (AllPairs IsNumberedBelow) parts c.requires.numbered)))

pub push-requires-clause-new_key : goal.push-requires-clause-new_key
push-requires-clause-new_key c =
    let i = c.loop-peer.peer-index in
    let peers = c.args.peers.now in
    let p = c.peer-item.result in
    let parts : peers ≡ take i peers ++ p ∷ drop (i + 1) peers = sym (take-append-drop i peers) ∙ ap (λ (rest : List Peer). take i peers ++ rest) (drop_next peers i p c.loop-peer-test.true c.peer-item.is) in
    ap (λ (q : Peer). key_holder c.loop-peer.draft q.key) c.in_ok-copy.ensures
    ∙ ap (λ (ps : List Peer). key_holder ps p.key) c.loop-peer.invariant
    ∙ new_key (take i peers) p (drop (i + 1) peers) (subst (AllPairs IsApart) parts c.requires.apart)
