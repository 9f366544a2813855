use Rattle.std.proofs.Common.{◌≡◌, ◌<◌, List, length, get_or, Some, sym, ap, subst, ◌∙◌}
use Rattle.wgr_peers.specs.declared.peer.Peer.{Peer}
use Rattle.wgr_peers.specs.Peers.{put_peer}
use Rattle.wgr_core.specs.Draft.{AreNoted, DraftValue, drafted}
use Rattle.wgr_core.specs.Network.{IsNetwork}
use Rattle.wgr_core.proofs.AlteredLemmas.{noted_put}
use Rattle.wgr_core.proofs.LineAsks.{noted_is_network}
use Rattle.wgr_core.proofs.draft.Draft.note.Goals as goal

pub invariant_of-self : goal.invariant_of-self
invariant_of-self c =
    let start = c.self.inside.start.now in
    let n = drafted start c.self.inside.peers c.self.inside.routes c.self.inside.next in
    let place = c.args.place in
    let q = c.index-as_slice-place.result in
    let status = Some c.args.status in
    let at : q ≡ get_or n.peers place q = c.index-as_slice-place.is ∙ ap (λ (ps : List Peer). get_or ps place q) c.as_slice.ensures.value in
    let within : place < length n.peers = subst (λ (d : DraftValue). place < length d.network.peers) (sym c.self.view_is) c.requires.within in
    let put : c.replace.new.self ≡ put_peer n.peers (record (get_or n.peers place q) { status = status }) = c.replace.ensures ∙ ap (λ (r : Peer). put_peer n.peers (record r { status = status })) (c.in_ok-peer.ensures ∙ at) in
    record {
      rules = subst (λ (ps : List Peer). IsNetwork (record n { peers = ps })) (sym put) (noted_is_network n place q status c.self.invariant.rules within);
      noted = subst (AreNoted start.peers) (sym put) (noted_put start.peers n.peers place q status c.self.invariant.rules.numbered within c.self.invariant.noted);
      routed = c.self.invariant.routed;
    }
