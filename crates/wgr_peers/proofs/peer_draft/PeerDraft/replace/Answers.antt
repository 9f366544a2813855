use Rattle.std.proofs.Common.{sym, ap, ◌∙◌, subst}
use Rattle.wgr_peers.specs.Peers.{put_peer}
use Rattle.wgr_peers.specs.PeerIndex.{IsAlikeAt}
use Rattle.wgr_peers.proofs.DraftedLemmas.{drafted_alike}
use Rattle.wgr_peers.proofs.TableLemmas.{alike_place}
use Rattle.wgr_peers.proofs.peer_draft.PeerDraft.replace.Goals as goal

pub invariant_of-self : goal.invariant_of-self
invariant_of-self c =
    let alike = subst (λ ps. IsAlikeAt ps c.args.peer c.args.place) (sym c.self.view_is) c.requires in
    drafted_alike c.self.inside.peers.items c.self.inside.numbers c.self.inside.owned c.self.inside.addresses c.args.peer c.args.place c.self.invariant alike

pub returns : goal.returns
returns c =
    let alike = subst (λ ps. IsAlikeAt ps c.args.peer c.args.place) (sym c.self.view_is) c.requires in
    sym (alike_place c.self.inside.peers.items c.args.peer c.args.place c.self.invariant.in_order alike) ∙ ap (λ ps. put_peer ps c.args.peer) c.self.view_is
