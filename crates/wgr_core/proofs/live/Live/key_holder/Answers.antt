use Rattle.std.proofs.Common.{◌≡◌, List, Some, None, sym, ap, ◌∙◌, subst}
use Rattle.std.specs.Prelude.{option_map}
use Rattle.wgr_peers.specs.declared.peer.Peer.{Peer}
use Rattle.wgr_peers.specs.Peers.{is_live, key_holder, peer_of}
use Rattle.wgr_core.specs.Network.{NetworkValue}
use Rattle.wgr_core.proofs.LiveLooks.{holder_kept, holder_out}
use Rattle.wgr_core.proofs.live.Live.key_holder.Goals as goal

pub returns-in_default : goal.returns-in_default
returns-in_default c =
    let n = c.self.inside.network.now in
    let key = c.args.key.now in
    let none : key_holder n.peers key ≡ None = sym (c.in_default.ensures ∙ ap (λ (ps : List Peer). key_holder ps key) c.table.ensures.value) in
    sym (holder_out (is_live c.self.inside.moment) n.peers key none) ∙ ap (λ (m : NetworkValue). key_holder m.peers key) c.self.view_is

pub returns-in_default-peer : goal.returns-in_default-peer
returns-in_default-peer c =
    let n = c.self.inside.network.now in
    let key = c.args.key.now in
    let i = c.in-Some.number in
    let held : key_holder n.peers key ≡ Some i = sym (c.in-Some.ensures ∙ ap (λ (ps : List Peer). key_holder ps key) c.table.ensures.value) in
    let kept = subst (λ (m : NetworkValue). key_holder m.peers key ≡ option_map (λ (p : Peer). p.number) (peer_of m.peers i)) c.self.view_is
    (holder_kept (is_live c.self.inside.moment) n.peers key i c.self.invariant.whole.numbered c.self.invariant.whole.apart held) in
    sym (kept ∙ ap (option_map (λ (p : Peer). p.number)) (sym c.in_default-peer.ensures))

pub returns : goal.returns
returns c =
    let n = c.self.inside.network.now in
    let key = c.args.key.now in
    let i = c.in-Some.number in
    let held : key_holder n.peers key ≡ Some i = sym (c.in-Some.ensures ∙ ap (λ (ps : List Peer). key_holder ps key) c.table.ensures.value) in
    let kept = subst (λ (m : NetworkValue). key_holder m.peers key ≡ option_map (λ (p : Peer). p.number) (peer_of m.peers i)) c.self.view_is
    (holder_kept (is_live c.self.inside.moment) n.peers key i c.self.invariant.whole.numbered c.self.invariant.whole.apart held) in
    sym (kept ∙ ap (option_map (λ (p : Peer). p.number)) (sym c.in-Some-peer.ensures))
