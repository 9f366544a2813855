use Rattle.std.proofs.Common.{◌≡◌, List, Some, None, sym, ap, ◌∙◌}
use Rattle.wgr_peers.specs.declared.peer.Peer.{Peer}
use Rattle.wgr_peers.specs.Peers.{is_live, peer_of}
use Rattle.wgr_core.specs.Network.{NetworkValue}
use Rattle.wgr_core.proofs.LookLemmas.{absent_kept}
use Rattle.wgr_core.proofs.LiveLooks.{kept_found, left_out}
use Rattle.wgr_core.proofs.live.Live.peer.Goals as goal

pub returns-in_default : goal.returns-in_default
returns-in_default c =
    let n = c.self.inside.network.now in
    let i = c.args.number in
    let none : peer_of n.peers i ≡ None = sym (c.in_default.ensures ∙ ap (λ (ps : List Peer). peer_of ps i) c.table.ensures.value) in
    sym (absent_kept (is_live c.self.inside.moment) n.peers i none) ∙ ap (λ (m : NetworkValue). peer_of m.peers i) c.self.view_is

pub returns-then-not-is_live : goal.returns-then-not-is_live
returns-then-not-is_live c =
    let n = c.self.inside.network.now in
    let i = c.args.number in
    let found : peer_of n.peers i ≡ Some c.in-Some.peer.now = sym (c.in-Some.ensures ∙ ap (λ (ps : List Peer). peer_of ps i) c.table.ensures.value) in
    sym (left_out (is_live c.self.inside.moment) n.peers i c.in-Some.peer.now c.self.invariant.whole.numbered found (sym c.is_live.ensures ∙ c.if-not-is_live.true)) ∙ ap (λ (m : NetworkValue). peer_of m.peers i) c.self.view_is

pub returns : goal.returns
returns c =
    let n = c.self.inside.network.now in
    let i = c.args.number in
    let found : peer_of n.peers i ≡ Some c.in-Some.peer.now = sym (c.in-Some.ensures ∙ ap (λ (ps : List Peer). peer_of ps i) c.table.ensures.value) in
    sym (kept_found (is_live c.self.inside.moment) n.peers i c.in-Some.peer.now c.self.invariant.whole.numbered found (sym c.is_live.ensures ∙ c.if-not-is_live.false)) ∙ ap (λ (m : NetworkValue). peer_of m.peers i) c.self.view_is
