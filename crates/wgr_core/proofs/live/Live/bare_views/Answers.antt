use Rattle.std.proofs.Common.{◌≡◌, ◌<◌, List, [], ◌∷◌, ◌++◌, length, sym, ap, ◌∙◌, arith}
use Rattle.wgr_text.specs.Prefix.{PrefixValue}
use Rattle.wgr_peers.specs.declared.peer.Peer.{Peer}
use Rattle.wgr_core.specs.declared.reply.PeerView.{PeerView}
use Rattle.wgr_peers.specs.Peers.{is_live}
use Rattle.wgr_core.specs.Outcome.{peer_view}
use Rattle.wgr_core.proofs.WalkLemmas.{walk_hides, walk_shows}
use Rattle.wgr_core.proofs.live.Live.bare_views.Goals as goal
use Rattle.wgr_core.proofs.live.Live.bare_views.Goals.{then-is_live+in_ok-copy+in_ok-push, else-is_live}

pub loop-peer-preserved : goal.loop-peer-preserved
loop-peer-preserved c =
    let lives = is_live c.self.inside.moment in
    let p = c.peer-item.result in
    let i = c.loop-peer.peer-index in
    let xs = c.peers-peer-items.result.now in
    let within : i < length xs = omega (arith, c.loop-peer-test.true, c.loop-peer.auto.peer-index-end) in
    let so = c.loop-peer.invariant in (
      elim c.if-is_live.branch [
        | then-is_live+in_ok-copy+in_ok-push w ↦
            let shown : Peer → List PrefixValue → PeerView = λ q rs. record { peer = q; routes = rs } in
            let same : shown w.in_ok-copy.field-0 w.new.result ≡ peer_view [] p = ap (λ (q : Peer). shown q w.new.result) w.in_ok-copy.ensures ∙ ap (shown p) w.new.ensures in
            ap (λ v. v.items) w.views-is
            ∙ w.in_ok-push.ensures.items
            ∙ ap (λ (view : PeerView). c.loop-peer.views.items ++ view ∷ []) same
            ∙ walk_shows lives (peer_view []) c.loop-peer.views.items xs i p within c.peer-item.is (sym c.is_live.ensures ∙ w.if-is_live.true) so.0
        | else-is_live w ↦ ap (λ v. v.items) w.views-is ∙ walk_hides lives (peer_view []) c.loop-peer.views.items xs i p within c.peer-item.is (sym c.is_live.ensures ∙ w.if-is_live.false) so.0
      ],
      so.1,
    )
