use Rattle.std.proofs.Common.{◌≡◌, ℕ, ◌+◌, ◌<◌, List, [], ◌∷◌, ◌++◌, length, take, map, sym, ap, ◌∙◌, subst, arith}
use Rattle.std.proofs.lemmas.List.{take_all, take_more}
use Rattle.wgr_text.specs.Prefix.{PrefixValue}
use Rattle.wgr_peers.specs.Peers.{AreNumbered}
use Rattle.wgr_core.specs.Network.{NetworkValue, IsNetwork}
use Rattle.wgr_core.specs.Outcome.{peer_view}
use Rattle.wgr_core.proofs.ViewLemmas.{live_views, peers_shown}
use Rattle.wgr_core.proofs.live.Live.views.Goals as goal

pub show_route-requires : goal.show_route-requires
show_route-requires c =
    let is = subst IsNetwork c.self.view_is c.self.invariant.live in
    subst AreNumbered (sym (peers_shown _ c.loop-route.views.items c.args.self.now.peers c.loop-route.invariant)) is.numbered

pub loop-route-preserved : goal.loop-route-preserved
loop-route-preserved c =
    let i = c.loop-route.route-index in
    let xs = c.routes-route-items.result.now in
    let peers = c.args.self.now.peers in
    let within : i < length xs = omega (arith, c.loop-route-test.true, c.loop-route.auto.route-index-end) in
    let more : take i xs ++ c.route-item.result ∷ [] ≡ take (i + 1) xs = ap (λ (r : PrefixValue × ℕ). take i xs ++ r ∷ []) c.route-item.is ∙ sym (take_more xs i c.route-item.result within) in
    c.in_ok-show_route.ensures (take i xs) peers c.loop-route.invariant ∙ ap (λ (rs : List (PrefixValue × ℕ)). map (peer_view rs) peers) more

pub returns : goal.returns
returns c =
    let m = c.args.self.now in
    let n = c.self.inside.network.now in
    let whole = take_all c.loop-route.route-index c.routes-route-items.result.now (omega (arith, c.loop-route-test.false, c.loop-route.auto.route-index-end)) in
    c.of.ensures ∙ c.loop-route.invariant
    ∙ ap (λ (rs : List (PrefixValue × ℕ)). map (peer_view rs) m.peers) (whole ∙ c.routes-route-items.ensures)
    ∙ subst (λ (m : NetworkValue). map (peer_view n.routes) m.peers ≡ map (peer_view m.routes) m.peers) c.self.view_is (live_views n c.self.inside.moment)
