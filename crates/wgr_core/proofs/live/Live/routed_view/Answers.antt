use Rattle.std.proofs.Common.{◌≡◌, ℕ, map, Some, None, sym, ap, subst, ◌∙◌}
use Rattle.std.specs.List.{All}
use Rattle.wgr_text.specs.Prefix.{PrefixValue}
use Rattle.wgr_peers.specs.Peers.{peer_of}
use Rattle.wgr_peers.specs.Routes.{Routes, AreOrdered, HasAddr, assign_route}
use Rattle.wgr_core.specs.declared.reply.PeerView.{PeerView}
use Rattle.wgr_core.specs.Refusals.{route_refusal}
use Rattle.wgr_core.proofs.RerouteLemmas.{own_ordered, own_masked}
use Rattle.wgr_core.proofs.live.Live.routed_view.Goals as goal

pub put_route-requires-clause-ordered : goal.put_route-requires-clause-ordered
put_route-requires-clause-ordered c = subst AreOrdered (sym c.in_ok-own.ensures) (own_ordered c.args.self.now c.args.number c.rules_hold.ensures)

pub put_route-requires-clause-masked : goal.put_route-requires-clause-masked
put_route-requires-clause-masked c = subst (All HasAddr) (sym c.in_ok-own.ensures) (own_masked c.args.self.now c.args.number c.rules_hold.ensures)

pub returns-clause-ok : goal.returns-clause-ok
returns-clause-ok c =
    let stands : peer_of c.args.self.now.peers c.args.number ≡ Some c.in-Some.peer.now = sym c.in-Some.ensures in
    let free : route_refusal c.args.self.now c.args.prefix ≡ None = sym c.in_default-route_refusal.ensures in
    let led = c.deref.ensures.value ∙ c.in_ok-put_route.ensures.put ∙ ap (λ (own : Routes). assign_route own c.args.prefix c.args.number) c.in_ok-own.ensures in
    let view = c.in_ok-view_with.ensures in
    (stands ∙ ap (λ (v : PeerView). Some v.peer) (sym view), free, ap (λ (v : PeerView). v.routes) view ∙ ap (map (λ (r : PrefixValue × ℕ). r.0)) led)
