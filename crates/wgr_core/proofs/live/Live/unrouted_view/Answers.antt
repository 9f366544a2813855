use Rattle.std.proofs.Common.{◌≡◌, ℕ, map, Some, sym, ap, subst, ◌∙◌}
use Rattle.wgr_text.specs.Prefix.{PrefixValue}
use Rattle.wgr_peers.specs.Peers.{peer_of}
use Rattle.wgr_peers.specs.Routes.{Routes, AreOrdered, route_of, without_route}
use Rattle.wgr_core.specs.declared.reply.PeerView.{PeerView}
use Rattle.wgr_core.proofs.RerouteLemmas.{own_ordered}
use Rattle.wgr_core.proofs.live.Live.unrouted_view.Goals as goal

pub drop_route-requires : goal.drop_route-requires
drop_route-requires c = subst AreOrdered (sym c.in_ok-own.ensures) (own_ordered c.args.self.now c.in-Some.number c.rules_hold.ensures)

pub returns-clause-ok : goal.returns-clause-ok
returns-clause-ok c =
    let leads : route_of c.args.self.now.routes c.args.prefix.now ≡ Some c.in-Some.number = sym c.in-Some.ensures in
    let stands : peer_of c.args.self.now.peers c.in-Some.number ≡ Some c.in-Some-peer.peer.now = sym c.in-Some-peer.ensures in
    let left = c.deref.ensures.value ∙ c.drop_route.ensures ∙ ap (λ (own : Routes). without_route own c.args.prefix.now) c.in_ok-own.ensures in
    let view = c.in_ok-view_with.ensures in
    (c.in-Some.number, leads, stands ∙ ap (λ (v : PeerView). Some v.peer) (sym view), ap (λ (v : PeerView). v.routes) view ∙ ap (map (λ (r : PrefixValue × ℕ). r.0)) left)
