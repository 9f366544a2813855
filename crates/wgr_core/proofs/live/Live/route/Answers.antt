use Rattle.std.proofs.Common.{◌≡◌, true, Some, None, is_some, sym, ap, ◌∙◌}
use Rattle.wgr_peers.specs.Peers.{peer_of}
use Rattle.wgr_peers.specs.Routes.{route_of}
use Rattle.wgr_core.specs.Network.{NetworkValue, live_at}
use Rattle.wgr_core.proofs.LookLemmas.{live_routes}
use Rattle.wgr_core.proofs.LiveLooks.{route_out, route_over}
use Rattle.wgr_core.proofs.live.Live.route.Goals as goal

pub returns-in_default : goal.returns-in_default
returns-in_default c =
    let n = c.self.inside.network.now in
    let p = c.args.prefix.now in
    sym (route_out n c.self.inside.moment p c.self.invariant.whole (λ i led stands. let bad : Some i ≡ None = sym led ∙ sym c.in_default.ensures in cc))
    ∙ ap (λ (m : NetworkValue). route_of m.routes p) c.self.view_is

pub returns-in_default-peer : goal.returns-in_default-peer
returns-in_default-peer c =
    let n = c.self.inside.network.now in
    let p = c.args.prefix.now in
    let none : peer_of (live_at n c.self.inside.moment).peers c.in-Some.number ≡ None = ap (λ (m : NetworkValue). peer_of m.peers c.in-Some.number) c.self.view_is ∙ sym c.in_default-peer.ensures in
    sym (route_over n c.self.inside.moment p c.in-Some.number c.self.invariant.whole (sym c.in-Some.ensures) none)
    ∙ ap (λ (m : NetworkValue). route_of m.routes p) c.self.view_is

pub returns : goal.returns
returns c =
    let n = c.self.inside.network.now in
    let p = c.args.prefix.now in
    let i = c.in-Some.number in
    let stands : is_some (peer_of (live_at n c.self.inside.moment).peers i) ≡ true = ap is_some (ap (λ (m : NetworkValue). peer_of m.peers i) c.self.view_is ∙ sym c.in-Some-peer.ensures) in
    sym ((live_routes n c.self.inside.moment i p c.self.invariant.whole).1 (sym c.in-Some.ensures, stands))
    ∙ ap (λ (m : NetworkValue). route_of m.routes p) c.self.view_is
