use Rattle.std.proofs.Common.{◌≡◌, ℕ, List, sym, ap, subst, ◌∙◌}
use Rattle.wgr_peers.specs.declared.peer.Peer.{Peer}
use Rattle.wgr_peers.specs.Peers.{AreNumbered}
use Rattle.wgr_peers.specs.Routes.{Routes}
use Rattle.wgr_core.specs.Change.{assign_routes}
use Rattle.wgr_core.specs.Draft.{AreNoted, drafted}
use Rattle.wgr_core.specs.Network.{IsNetwork}
use Rattle.wgr_core.proofs.AlteredLemmas.{noted_self}
use Rattle.wgr_core.proofs.draft.Draft.begin.Goals as goal

pub from_slice-requires-clause-numbered : goal.from_slice-requires-clause-numbered
from_slice-requires-clause-numbered c = subst AreNumbered (sym c.peers.ensures) c.next-next.ensures.rules.numbered

pub invariant_of-result : goal.invariant_of-result
invariant_of-result c =
    let n = c.args.start.now in
    let peers = c.in_ok-peers.peers in
    let routes = c.in_ok-routes.routes in
    let next = c.next-next.result in
    let peers_are : peers ≡ n.peers = c.in_ok-peers.ensures ∙ c.peers.ensures in
    let routes_are : routes ≡ n.routes = c.in_ok-routes.ensures ∙ c.routes.ensures in
    let same : drafted n peers routes next ≡ n =
    ap (λ (ps : List Peer). drafted n ps routes next) peers_are
    ∙ ap (λ (rs : Routes). drafted n n.peers rs next) routes_are
    ∙ ap (λ (k : ℕ). drafted n n.peers n.routes k) c.next-next.ensures.value in
    record {
      rules = subst IsNetwork (sym same) c.next-next.ensures.rules;
      noted = subst (AreNoted n.peers) (sym peers_are) (noted_self n.peers);
      routed = ap (assign_routes n.routes) c.new-2.ensures.items ∙ sym routes_are;
    }
