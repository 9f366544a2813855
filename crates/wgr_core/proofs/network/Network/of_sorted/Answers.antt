use Rattle.std.proofs.Common.{◌≡◌, List, None, refl, sym, ◌∙◌, subst}
use Rattle.std.specs.List.{All, AllPairs}
use Rattle.wgr_peers.specs.declared.peer.Peer.{Peer}
use Rattle.wgr_peers.specs.Routes.{ComesBefore}
use Rattle.std.proofs.lemmas.List.Elements.{All-weaker}
use Rattle.wgr_core.specs.Network.{NetworkValue, AreAlone, IsMember, IsRoute, IsNetwork}
use Rattle.wgr_core.specs.Parts.{network_of}
use Rattle.wgr_core.proofs.PartsLemmas.{network_is}
use Rattle.wgr_core.proofs.network.Network.of_sorted.Goals as goal

alone : (n : NetworkValue) → All (IsMember n) n.peers → AreAlone n.peers
alone n members = All-weaker (IsMember n) (λ p. p.second ≡ None) (λ p m. m.alone) n.peers members

pub returns-then-not-are_routes-clause-exact : goal.returns-then-not-are_routes-clause-exact
returns-then-not-are_routes-clause-exact c =
    let n = network_of c.args.parts in
    let table = rw c.in-Some.is at c.in_ok-peers.ensures in (
      (λ h. cc),
      (λ is. sym c.if-not-are_routes.true ∙ (c.are_routes.ensures n (alone n (c.has_members.ensures.0 c.if-not-has_members.false)) refl (sym table.some)).1 (subst (All (IsRoute n)) (sym c.deref-2.ensures.value) is.routes)),
    )

pub returns-clause-exact : goal.returns-clause-exact
returns-clause-exact c =
    let n = network_of c.args.parts in
    let table = rw c.in-Some.is at c.in_ok-peers.ensures in
    let members = c.has_members.ensures.0 c.if-not-has_members.false in
    let ordered = subst (AllPairs ComesBefore) c.deref.ensures.value (c.are_ordered.ensures.0 c.if-not-are_ordered.false) in
    let routes = subst (All (IsRoute n)) c.deref-2.ensures.value ((c.are_routes.ensures n (alone n members) refl (sym table.some)).0 c.if-not-are_routes.false) in
    let is = network_is n c.prefix-pool.ensures.is_pool c.number-port.ensures.valid c.peers-capacity.ensures.valid (c.is_within_limits.ensures.0 c.if-not-is_within_limits.false) members (table.exact.0 refl) routes ordered in (
      (λ h. is),
      (λ is. refl),
    )

pub invariant_of-result : goal.invariant_of-result
invariant_of-result c =
    let n = network_of c.args.parts in
    let table = rw c.in-Some.is at c.in_ok-peers.ensures in
    let members = c.has_members.ensures.0 c.if-not-has_members.false in
    let ordered = subst (AllPairs ComesBefore) c.deref.ensures.value (c.are_ordered.ensures.0 c.if-not-are_ordered.false) in
    let routes = subst (All (IsRoute n)) c.deref-2.ensures.value ((c.are_routes.ensures n (alone n members) refl (sym table.some)).0 c.if-not-are_routes.false) in
    let is = network_is n c.prefix-pool.ensures.is_pool c.number-port.ensures.valid c.peers-capacity.ensures.valid (c.is_within_limits.ensures.0 c.if-not-is_within_limits.false) members (table.exact.0 refl) routes ordered in
    subst (λ (ps : List Peer). IsNetwork (record n { peers = ps })) (sym table.some) is
