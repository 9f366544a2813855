use Rattle.std.proofs.Common.{◌≡◌, refl, subst, length, arith}
use Rattle.std.specs.List.{AllWithin}
use Rattle.std.proofs.lemmas.List.Elements.{AllWithin-more, All-from_all_within}
use Rattle.wgr_core.specs.Network.{IsRoute}
use Rattle.wgr_core.proofs.PartsLemmas.{holds_at}
use Rattle.wgr_core.proofs.parts.are_routes.Goals as goal

pub loop-route-preserved : goal.loop-route-preserved
loop-route-preserved c = λ n alone same_pool same_peers.
    let routes = c.args.routes.now in
    let i = c.loop-route.route-index in
    let here = (c.is_route.ensures n alone same_pool same_peers).0 c.if-not-is_route.false in
    AllWithin-more (IsRoute n) routes 0 i (c.loop-route.invariant n alone same_pool same_peers) (holds_at (IsRoute n) routes i c.route-item.result here c.loop-route-test.true c.route-item.is)

pub returns : goal.returns
returns c = λ n alone same_pool same_peers.
    let routes = c.args.routes.now in
    let i = c.loop-route.route-index in
    let whole : i ≡ length routes = omega (arith, c.loop-route-test.false, c.loop-route.auto.route-index-end) in (
      (λ h. All-from_all_within (IsRoute n) routes (subst (AllWithin (IsRoute n) routes 0) whole (c.loop-route.invariant n alone same_pool same_peers))),
      (λ all. refl),
    )
