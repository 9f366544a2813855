use Rattle.std.proofs.Common.{ℕ, ◌∙◌, sym, ap, subst, not, drop, ◌+◌}
use Rattle.std.specs.List.{AllPairs}
use Rattle.wgr_text.specs.Prefix.{PrefixValue}
use Rattle.wgr_pool.specs.PrefixTests.{same_prefix}
use Rattle.wgr_peers.specs.Routes.{Routes, ComesBefore}
use Rattle.wgr_core.specs.Change.{without_routes}
use Rattle.wgr_pool.proofs.Lists.{AllPairs-filter, drop_next}
use Rattle.wgr_core.proofs.change.drop_each.Goals as goal

pub loop-prefix-preserved : goal.loop-prefix-preserved
loop-prefix-preserved c =
    let p = c.prefix-item.result in
    let items = c.args.prefixes.now in
    let routes = c.loop-prefix.routes.items in
    record {
      left =
          ap (λ (rs : Routes). without_routes rs (drop (c.loop-prefix.prefix-index + 1) items)) c.drop_route.ensures
          ∙ sym (ap (without_routes routes) (drop_next items c.loop-prefix.prefix-index p c.loop-prefix-test.true c.prefix-item.is))
          ∙ c.loop-prefix.invariant.left;
      ordered = subst (AllPairs ComesBefore) (sym c.drop_route.ensures) (AllPairs-filter ComesBefore (λ (r : PrefixValue × ℕ). not (same_prefix r.0 p)) routes c.loop-prefix.invariant.ordered);
    }
