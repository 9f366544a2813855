use Rattle.std.proofs.Common.{ℕ, ◌∙◌, sym, ap, subst, nat_eq, not, drop, ◌+◌}
use Rattle.std.specs.HashSet.{contains}
use Rattle.std.specs.List.{All, AllPairs, filter}
use Rattle.std.proofs.lemmas.List.Elements.{All-filter}
use Rattle.wgr_text.specs.Prefix.{PrefixValue}
use Rattle.wgr_pool.specs.PrefixTests.{same_prefix}
use Rattle.wgr_peers.specs.Routes.{Routes, ComesBefore, HasAddr}
use Rattle.wgr_core.specs.Network.{is_among}
use Rattle.wgr_core.specs.Change.{without_routes}
use Rattle.wgr_pool.proofs.Lists.{AllPairs-filter, drop_next}
use Rattle.wgr_core.proofs.ApplyLemmas.{kept_routes}
use Rattle.wgr_core.proofs.change.Change.routes_left.Goals as goal

pub loop-prefix-init : goal.loop-prefix-init
loop-prefix-init c =
    let n = c.args.network.now in
    let stays = λ (r : PrefixValue × ℕ). not (is_among c.args.self.now.removed r.1) in
    let has = contains nat_eq c.args.removed.now in
    let kept = c.in_ok-routes.ensures ∙ ap (filter (λ (r : PrefixValue × ℕ). not (has r.1))) c.routes.ensures ∙ kept_routes c.args.self.now.removed has n.routes c.requires in
    record {
      left = ap (λ (rs : Routes). without_routes rs c.as_slice-prefix-items.result.now) kept ∙ ap (without_routes (filter stays n.routes)) c.as_slice-prefix-items.ensures;
      ordered = subst (AllPairs ComesBefore) (sym kept) (AllPairs-filter ComesBefore stays n.routes c.rules_hold.ensures.ordered);
      masked = subst (All HasAddr) (sym kept) (All-filter stays HasAddr n.routes (λ k d h. (c.rules_hold.ensures.routes k d h).masked.0));
    }

pub loop-prefix-preserved : goal.loop-prefix-preserved
loop-prefix-preserved c =
    let p = c.prefix-item.result in
    let items = c.as_slice-prefix-items.result.now in
    let others = λ (r : PrefixValue × ℕ). not (same_prefix r.0 p) in
    let routes = c.loop-prefix.routes.items in
    record {
      left =
          ap (λ (rs : Routes). without_routes rs (drop (c.loop-prefix.prefix-index + 1) items)) c.drop_route.ensures
          ∙ sym (ap (without_routes routes) (drop_next items c.loop-prefix.prefix-index p c.loop-prefix-test.true c.prefix-item.is))
          ∙ c.loop-prefix.invariant.left;
      ordered = subst (AllPairs ComesBefore) (sym c.drop_route.ensures) (AllPairs-filter ComesBefore others routes c.loop-prefix.invariant.ordered);
      masked = subst (All HasAddr) (sym c.drop_route.ensures) (All-filter others HasAddr routes c.loop-prefix.invariant.masked);
    }
