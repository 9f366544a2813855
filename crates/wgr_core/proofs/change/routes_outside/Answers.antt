use Rattle.std.proofs.Common.{rules, ℕ, Bool, nat_eq, not, ap, ◌∙◌}
use Rattle.std.specs.HashSet.{contains}
use Rattle.wgr_text.specs.Prefix.{PrefixValue}
use Rattle.wgr_core.proofs.WalkLemmas.{walk_drops, walk_keeps}
use Rattle.wgr_core.proofs.change.routes_outside.Goals as goal
use Rattle.wgr_core.proofs.change.routes_outside.Goals.{then-not-contains+in_ok-push, else-not-contains}

pub loop-route-preserved : goal.loop-route-preserved
loop-route-preserved c =
    let p : PrefixValue × ℕ → Bool = λ r. not (contains nat_eq c.args.removed.now r.1) in
    let r = c.route-item.result in
    let i = c.loop-route.route-index in
    let xs = c.args.routes.now in
    elim c.if-not-contains.branch [
      | then-not-contains+in_ok-push w ↦ ap (λ v. v.items) w.kept-is ∙ w.in_ok-push.ensures.items ∙ walk_keeps p c.loop-route.kept.items xs i r c.loop-route-test.true c.route-item.is (search rules) c.loop-route.invariant
      | else-not-contains w ↦ ap (λ v. v.items) w.kept-is ∙ walk_drops p c.loop-route.kept.items xs i r c.loop-route-test.true c.route-item.is (search rules) c.loop-route.invariant
    ]
