use Rattle.std.proofs.Common.{ℕ, ◌<◌, Bool, nat_eq, length, ap, ◌∙◌, arith}
use Rattle.wgr_text.specs.Prefix.{PrefixValue}
use Rattle.wgr_core.proofs.WalkLemmas.{other_number, same_number, walk_drops, walk_keeps}
use Rattle.wgr_core.proofs.network.Network.own_routes.Goals as goal
use Rattle.wgr_core.proofs.network.Network.own_routes.Goals.{then-route-number+in_ok-push, else-route-number}

pub loop-route-preserved : goal.loop-route-preserved
loop-route-preserved c =
    let p : PrefixValue × ℕ → Bool = λ r. nat_eq r.1 c.args.number in
    let r = c.route-item.result in
    let i = c.loop-route.route-index in
    let xs = c.deref-route-items.result.now in
    let within : i < length xs = omega (arith, c.loop-route-test.true, c.loop-route.auto.route-index-end) in
    let so = c.loop-route.invariant in (
      elim c.if-route-number.branch [
        | then-route-number+in_ok-push w ↦
            ap (λ v. v.items) w.own-is ∙ w.in_ok-push.ensures.items ∙ walk_keeps p c.loop-route.own.items xs i r within c.route-item.is (same_number r.1 c.args.number w.if-route-number.true) so.0
        | else-route-number w ↦ ap (λ v. v.items) w.own-is ∙ walk_drops p c.loop-route.own.items xs i r within c.route-item.is (other_number r.1 c.args.number w.if-route-number.false) so.0
      ],
      so.1,
    )
