use Rattle.std.proofs.Common.{rules, ℕ, ◌<◌, Bool, length, is_some, ap, ◌∙◌, arith}
use Rattle.wgr_text.specs.Prefix.{PrefixValue}
use Rattle.wgr_peers.specs.Peers.{peer_of}
use Rattle.wgr_core.proofs.WalkLemmas.{walk_drops, walk_keeps}
use Rattle.wgr_core.proofs.network.Network.routes_within.Goals as goal
use Rattle.wgr_core.proofs.network.Network.routes_within.Goals.{then-is_some+in_ok-push, else-is_some}

pub loop-route-preserved : goal.loop-route-preserved
loop-route-preserved c =
    let p : PrefixValue × ℕ → Bool = λ r. is_some (peer_of c.args.peers.now r.1) in
    let r = c.route-item.result in
    let i = c.loop-route.route-index in
    let xs = c.deref-route-items.result.now in
    let within : i < length xs = omega (arith, c.loop-route-test.true, c.loop-route.auto.route-index-end) in
    let so = c.loop-route.invariant in (
      elim c.if-is_some.branch [
        | then-is_some+in_ok-push w ↦ ap (λ v. v.items) w.routes-is ∙ w.in_ok-push.ensures.items ∙ walk_keeps p c.loop-route.routes.items xs i r within c.route-item.is (search rules) so.0
        | else-is_some w ↦ ap (λ v. v.items) w.routes-is ∙ walk_drops p c.loop-route.routes.items xs i r within c.route-item.is (search rules) so.0
      ],
      so.1,
    )
