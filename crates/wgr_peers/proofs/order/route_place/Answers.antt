use Rattle.std.proofs.Common.{rules, ℕ, sym, arith}
use Rattle.std.proofs.lemmas.List.Sorted.{IsPartitionPoint-from_clause}
use Rattle.wgr_text.specs.Prefix.{PrefixValue}
use Rattle.wgr_pool.specs.PrefixTests.{is_before}
use Rattle.wgr_peers.specs.Routes.{ComesBefore}
use Rattle.wgr_peers.proofs.OrderedLemmas.{partitioned, place_is}
use Rattle.wgr_peers.proofs.PlaceLemmas.{routes_down, route_there, route_not_there}
use Rattle.wgr_peers.proofs.order.route_place.Goals as goal
use Rattle.wgr_peers.proofs.order.route_place.Goals.{else-place-routes-via-then-place-routes+else-is_same, else-place-routes-via-else-place-routes}

pub returns-then-is_same-clause-found : goal.returns-then-is_same-clause-found
returns-then-is_same-clause-found c =
    let parted = partitioned ComesBefore (λ r. is_before r.0 c.args.prefix.now) c.args.routes.now c.requires.ordered (routes_down c.args.prefix.now) in
    let point = IsPartitionPoint-from_clause (λ r. is_before r.0 c.args.prefix.now) _ _ c.partition_point-place.ensures.partitioned parted (λ a r q k. search rules) in
    let place = place_is (λ (r : PrefixValue × ℕ). is_before r.0 c.args.prefix.now) c.args.routes.now c.partition_point-place.result c.partition_point-place.ensures.bound point in
    (place, c.if-place-routes.true, λ d. route_there c.args.routes.now c.args.prefix.now c.partition_point-place.result d c.index-routes-place.result c.if-place-routes.true (sym c.if-is_same.ensures))

pub returns-else-place-routes-clause-found : goal.returns-else-place-routes-clause-found
returns-else-place-routes-clause-found c =
    let parted = partitioned ComesBefore (λ r. is_before r.0 c.args.prefix.now) c.args.routes.now c.requires.ordered (routes_down c.args.prefix.now) in
    let point = IsPartitionPoint-from_clause (λ r. is_before r.0 c.args.prefix.now) _ _ c.partition_point-place.ensures.partitioned parted (λ a r q k. search rules) in
    let place = place_is (λ (r : PrefixValue × ℕ). is_before r.0 c.args.prefix.now) c.args.routes.now c.partition_point-place.result c.partition_point-place.ensures.bound point in
    elim c.else-place-routes.branch [
      | else-place-routes-via-then-place-routes+else-is_same w ↦ (place, λ d l. route_not_there c.args.routes.now c.args.prefix.now c.partition_point-place.result d w.index-routes-place.result l (sym w.if-is_same.ensures))
      | else-place-routes-via-else-place-routes w ↦ (place, λ d l. absurd (omega (arith, l, w.if-place-routes.false)))
    ]
