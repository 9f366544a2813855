use Rattle.std.proofs.Common.{nat_lt, rules, arith}
use Rattle.std.proofs.lemmas.List.Sorted.{IsPartitionPoint-from_clause}
use Rattle.wgr_core.specs.declared.reply.PeerView.{PeerView}
use Rattle.wgr_peers.specs.Peers.{IsNumberedBelow}
use Rattle.wgr_peers.proofs.OrderedLemmas.{partitioned, place_is}
use Rattle.wgr_peers.proofs.PlaceLemmas.{peers_down}
use Rattle.wgr_core.proofs.ViewLemmas.{views_numbered, view_there, view_not_there}
use Rattle.wgr_core.proofs.views.view_place.Goals as goal
use Rattle.wgr_core.proofs.views.view_place.Goals.{else-place-views-via-then-place-views+else-views-place, else-place-views-via-else-place-views}

pub returns-then-views-place : goal.returns-then-views-place
returns-then-views-place c =
    let i = c.args.number in
    let parted = partitioned (λ (v w : PeerView). IsNumberedBelow v.peer w.peer) (λ v. nat_lt v.peer.number i) c.args.views.now (views_numbered c.args.views.now c.requires) (λ v w. peers_down i v.peer w.peer) in
    let point = IsPartitionPoint-from_clause (λ (v : PeerView). nat_lt v.peer.number i) _ _ c.partition_point-place.ensures.partitioned parted (λ a r q k. search rules) in
    let place = place_is (λ (v : PeerView). nat_lt v.peer.number i) c.args.views.now c.partition_point-place.result c.partition_point-place.ensures.bound point in
    (place, c.if-place-views.true, λ d. view_there c.args.views.now i c.partition_point-place.result d c.index-views-place.result c.if-place-views.true c.if-views-place.true)

pub returns-else-place-views : goal.returns-else-place-views
returns-else-place-views c =
    let i = c.args.number in
    let parted = partitioned (λ (v w : PeerView). IsNumberedBelow v.peer w.peer) (λ v. nat_lt v.peer.number i) c.args.views.now (views_numbered c.args.views.now c.requires) (λ v w. peers_down i v.peer w.peer) in
    let point = IsPartitionPoint-from_clause (λ (v : PeerView). nat_lt v.peer.number i) _ _ c.partition_point-place.ensures.partitioned parted (λ a r q k. search rules) in
    let place = place_is (λ (v : PeerView). nat_lt v.peer.number i) c.args.views.now c.partition_point-place.result c.partition_point-place.ensures.bound point in
    elim c.else-place-views.branch [
      | else-place-views-via-then-place-views+else-views-place w ↦ (place, λ d l. view_not_there c.args.views.now i c.partition_point-place.result d w.index-views-place.result l w.if-views-place.false)
      | else-place-views-via-else-place-views w ↦ (place, λ d l. absurd (omega (arith, l, w.if-place-views.false)))
    ]
