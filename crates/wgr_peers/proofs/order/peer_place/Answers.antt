use Rattle.std.proofs.Common.{rules, nat_lt, arith}
use Rattle.std.proofs.lemmas.List.Sorted.{IsPartitionPoint-from_clause}
use Rattle.wgr_peers.specs.declared.peer.Peer.{Peer}
use Rattle.wgr_peers.specs.Peers.{IsNumberedBelow}
use Rattle.wgr_peers.proofs.OrderedLemmas.{partitioned, place_is}
use Rattle.wgr_peers.proofs.PlaceLemmas.{peers_down, there, not_there}
use Rattle.wgr_peers.proofs.order.peer_place.Goals as goal
use Rattle.wgr_peers.proofs.order.peer_place.Goals.{else-place-peers-via-then-place-peers+else-peers-place, else-place-peers-via-else-place-peers}

pub returns-then-peers-place : goal.returns-then-peers-place
returns-then-peers-place c =
    let parted = partitioned IsNumberedBelow (λ p. nat_lt p.number c.args.number) c.args.peers.now c.requires (peers_down c.args.number) in
    let point = IsPartitionPoint-from_clause (λ p. nat_lt p.number c.args.number) _ _ c.partition_point-place.ensures.partitioned parted (λ a r q k. search rules) in
    let place = place_is (λ (p : Peer). nat_lt p.number c.args.number) c.args.peers.now c.partition_point-place.result c.partition_point-place.ensures.bound point in
    (place, c.if-place-peers.true, λ d. there c.args.peers.now c.args.number c.partition_point-place.result d c.index-peers-place.result c.if-place-peers.true c.if-peers-place.true)

pub returns-else-place-peers : goal.returns-else-place-peers
returns-else-place-peers c =
    let parted = partitioned IsNumberedBelow (λ p. nat_lt p.number c.args.number) c.args.peers.now c.requires (peers_down c.args.number) in
    let point = IsPartitionPoint-from_clause (λ p. nat_lt p.number c.args.number) _ _ c.partition_point-place.ensures.partitioned parted (λ a r q k. search rules) in
    let place = place_is (λ (p : Peer). nat_lt p.number c.args.number) c.args.peers.now c.partition_point-place.result c.partition_point-place.ensures.bound point in
    elim c.else-place-peers.branch [
      | else-place-peers-via-then-place-peers+else-peers-place w ↦ (place, λ d l. not_there c.args.peers.now c.args.number c.partition_point-place.result d w.index-peers-place.result l w.if-peers-place.false)
      | else-place-peers-via-else-place-peers w ↦ (place, λ d l. absurd (omega (arith, l, w.if-place-peers.false)))
    ]
