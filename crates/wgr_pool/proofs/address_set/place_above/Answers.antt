use Rattle.std.proofs.Common.{leb, leb-true, arith, rules}
use Rattle.std.proofs.lemmas.Bool.{leb-false}
use Rattle.std.proofs.lemmas.List.Sorted.{IsPartitionPoint-from_clause, IsPartitionedBy-leb}
use Rattle.wgr_text.specs.Prefix.{rank}
use Rattle.wgr_pool.proofs.RunLists.{runs_order}
use Rattle.wgr_pool.proofs.address_set.place_above.Goals as goal

pub returns-clause-below : goal.returns-clause-below
returns-clause-below c =
    let parted = IsPartitionedBy-leb (λ s. rank s.lo) _ (rank c.args.address.now) (λ i j d o l. runs_order 0 c.args.runs.now i j d c.requires o l) in
    let point = IsPartitionPoint-from_clause (λ s. leb (rank s.lo) (rank c.args.address.now)) _ _ c.partition_point.ensures.partitioned parted (λ a r q k. search rules) in
    λ k d h. leb-true _ _ (point.0 k d (omega arith) h)

pub returns-clause-above : goal.returns-clause-above
returns-clause-above c =
    let parted = IsPartitionedBy-leb (λ s. rank s.lo) _ (rank c.args.address.now) (λ i j d o l. runs_order 0 c.args.runs.now i j d c.requires o l) in
    let point = IsPartitionPoint-from_clause (λ s. leb (rank s.lo) (rank c.args.address.now)) _ _ c.partition_point.ensures.partitioned parted (λ a r q k. search rules) in
    λ k d from to. leb-false _ _ (point.1 k d from to)
