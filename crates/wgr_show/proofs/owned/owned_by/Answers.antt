use Rattle.std.proofs.Common.{◌-◌, length, take, drop, nat_lt, nat_le, rules, arith, Bor}
use Rattle.std.proofs.lemmas.List.{length-drop, take_all}
use Rattle.std.proofs.lemmas.List.Sorted.{IsNonDecreasingBy-drop, IsNonDecreasingBy-take, IsPartitionPoint-from_clause, IsPartitionedBy-leb, IsPartitionedBy-ltb}
use Rattle.wgr_show.proofs.Parts.{owners_rise, part_of}
use Rattle.wgr_show.proofs.owned.owned_by.Goals as goal

pub returns : goal.returns
returns g c =
    let all = c.args.sorted.now in
    let start = c.partition_point-start.result in
    let count = c.partition_point-count.result in
    let rest = take (length all - start) (drop start all) in
    let owner = λ (r : Bor g.row.T.Denot). g.T.Owned.owner_of r.now in
    let rises = owners_rise (λ r. r.now) g.T.Owned.owner_of g.T.Owned.label_of all c.requires in
    let rest_rises = IsNonDecreasingBy-take owner (length all - start) (drop start all) (IsNonDecreasingBy-drop owner start all rises) in
    let low = IsPartitionPoint-from_clause (λ (r : Bor g.row.T.Denot). nat_lt (owner r) c.args.id) all start c.partition_point-start.ensures.partitioned (IsPartitionedBy-ltb owner all c.args.id rises) (λ a r f called. search rules) in
    let high = IsPartitionPoint-from_clause (λ (r : Bor g.row.T.Denot). nat_le (owner r) c.args.id) rest count c.partition_point-count.ensures.partitioned (IsPartitionedBy-leb owner rest c.args.id rest_rises) (λ a r f called. search rules) in
    part_of owner c.args.id all rest start (take_all _ _ (omega (arith, length-drop start all))) count c.partition_point-start.ensures.bound c.partition_point-count.ensures.bound low high
