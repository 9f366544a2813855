use Rattle.std.proofs.Common.{nat_lt, subst, sym, ap, ◌∙◌, rules, arith}
use Rattle.std.proofs.lemmas.List.{length-drop, take_all}
use Rattle.std.proofs.lemmas.List.Sorted.{IsPartitionPoint-from_clause, IsPartitionedBy-ltb}
use Rattle.wgr_text.specs.declared.prefix.Span.{Span}
use Rattle.wgr_text.specs.Prefix.{rank}
use Rattle.wgr_pool.specs.Spans.{RisesFrom, spans_from}
use Rattle.wgr_pool.specs.Runs.{AreRunsFrom}
use Rattle.wgr_pool.proofs.Lists.{drop_below}
use Rattle.wgr_pool.proofs.RunLists.{rises, ends_order}
use Rattle.wgr_pool.proofs.Skipped.{rises_filter}
use Rattle.wgr_pool.proofs.address_set.AddressSet.spans_from.Goals as goal

pub returns-clause-value : goal.returns-clause-value
returns-clause-value c =
    let runs = c.as_slice-runs.result.now in
    let end = λ (s : Span). rank s.hi in
    let below = c.partition_point-below in
    let ordered = subst (AreRunsFrom 0) (sym c.as_slice-runs.ensures.value) c.self.invariant.0 in
    let parted = IsPartitionedBy-ltb end runs (rank c.args.address.now) (λ i j d o l. ends_order 0 runs i j d ordered o l) in
    let point = IsPartitionPoint-from_clause (λ s. nat_lt (rank s.hi) (rank c.args.address.now)) runs below.result below.ensures.partitioned parted (λ a r q k. search rules) in
    take_all _ _ (omega (arith, length-drop below.result runs))
    ∙ drop_below end (rank c.args.address.now) runs below.result point below.ensures.bound
    ∙ ap (spans_from c.args.address.now) (c.as_slice-runs.ensures.value ∙ c.self.view_is)

pub returns-clause-in_order : goal.returns-clause-in_order
returns-clause-in_order c =
    let risen = subst (RisesFrom 0) c.self.view_is (rises 0 0 _ (omega arith) c.self.invariant.0) in
    subst (RisesFrom 0) (sym (returns-clause-value c)) (rises_filter _ 0 c.args.self.now risen)
