use Rattle.std.proofs.Common.{◌+◌, nat_eq, rules}
use Rattle.std.proofs.lemmas.List.Sorted.{answers_always}
use Rattle.wgr_tables.proofs.RangeLemmas.{follow_if}
use Rattle.wgr_tables.proofs.range.follow_one_another.Goals as goal

pub returns : goal.returns
returns c =
    follow_if c.args.peers.now c.is_sorted_by.result
    (c.is_sorted_by.ensures.cases (λ one other. nat_eq other.number (one.number + 1)) (answers_always _ _ _ (λ f a r g called. search rules)))
