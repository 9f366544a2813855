use Rattle.std.proofs.Common.{nat_lt, rules}
use Rattle.std.proofs.lemmas.List.Sorted.{answers_always}
use Rattle.wgr_core.proofs.PartsLemmas.{numbered_if}
use Rattle.wgr_core.proofs.arrange.are_numbered.Goals as goal

pub returns : goal.returns
returns c =
    numbered_if c.args.peers.now c.is_sorted_by.result
    (c.is_sorted_by.ensures.cases (λ one other. nat_lt one.number other.number) (answers_always _ _ _ (λ f a r g called. search rules)))
