use Rattle.std.proofs.Common.{rules, is_lt}
use Rattle.std.proofs.lemmas.List.Sorted.{ranks_by, answers_always}
use Rattle.wgr_text.specs.Prefix.{PrefixValue}
use Rattle.wgr_checks.specs.Sorted.{pool_cmp}
use Rattle.wgr_checks.proofs.NetworkLemmas.{pool_total}
use Rattle.wgr_checks.proofs.sorted.sort_pools.Goals as goal

pub returns-clause-sorted : goal.returns-clause-sorted
returns-clause-sorted c = c.sort_unstable_by.ensures.sorted (λ (a : PrefixValue) (b : PrefixValue). is_lt (pool_cmp a b)) (ranks_by pool_total (λ (a : PrefixValue). a)) (answers_always _ _ _ (λ f a r g called. search rules))
