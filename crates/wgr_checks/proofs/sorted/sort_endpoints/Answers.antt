use Rattle.std.proofs.Common.{ℕ, rules, is_lt}
use Rattle.std.proofs.lemmas.List.Sorted.{ranks_by, answers_always}
use Rattle.wgr_model.specs.Register.{Bytes}
use Rattle.wgr_checks.specs.Sorted.{endpoint_cmp}
use Rattle.wgr_checks.proofs.SortedLemmas.{endpoint_total}
use Rattle.wgr_checks.proofs.sorted.sort_endpoints.Goals as goal

pub returns-clause-sorted : goal.returns-clause-sorted
returns-clause-sorted c = c.sort_unstable_by.ensures.sorted (λ (a : Bytes × ℕ) (b : Bytes × ℕ). is_lt (endpoint_cmp a b)) (ranks_by endpoint_total (λ (a : Bytes × ℕ). a)) (answers_always _ _ _ (λ f a r g called. search rules))
