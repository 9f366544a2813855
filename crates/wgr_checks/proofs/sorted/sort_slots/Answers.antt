use Rattle.std.proofs.Common.{ℕ, rules, is_lt}
use Rattle.std.proofs.lemmas.List.Sorted.{ranks_by, answers_always}
use Rattle.wgr_model.specs.Register.{Bytes}
use Rattle.wgr_checks.specs.Sorted.{slot_cmp}
use Rattle.wgr_checks.proofs.SortedLemmas.{slot_total}
use Rattle.wgr_checks.proofs.sorted.sort_slots.Goals as goal

pub returns-clause-sorted : goal.returns-clause-sorted
returns-clause-sorted c = c.sort_unstable_by.ensures.sorted (λ (a : ℕ × Bytes) (b : ℕ × Bytes). is_lt (slot_cmp a b)) (ranks_by slot_total (λ (a : ℕ × Bytes). a)) (answers_always _ _ _ (λ f a r g called. search rules))
