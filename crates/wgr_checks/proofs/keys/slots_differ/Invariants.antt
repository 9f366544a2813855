use Rattle.std.proofs.Common.{◌≡◌, Less}
use Rattle.std.specs.List.{AllAdjacentBelow}
use Rattle.wgr_checks.specs.Sorted.{slot_cmp}
use Rattle.wgr_checks.proofs.keys.slots_differ.Given as goal

abbrev pub invariant-loop-at : goal.invariant-loop-at
invariant-loop-at l = AllAdjacentBelow (λ a b. slot_cmp a b ≡ Less) l.slots l.at
