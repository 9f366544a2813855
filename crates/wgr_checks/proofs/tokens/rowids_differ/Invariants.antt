use Rattle.std.proofs.Common.{◌≡◌, ℤ, Less}
use Rattle.std.specs.List.{AllAdjacentBelow}
use Rattle.std.specs.Ordering.{int_cmp}
use Rattle.wgr_checks.proofs.tokens.rowids_differ.Given as goal

abbrev pub invariant-loop-at : goal.invariant-loop-at
invariant-loop-at l = AllAdjacentBelow (λ (a b : ℤ). int_cmp a b ≡ Less) l.rowids l.at
