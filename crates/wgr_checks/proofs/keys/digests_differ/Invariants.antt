use Rattle.std.proofs.Common.{◌≡◌, ℕ, List, Less}
use Rattle.std.specs.List.{AllAdjacentBelow}
use Rattle.std.specs.Ordering.{nat_cmp}
use Rattle.std.specs.Cmp.Lexicographic.{slice_cmp}
use Rattle.wgr_checks.proofs.keys.digests_differ.Given as goal

abbrev pub invariant-loop-at : goal.invariant-loop-at
invariant-loop-at l = AllAdjacentBelow (λ (a b : List ℕ). slice_cmp nat_cmp a b ≡ Less) l.digests l.at
