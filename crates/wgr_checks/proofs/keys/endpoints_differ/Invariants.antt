use Rattle.std.proofs.Common.{◌≡◌, Less}
use Rattle.std.specs.List.{AllAdjacentBelow}
use Rattle.wgr_checks.specs.Sorted.{endpoint_cmp}
use Rattle.wgr_checks.proofs.keys.endpoints_differ.Given as goal

abbrev pub invariant-loop-at : goal.invariant-loop-at
invariant-loop-at l = AllAdjacentBelow (λ a b. endpoint_cmp a b ≡ Less) l.endpoints l.at
