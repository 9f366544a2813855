use Rattle.std.specs.List.{AllAdjacentBelow}
use Rattle.wgr_checks.specs.Sorted.{IsBelow}
use Rattle.wgr_checks.proofs.pools.pools_are_apart.Given as goal

abbrev pub invariant-loop-at : goal.invariant-loop-at
invariant-loop-at l = AllAdjacentBelow IsBelow l.pools l.at
