use Rattle.std.proofs.Common.{ℕ, ◌<◌}
use Rattle.std.specs.List.{AllAdjacentBelow}
use Rattle.wgr_checks.proofs.keys.ids_differ.Given as goal

abbrev pub invariant-loop-at : goal.invariant-loop-at
invariant-loop-at l = AllAdjacentBelow (λ (a b : ℕ). a < b) l.ids l.at
