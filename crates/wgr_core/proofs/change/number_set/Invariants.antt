use Rattle.std.proofs.Common.{◌≡◌, ℕ, nat_eq, take}
use Rattle.std.specs.HashSet.{contains}
use Rattle.wgr_core.specs.Network.{is_among}
use Rattle.wgr_core.proofs.change.number_set.Given as goal

abbrev pub invariant-loop-number : goal.invariant-loop-number
invariant-loop-number l = (n : ℕ) → contains nat_eq l.set n ≡ is_among (take l.number-index l.numbers) n
