use Rattle.std.proofs.Common.{◌≡◌, drop}
use Rattle.wgr_core.specs.Adoption.{named_address}
use Rattle.wgr_core.proofs.line.named_address.Given as goal

abbrev pub invariant-loop-prefix : goal.invariant-loop-prefix
invariant-loop-prefix l = named_address l.pool (drop l.prefix-index l.allowed) ≡ named_address l.pool l.allowed
