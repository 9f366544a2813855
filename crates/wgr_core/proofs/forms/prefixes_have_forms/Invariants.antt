use Rattle.std.proofs.Common.{take}
use Rattle.std.specs.List.{All}
use Rattle.wgr_core.specs.Outcome.{IsPrefixAsked}
use Rattle.wgr_core.proofs.forms.prefixes_have_forms.Given as goal

abbrev pub invariant-loop-prefix : goal.invariant-loop-prefix
invariant-loop-prefix l = All IsPrefixAsked (take l.prefix-index l.allowed)
