use Rattle.std.proofs.Common.{take}
use Rattle.wgr_core.specs.Outcome.{AreLinesAsked}
use Rattle.wgr_core.proofs.forms.allowed_have_forms.Given as goal

abbrev pub invariant-loop-line : goal.invariant-loop-line
invariant-loop-line l = AreLinesAsked (take l.line-index l.lines)
