use Rattle.std.proofs.Common.{take}
use Rattle.std.specs.List.{All}
use Rattle.wgr_core.specs.Forms.{IsFormedLine}
use Rattle.wgr_core.proofs.forms.lines_have_forms.Given as goal

abbrev pub invariant-loop-line : goal.invariant-loop-line
invariant-loop-line l = All IsFormedLine (take l.line-index l.lines)
