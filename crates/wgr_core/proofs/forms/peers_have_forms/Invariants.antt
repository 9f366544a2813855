use Rattle.std.proofs.Common.{take}
use Rattle.std.specs.List.{All}
use Rattle.wgr_core.specs.Forms.{IsPeerFormed}
use Rattle.wgr_core.proofs.forms.peers_have_forms.Given as goal

abbrev pub invariant-loop-peer : goal.invariant-loop-peer
invariant-loop-peer l = All IsPeerFormed (take l.peer-index l.peers)
