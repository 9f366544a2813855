use Rattle.std.proofs.Common.{arith}
use Rattle.wgr_peers.proofs.TextLemmas.{label_is_utf8}
use Rattle.wgr_peers.proofs.label.Label.read.Goals as goal
use Rattle.wgr_peers.proofs.label.Label.read.Goals.{in_default-via-in-Ok+else-is_label, in_default-via-in_default}

pub returns-in_default-clause-none : goal.returns-in_default-clause-none
returns-in_default-clause-none c is = elim c.in_default.branch [
  | in_default-via-in-Ok+else-is_label w ↦ grind (arith, is)
  | in_default-via-in_default w ↦ grind (arith, is, label_is_utf8 _ is)
]
