use Rattle.std.proofs.Common.{◌≡◌, take}
use Rattle.wgr_core.specs.Draft.{altered}
use Rattle.wgr_core.proofs.draft.altered.Given as goal

abbrev pub invariant-loop-place : goal.invariant-loop-place
invariant-loop-place l = l.those.items ≡ altered l.start (take l.place l.peers)
