use Rattle.std.proofs.Common.{◌≤◌}
use Rattle.wgr_text.specs.Prefix.{rank, IsAddr}
use Rattle.wgr_pool.proofs.Walk.{Walk}
use Rattle.wgr_pool.proofs.allot.lowest_free.Given as goal

abbrev pub invariant-loop-span : goal.invariant-loop-span
invariant-loop-span g l =
    IsAddr l.candidate × (rank l.initial.candidate ≤ rank l.candidate) × (rank l.candidate ≤ rank l.last)
    × g.H.Holds.keeps l.fn.holds l.holds
    × (g.H.Holds.honest l.holds → Walk (g.H.Holds.rest l.fn.holds) (g.H.Holds.rest l.holds) l.initial.candidate l.candidate)

abbrev pub decreases-loop-span : goal.decreases-loop-span
decreases-loop-span g l = g.H.Holds.left l.holds
