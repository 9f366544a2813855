use Rattle.std.proofs.Common.{◌≡◌}
use Rattle.sqlite.specs.Held.{state}
use Rattle.wgr_tables.specs.TableSteps.{PeerLeaves}
use Rattle.wgr_tables.proofs.Loops.{HasDone}
use Rattle.wgr_tables.proofs.leave.remove_peers.Given as goal

abbrev pub invariant-loop-number : goal.invariant-loop-number
invariant-loop-number g l =
    (l.tx.conn.ghost_name ≡ l.fn.tx.conn.ghost_name)
    × HasDone (PeerLeaves l.network) l.numbers l.number-index (state g.S.Store l.fn.tx.conn.now) (state g.S.Store l.tx.conn.now)
