use Rattle.std.proofs.Common.{◌≡◌, ◌≤◌, ◌+◌, ◌-◌, nat_eq}
use Rattle.std.specs.HashSet.{contains}
use Rattle.sqlite.specs.Held.{state}
use Rattle.wgr_pool.specs.Spans.{reached_after}
use Rattle.wgr_columns.specs.Decode.{tables_of}
use Rattle.wgr_rows.specs.HeldRows.{max_holds, staying, rows_to_come}
use Rattle.wgr_rows.specs.Stopping.{Leaves}
use Rattle.wgr_rows.specs.Telling.{ShowsGoodRows}
use Rattle.wgr_rows.proofs.holds.HoldRowsHolds.next_hold.Given as goal

abbrev pub invariant-loop-span : goal.invariant-loop-span
invariant-loop-span g l =
    let old = l.initial.self in
    (l.self.rows.ghost_name ≡ old.rows.ghost_name)
    × (l.self.rows.now.conn.ghost_name ≡ old.rows.now.conn.ghost_name)
    × Leaves g.S.Store old.rows.now.conn.now old.network old.pool old.at l.self.rows.now.conn.now l.self.network l.self.pool l.self.at
    × (l.self.expired.now ≡ old.expired.now)
    × (old.taken ≤ l.self.taken)
    × (reached_after old.last ≤ reached_after l.self.last)
    × (ShowsGoodRows (state g.S.Store l.self.rows.now.conn.now) → ShowsGoodRows (state g.S.Store old.rows.now.conn.now)
    × (staying (contains nat_eq old.expired.now) (rows_to_come old.shows_peers old.at (tables_of (state g.S.Store old.rows.now.conn.now).now) old.network old.pool old.start.number old.taken) ≡ staying (contains nat_eq l.self.expired.now) (rows_to_come l.self.shows_peers l.self.at (tables_of (state g.S.Store l.self.rows.now.conn.now).now) l.self.network l.self.pool l.self.start.number l.self.taken)))
    × (l.self.first ≡ old.first)

abbrev pub decreases-loop-span : goal.decreases-loop-span
decreases-loop-span g l = max_holds + 1 - l.self.taken
