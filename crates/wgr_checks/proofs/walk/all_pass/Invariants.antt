use Rattle.std.proofs.Common.{◌≡◌, [], false, List, IfSome, SFits, w64}
use Rattle.std.specs.List.Sorted.{IsSorted}
use Rattle.std.specs.Ordering.{nat_cmp}
use Rattle.sqlite_value.specs.Order.{Row}
use Rattle.sqlite.specs.State.{HasCleanDisk, Survives}
use Rattle.sqlite.specs.Held.{state}
use Rattle.sqlite.specs.Given.{HasGiven}
use Rattle.wgr_checks.specs.TableRows.{IsRowOf, text_of}
use Rattle.wgr_checks.specs.Walked.{IsStill, IsWalked, still_to_come}
use Rattle.wgr_checks.proofs.walk.all_pass.Given as goal

abbrev pub invariant-rows : goal.invariant-rows
invariant-rows g l =
    let old = state g.S.Store l.initial.rows.conn.now in
    let now = state g.S.Store l.rows.conn.now in
    (l.rows.conn.ghost_name ≡ l.initial.rows.conn.ghost_name)
    × (l.initial.rows.conn.now.in_transaction ≡ false → l.rows.conn.now.in_transaction ≡ false)
    × Survives old now (λ _. ⊥)
    × (HasCleanDisk now → IsStill old now)
    × (HasCleanDisk now → HasGiven g.S.Store (text_of l.table) [] l.initial.rows.conn.now [] → (given : List Row) × HasGiven g.S.Store (text_of l.table) [] l.rows.conn.now given × (IsSorted nat_cmp l.networks → IsWalked (IsRowOf l.table l.networks) given l.last))
    × IfSome l.last (SFits w64)

abbrev pub decreases-rows : goal.decreases-rows
decreases-rows g l = still_to_come l.last
