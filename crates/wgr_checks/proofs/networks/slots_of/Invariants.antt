use Rattle.std.proofs.Common.{◌≡◌, ◌<◌, ℕ, [], map, take, slice_index_or}
use Rattle.wgr_checks.specs.NetworkRows.{IsSlotRow, slot_at}
use Rattle.wgr_checks.proofs.networks.slots_of.Given as goal

abbrev pub invariant-loop-row : goal.invariant-loop-row
invariant-loop-row l = (l.all.items ≡ map slot_at (take l.row-index l.rows)) × ((k : ℕ) → k < l.row-index → IsSlotRow (slice_index_or l.rows k []))
