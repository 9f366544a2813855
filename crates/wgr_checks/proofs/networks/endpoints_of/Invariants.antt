use Rattle.std.proofs.Common.{◌≡◌, ◌<◌, ℕ, [], map, take, slice_index_or}
use Rattle.wgr_checks.specs.NetworkRows.{IsEndpointRow, endpoint_at}
use Rattle.wgr_checks.proofs.networks.endpoints_of.Given as goal

abbrev pub invariant-loop-row : goal.invariant-loop-row
invariant-loop-row l = (l.all.items ≡ map endpoint_at (take l.row-index l.rows)) × ((k : ℕ) → k < l.row-index → IsEndpointRow (slice_index_or l.rows k []))
