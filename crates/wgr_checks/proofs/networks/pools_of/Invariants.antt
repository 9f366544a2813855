use Rattle.std.proofs.Common.{◌≡◌, ◌<◌, ℕ, [], map, take, slice_index_or}
use Rattle.wgr_columns.specs.Decode.{prefix_at}
use Rattle.wgr_columns.specs.Fields.{IsPoolAt}
use Rattle.wgr_checks.proofs.networks.pools_of.Given as goal

abbrev pub invariant-loop-row : goal.invariant-loop-row
invariant-loop-row l = (l.all.items ≡ map (λ r. prefix_at r 4) (take l.row-index l.rows)) × ((k : ℕ) → k < l.row-index → IsPoolAt (slice_index_or l.rows k []) 4)
