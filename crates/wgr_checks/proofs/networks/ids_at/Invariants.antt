use Rattle.std.proofs.Common.{◌≡◌, ◌<◌, ℕ, [], map, take, slice_index_or}
use Rattle.wgr_columns.specs.Decode.{number_at}
use Rattle.wgr_columns.specs.Fields.{IsIdAt}
use Rattle.wgr_checks.proofs.networks.ids_at.Given as goal

abbrev pub invariant-loop-row : goal.invariant-loop-row
invariant-loop-row l = (l.all.items ≡ map (λ r. number_at r l.at) (take l.row-index l.rows)) × ((k : ℕ) → k < l.row-index → IsIdAt (slice_index_or l.rows k []) l.at)
