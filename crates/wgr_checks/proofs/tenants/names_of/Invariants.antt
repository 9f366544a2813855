use Rattle.std.proofs.Common.{◌≡◌, ◌<◌, ℕ, [], map, take, slice_index_or}
use Rattle.wgr_columns.specs.Decode.{bytes_at}
use Rattle.wgr_columns.specs.Fields.{IsNameAt}
use Rattle.wgr_checks.proofs.tenants.names_of.Given as goal

abbrev pub invariant-loop-row : goal.invariant-loop-row
invariant-loop-row l = (l.names.items ≡ map (λ r. bytes_at r 2) (take l.row-index l.rows)) × ((k : ℕ) → k < l.row-index → IsNameAt (slice_index_or l.rows k []) 2)
