use Rattle.std.proofs.Common.{◌≡◌, ◌<◌, ℕ, [], map, take, slice_index_or}
use Rattle.wgr_columns.specs.Decode.{number_at}
use Rattle.wgr_checks.specs.TenantRows.{IsTenantRow}
use Rattle.wgr_checks.proofs.tenants.ids_of.Given as goal

abbrev pub invariant-loop-row : goal.invariant-loop-row
invariant-loop-row l = (l.ids.items ≡ map (λ r. number_at r 0) (take l.row-index l.rows)) × ((k : ℕ) → k < l.row-index → IsTenantRow (slice_index_or l.rows k []))
