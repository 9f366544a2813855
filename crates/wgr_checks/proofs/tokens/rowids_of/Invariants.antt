use Rattle.std.proofs.Common.{◌≡◌, ◌<◌, ℕ, [], map, take, slice_index_or}
use Rattle.sqlite_value.specs.Order.{column}
use Rattle.sqlite_rules.specs.Edit.{id_in}
use Rattle.wgr_columns.specs.Fields.{IsIntegerAt}
use Rattle.wgr_checks.proofs.tokens.rowids_of.Given as goal

abbrev pub invariant-loop-row : goal.invariant-loop-row
invariant-loop-row l = (l.all.items ≡ map (λ r. id_in (column r 0)) (take l.row-index l.rows)) × ((k : ℕ) → k < l.row-index → IsIntegerAt (slice_index_or l.rows k []) 0)
