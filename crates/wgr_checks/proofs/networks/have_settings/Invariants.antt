use Rattle.std.proofs.Common.{◌<◌, ℕ, [], slice_index_or}
use Rattle.wgr_checks.specs.NetworkRows.{HasSettingColumns}
use Rattle.wgr_checks.proofs.networks.have_settings.Given as goal

abbrev pub invariant-loop-row : goal.invariant-loop-row
invariant-loop-row l = (k : ℕ) → k < l.row-index → HasSettingColumns (slice_index_or l.rows k [])
