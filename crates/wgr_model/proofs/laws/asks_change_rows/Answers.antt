use Rattle.wgr_model.proofs.AskRowLemmas.{changes_replace_rows, networks_are_found, readers_leave_rows, readings_leave_rows, refusals_leave_rows}
use Rattle.wgr_model.proofs.laws.asks_change_rows.Goals as goal

pub returns : goal.returns
returns c = record { found = networks_are_found; refusals = refusals_leave_rows; readers = readers_leave_rows; readings = readings_leave_rows; changes = changes_replace_rows }
