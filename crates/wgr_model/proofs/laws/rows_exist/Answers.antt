use Rattle.wgr_model.proofs.ExistLemmas.{has_row_step, rows_exist, steps_have_rows}
use Rattle.wgr_model.proofs.laws.rows_exist.Goals as goal

pub returns : goal.returns
returns c = record { rows = rows_exist; after = steps_have_rows; step = has_row_step }
