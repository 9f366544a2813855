use Rattle.wgr_model.proofs.GatherLemmas.{gathered}
use Rattle.wgr_model.proofs.RowRunLemmas.{no_rows_consistent, order_unseen, rows_consistent}
use Rattle.wgr_model.proofs.laws.rows_are_read.Goals as goal

pub returns : goal.returns
returns c = record { read = gathered; order = order_unseen; consistent = rows_consistent; none = no_rows_consistent }
