use Rattle.wgr_model.proofs.RowRunLemmas.{rows_isolated}
use Rattle.wgr_model.proofs.laws.rows_are_isolated.Goals as goal

pub returns : goal.returns
returns c = rows_isolated
