use Rattle.wgr_model.proofs.RowWorldLemmas.{rows_of_two_worlds}
use Rattle.wgr_model.proofs.laws.rows_of_two_worlds.Goals as goal

pub returns : goal.returns
returns c = rows_of_two_worlds
