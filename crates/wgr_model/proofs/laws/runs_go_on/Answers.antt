use Rattle.wgr_model.proofs.StopLemmas.{runs_go_on}
use Rattle.wgr_model.proofs.laws.runs_go_on.Goals as goal

pub returns : goal.returns
returns c = runs_go_on
