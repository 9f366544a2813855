use Rattle.wgr_model.proofs.RunLemmas.{runs_isolated}
use Rattle.wgr_model.proofs.laws.runs_are_isolated.Goals as goal

pub returns : goal.returns
returns c = runs_isolated
