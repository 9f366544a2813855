use Rattle.wgr_model.proofs.RunLemmas.{step_law}
use Rattle.wgr_model.proofs.laws.steps_are_isolated.Goals as goal

pub returns : goal.returns
returns c = step_law
