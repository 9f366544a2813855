use Rattle.wgr_model.proofs.RunLemmas.{empty_consistent}
use Rattle.wgr_model.proofs.laws.empty_is_consistent.Goals as goal

pub returns : goal.returns
returns c = empty_consistent
