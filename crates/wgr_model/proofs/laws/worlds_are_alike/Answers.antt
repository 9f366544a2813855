use Rattle.wgr_model.proofs.WorldLemmas.{two_worlds}
use Rattle.wgr_model.proofs.laws.worlds_are_alike.Goals as goal

pub returns : goal.returns
returns c = two_worlds
