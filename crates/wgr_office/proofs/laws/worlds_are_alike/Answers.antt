use Rattle.wgr_office.proofs.WorldLemmas.{worlds_are_alike}
use Rattle.wgr_office.proofs.laws.worlds_are_alike.Goals as goal

pub returns : goal.returns
returns c = worlds_are_alike
