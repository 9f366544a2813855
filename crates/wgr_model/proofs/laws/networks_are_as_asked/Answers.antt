use Rattle.wgr_model.proofs.NewNetworkLemmas.{network_as_asked}
use Rattle.wgr_model.proofs.laws.networks_are_as_asked.Goals as goal

pub returns : goal.returns
returns c = network_as_asked
