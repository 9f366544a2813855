use Rattle.wgr_checks.proofs.NetworkLaws.{good_networks_are}
use Rattle.wgr_checks.proofs.laws.good_networks_are_consistent.Goals as goal

pub returns : goal.returns
returns c = good_networks_are
