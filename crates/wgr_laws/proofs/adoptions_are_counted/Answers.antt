use Rattle.wgr_laws.proofs.AdoptCounts.{adoptions_are_counted}
use Rattle.wgr_laws.proofs.adoptions_are_counted.Goals as goal

pub returns : goal.returns
returns c = adoptions_are_counted
