use Rattle.wgr_model.proofs.CommitLemmas.{committed}
use Rattle.wgr_model.proofs.laws.commits_replace.Goals as goal

pub returns : goal.returns
returns c = committed
