use Rattle.wgr_checks.proofs.ReaderLaws.{good_readers_are}
use Rattle.wgr_checks.proofs.laws.good_readers_are_consistent.Goals as goal

pub returns : goal.returns
returns c = good_readers_are
