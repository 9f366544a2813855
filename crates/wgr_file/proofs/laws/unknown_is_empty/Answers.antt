use Rattle.wgr_file.proofs.HonestLemmas.{unknown_is_empty}
use Rattle.wgr_file.proofs.laws.unknown_is_empty.Goals as goal

pub returns : goal.returns
returns c = unknown_is_empty
