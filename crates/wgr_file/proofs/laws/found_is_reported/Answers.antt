use Rattle.wgr_file.proofs.FileLemmas.{found_is}
use Rattle.wgr_file.proofs.laws.found_is_reported.Goals as goal

pub returns : goal.returns
returns c = found_is
