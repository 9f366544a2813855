use Rattle.wgr_file.proofs.FileLemmas.{stand_in}
use Rattle.wgr_file.proofs.laws.closed_is_in_files.Goals as goal

pub returns : goal.returns
returns g c left db late closed at = stand_in left c.args.files.now db late closed at
