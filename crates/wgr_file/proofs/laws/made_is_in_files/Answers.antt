use Rattle.wgr_file.proofs.FileLemmas.{made_in}
use Rattle.wgr_file.proofs.laws.made_is_in_files.Goals as goal

pub returns : goal.returns
returns g c = made_in c.args.files.now
