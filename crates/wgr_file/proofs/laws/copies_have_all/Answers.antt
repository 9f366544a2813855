use Rattle.wgr_file.proofs.FileLemmas.{copy_is}
use Rattle.wgr_file.proofs.laws.copies_have_all.Goals as goal

pub returns : goal.returns
returns g c = copy_is c.args.files.now
