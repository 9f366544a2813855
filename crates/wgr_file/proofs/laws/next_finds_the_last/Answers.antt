use Rattle.wgr_file.proofs.FileLemmas.{next_is}
use Rattle.wgr_file.proofs.laws.next_finds_the_last.Goals as goal

pub returns : goal.returns
returns g c = next_is c.args.files.now
