use Rattle.wgr_file.proofs.FileLemmas.{ends_in}
use Rattle.wgr_file.proofs.laws.orders_end_in_files.Goals as goal

pub returns : goal.returns
returns g c = ends_in c.args.files.now
