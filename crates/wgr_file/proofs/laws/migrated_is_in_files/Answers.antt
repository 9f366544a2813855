use Rattle.wgr_file.proofs.FileLemmas.{migrated_in}
use Rattle.wgr_file.proofs.laws.migrated_is_in_files.Goals as goal

pub returns : goal.returns
returns g c = migrated_in c.args.files.now
