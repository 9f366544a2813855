use Rattle.wgr_file.proofs.HonestLemmas.{clean_if}
use Rattle.wgr_file.proofs.laws.honest_files_are_clean.Goals as goal

pub returns : goal.returns
returns g c = clean_if c.args.register.now
