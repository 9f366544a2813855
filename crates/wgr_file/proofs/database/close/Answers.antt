use Rattle.wgr_file.proofs.FileLemmas.{closed_in}
use Rattle.wgr_file.proofs.database.close.Goals as goal

pub returns-in-Ok : goal.returns-in-Ok
returns-in-Ok g c = closed_in c.args.conn c.in-Ok.files c.is_autocommit-settled.result c.is_autocommit-settled.ensures.value c.requires.idle c.is_autocommit-settled.ensures.settled c.in-Ok.ensures.copied
