use Rattle.wgr_file.proofs.FileLemmas.{closed_as}
use Rattle.wgr_prog.proofs.request_words.close_office.Goals as goal

pub returns : goal.returns
returns g c = closed_as c.into_register.result c.args.office c.close.result c.into_register.ensures c.close.ensures
