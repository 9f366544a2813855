use Rattle.wgr_prog.proofs.ReplyLaws.{read}
use Rattle.wgr_prog.proofs.laws.texts_are_read.Goals as goal

pub returns : goal.returns
returns c = read
