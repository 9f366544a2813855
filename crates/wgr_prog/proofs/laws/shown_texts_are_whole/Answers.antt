use Rattle.wgr_prog.proofs.ReplyLaws.{whole}
use Rattle.wgr_prog.proofs.laws.shown_texts_are_whole.Goals as goal

pub returns : goal.returns
returns c = whole
