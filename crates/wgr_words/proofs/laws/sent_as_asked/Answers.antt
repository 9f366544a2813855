use Rattle.wgr_words.proofs.SentLemmas.{read_as_asked}
use Rattle.wgr_words.proofs.laws.sent_as_asked.Goals as goal

pub returns : goal.returns
returns c = read_as_asked
