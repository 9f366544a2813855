use Rattle.wgr_words.proofs.LineLemmas.{read_again}
use Rattle.wgr_words.proofs.laws.written_words_are_read.Goals as goal

pub returns : goal.returns
returns c = read_again
