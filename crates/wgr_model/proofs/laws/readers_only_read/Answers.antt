use Rattle.wgr_model.proofs.ReaderLemmas.{readers_only_read}
use Rattle.wgr_model.proofs.laws.readers_only_read.Goals as goal

pub returns : goal.returns
returns c = readers_only_read
