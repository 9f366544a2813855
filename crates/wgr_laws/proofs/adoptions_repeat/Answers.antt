use Rattle.wgr_laws.proofs.RepeatLemmas.{adoption_repeats, adoption_repeats_later}
use Rattle.wgr_laws.proofs.adoptions_repeat.Goals as goal

pub returns : goal.returns
returns c = record { now = adoption_repeats; later = adoption_repeats_later }
