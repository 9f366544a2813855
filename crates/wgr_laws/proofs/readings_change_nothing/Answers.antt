use Rattle.wgr_laws.proofs.LaterLemmas.{reading_changes_nothing}
use Rattle.wgr_laws.proofs.readings_change_nothing.Goals as goal

pub returns : goal.returns
returns c = reading_changes_nothing
