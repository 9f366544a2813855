use Rattle.wgr_text.proofs.RoundTrips.{Spells_unique}
use Rattle.wgr_text.proofs.Spelled.{SpellsAddr_unique}
use Rattle.wgr_text.proofs.laws.spelled_is_unique.Goals as goal

pub returns : goal.returns
returns c = record { address = SpellsAddr_unique; pair = Spells_unique }
