use Rattle.wgr_laws.proofs.FaithLemmas.{adoption_is_faithful}
use Rattle.wgr_laws.proofs.SeenOwners.{adoption_keeps_owners, adoption_keeps_unowned}
use Rattle.wgr_laws.proofs.first_adoptions_are_faithful.Goals as goal

pub returns : goal.returns
returns c = record { peers = adoption_is_faithful; owners = adoption_keeps_owners; unowned = adoption_keeps_unowned }
