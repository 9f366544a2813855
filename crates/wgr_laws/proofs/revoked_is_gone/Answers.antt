use Rattle.wgr_laws.proofs.RunLemmas.{revoked_is_gone, revoked_owns_nothing}
use Rattle.wgr_laws.proofs.revoked_is_gone.Goals as goal

pub returns : goal.returns
returns c = record { stands = revoked_is_gone; owns = revoked_owns_nothing }
