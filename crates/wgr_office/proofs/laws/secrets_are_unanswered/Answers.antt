use Rattle.wgr_office.proofs.SecretLemmas.{secrets_unanswered}
use Rattle.wgr_office.proofs.laws.secrets_are_unanswered.Goals as goal

pub returns : goal.returns
returns c = secrets_unanswered
