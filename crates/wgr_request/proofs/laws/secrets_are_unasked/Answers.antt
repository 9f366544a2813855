use Rattle.wgr_request.proofs.Secrets.{secrets_unasked}
use Rattle.wgr_request.proofs.laws.secrets_are_unasked.Goals as goal

pub returns : goal.returns
returns c = secrets_unasked
