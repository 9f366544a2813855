use Rattle.wgr_request.proofs.Asking.{tokens_kept}
use Rattle.wgr_request.proofs.laws.tokens_are_kept.Goals as goal

pub returns : goal.returns
returns c = tokens_kept
