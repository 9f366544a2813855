use Rattle.wgr_reply.proofs.StatusLemmas.{one_status}
use Rattle.wgr_reply.proofs.laws.replies_have_one_status.Goals as goal

pub returns : goal.returns
returns c = one_status
