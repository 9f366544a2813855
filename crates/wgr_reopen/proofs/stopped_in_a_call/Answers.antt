use Rattle.std.proofs.Common.{refl}
use Rattle.wgr_reopen.proofs.FuseLemmas.{stands_on}
use Rattle.wgr_reopen.proofs.stopped_in_a_call.Goals as goal

pub returns : goal.returns
returns c db late at = stands_on (λ file. refl) db late c.reopened.result (c.reopened.ensures.stands db late at)
