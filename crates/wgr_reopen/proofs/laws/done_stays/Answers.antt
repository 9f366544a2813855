use Rattle.wgr_reopen.proofs.KeptLemmas.{done_stays}
use Rattle.wgr_reopen.proofs.laws.done_stays.Goals as goal

pub returns : goal.returns
returns g c = done_stays g.S.Store c.args.register.now
