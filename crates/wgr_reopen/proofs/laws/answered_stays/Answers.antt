use Rattle.wgr_reopen.proofs.KeptLemmas.{answered_stays}
use Rattle.wgr_reopen.proofs.laws.answered_stays.Goals as goal

pub returns : goal.returns
returns g c = answered_stays g.S.Store c.args.register.now g.R.Render.shown
