use Rattle.wgr_register.proofs.LeftLemmas.{stop_leaves}
use Rattle.wgr_register.proofs.register.Register.stops_leave_good.Goals as goal

pub returns : goal.returns
returns g c = stop_leaves g.S.Store c.args.self.now
