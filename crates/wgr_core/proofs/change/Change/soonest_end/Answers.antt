use Rattle.std.proofs.Common.{arith, rules}
use Rattle.wgr_core.proofs.ApplyLemmas.{ends_applied}
use Rattle.wgr_core.proofs.change.Change.soonest_end.Goals as goal

pub returns : goal.returns
returns c n all = ends_applied c.args.self.now n c.args.before c.soonest_end.result c.min.result (omega (arith, c.min.ensures)) (omega (arith, c.min.ensures)) (search rules) all
