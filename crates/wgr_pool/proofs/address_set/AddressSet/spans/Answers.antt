use Rattle.std.proofs.Common.{arith, subst}
use Rattle.wgr_pool.specs.Spans.{RisesFrom}
use Rattle.wgr_pool.proofs.RunLists.{rises}
use Rattle.wgr_pool.proofs.address_set.AddressSet.spans.Goals as goal

pub returns-clause-in_order : goal.returns-clause-in_order
returns-clause-in_order c = subst (RisesFrom 0) c.self.view_is (rises 0 0 _ (omega arith) c.self.invariant.0)
