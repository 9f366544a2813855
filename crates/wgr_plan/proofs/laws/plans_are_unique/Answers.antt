use Rattle.wgr_plan.proofs.OnePlan.{one_plan}
use Rattle.wgr_plan.proofs.laws.plans_are_unique.Goals as goal

pub returns : goal.returns
returns c = one_plan
