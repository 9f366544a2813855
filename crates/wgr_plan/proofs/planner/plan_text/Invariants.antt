use Rattle.wgr_text.specs.Lines.{lines_of}
use Rattle.wgr_plan.specs.Plan.{plan_network}
use Rattle.wgr_plan.proofs.PlanLemmas.{PlannedTo}
use Rattle.wgr_plan.proofs.planner.plan_text.Given as goal

abbrev pub invariant-loop-line : goal.invariant-loop-line
invariant-loop-line l = PlannedTo (plan_network l.pool) (lines_of l.text) l.network (lines_of l.line-iterator.rest.now) l.printed.items
