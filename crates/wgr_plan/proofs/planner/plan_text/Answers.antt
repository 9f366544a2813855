use Rattle.std.proofs.Common.{◌≡◌, Some, sym, ◌∙◌, ap, subst}
use Rattle.wgr_core.specs.Network.{NetworkValue}
use Rattle.wgr_text.specs.Lines.{lines_of}
use Rattle.wgr_plan.specs.Plan.{Plans, plan_network}
use Rattle.wgr_plan.proofs.PlanLemmas.{PlannedTo, planned_join, planned_end, planned_refused}
use Rattle.wgr_plan.proofs.planner.plan_text.Goals as goal

pub returns-in-Some-2 : goal.returns-in-Some-2
returns-in-Some-2 c =
    let first = plan_network c.args.pool.now in
    let lines = lines_of c.args.text.now in
    let so_far = subst (λ rest. PlannedTo first lines c.loop-line.network rest c.loop-line.printed.items) c.in-Some.ensures.steps c.loop-line.invariant in
    let adds = rw c.in-Some-2.is at c.in_ok-refusal.ensures in
    let plan = planned_refused first lines c.loop-line.network c.in-Some.line.now _ c.loop-line.printed.items c.in-Some-2.refusal so_far adds.2 in
    let line : c.next-in-Some-2.result ≡ c.loop-line.network.next = c.next-in-Some-2.ensures.value ∙ ap (λ (n : NetworkValue). n.next) adds.0 in
    subst (λ bytes. Plans first 1 lines (record { printed = bytes; refused = Some (c.next-in-Some-2.result, c.in-Some-2.refusal) })) (sym adds.1)
    (subst (λ line. Plans first 1 lines (record { printed = c.loop-line.printed.items; refused = Some (line, c.in-Some-2.refusal) })) (sym line) plan)

pub loop-line-preserved : goal.loop-line-preserved
loop-line-preserved c =
    let first = plan_network c.args.pool.now in
    let lines = lines_of c.args.text.now in
    let so_far = subst (λ rest. PlannedTo first lines c.loop-line.network rest c.loop-line.printed.items) c.in-Some.ensures.steps c.loop-line.invariant in
    let joins = rw c.in_default.is at c.in_ok-refusal.ensures in
    planned_join first lines c.loop-line.network c.in-Some.line.now _ c.loop-line.printed.items c.add_line.new.network c.add_line.new.printed.items so_far joins

pub returns : goal.returns
returns c =
    let first = plan_network c.args.pool.now in
    let lines = lines_of c.args.text.now in
    planned_end first lines c.loop-line.network c.loop-line.printed.items
    (subst (λ rest. PlannedTo first lines c.loop-line.network rest c.loop-line.printed.items) c.in-None.ensures.steps.0 c.loop-line.invariant)
