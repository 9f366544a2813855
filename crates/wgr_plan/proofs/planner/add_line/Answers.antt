use Rattle.std.proofs.Common.{refl}
use Rattle.wgr_plan.specs.Plan.{spells_no_key, network_refuses}
use Rattle.wgr_plan.proofs.planner.add_line.Goals as goal

pub returns-in_default : goal.returns-in_default
returns-in_default c = (refl, refl, spells_no_key c.args.network.now c.args.line.now c.in_default.ensures.none)

pub returns-in-Err-Refused : goal.returns-in-Err-Refused
returns-in-Err-Refused c =
    let refused = rw c.in-Err-Refused.field-0-is at c.in-Err-Refused.ensures.refused in
    (refused.0, refl, network_refuses c.args.network.now c.args.line.now c.in-Some.key c.in-Err-Refused.why c.in-Some.ensures.spelled refused.1)
