use Rattle.wgr_core.specs.Outcome.{is_reading, leaving, live_outcome, outcome_of}
use Rattle.wgr_core.proofs.OutcomeLemmas.{outcome_keeps}
use Rattle.wgr_core.proofs.CommandLemmas.{change_given, meets_from_live, meets_fits}
use Rattle.wgr_core.proofs.network.Network.act.Goals as goal

pub returns-clause-outcome : goal.returns-clause-outcome
returns-clause-outcome c =
    let n = c.args.self.now in
    meets_from_live n c.in_ok-live.live c.args.now c.args.command.now c.in_ok-live.removed c.act.result c.at.ensures.rules c.in_ok-live.ensures.live c.in_ok-live.ensures.expired c.act.ensures

pub returns-clause-fits : goal.returns-clause-fits
returns-clause-fits c =
    let n = c.args.self.now in
    meets_fits n c.act.result (outcome_of n c.args.now c.args.command.now) (returns-clause-outcome c) (outcome_keeps n c.args.now c.args.command.now c.at.ensures.rules c.forms_hold.ensures.asked)

pub returns-clause-change : goal.returns-clause-change
returns-clause-change c =
    let asked = c.args.command.now in
    let live = c.in_ok-live.live in
    change_given (is_reading asked) (leaving asked) live c.in_ok-live.removed c.act.result (live_outcome live c.args.now asked) c.act.ensures
