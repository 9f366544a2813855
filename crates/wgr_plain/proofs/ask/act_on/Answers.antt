use Rattle.std.proofs.Common.{Err, None, sym, subst}
use Rattle.wgr_core.specs.Change.{Meets}
use Rattle.wgr_core.specs.declared.fault.ActFault.{ActFault}
use Rattle.wgr_core.specs.declared.refusal.CommandRefusal.{CommandRefusal}
use Rattle.wgr_core.specs.Outcome.{outcome_of}
use Rattle.wgr_plain.specs.Calls.{IsActed}
use Rattle.wgr_model.specs.Steps.{Declined, act}
use Rattle.wgr_plain.proofs.ActLemmas.{refusal_acted, reply_acted}
use Rattle.wgr_plain.proofs.ask.act_on.Goals as goal

pub returns-in_ok-shown-in-Ok : goal.returns-in_ok-shown-in-Ok
returns-in_ok-shown-in-Ok c = reply_acted c.args.network.now c.args.now c.args.command.now c.in-Ok.reply c.in-Ok.change c.in_ok-after-in-Ok.after c.in_ok-shown-in-Ok.shown c.in-Ok.ensures.outcome c.in_ok-after-in-Ok.ensures c.in_ok-shown-in-Ok.ensures

pub returns-in-Err-Refused : goal.returns-in-Err-Refused
returns-in-Err-Refused c =
    let n = c.args.network.now in
    let meets = subst (λ (f : ActFault). Meets n (Err f) (outcome_of n c.args.now c.args.command.now)) c.in-Err-Refused.field-0-is c.in-Err-Refused.ensures.outcome in
    subst (λ (why : CommandRefusal). IsActed (act n c.args.now c.args.command.now) (Declined why) None) (sym c.in-Err-Refused.why-is) (refusal_acted n c.args.now c.args.command.now c.in-Err-Refused.why meets)
