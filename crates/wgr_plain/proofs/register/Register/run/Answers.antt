use Rattle.std.proofs.Common.{◌≡◌, rules, ◌+◌, length, take, arith, sym, ap, subst, ◌∙◌, le_trans}
use Rattle.std.proofs.lemmas.List.{take_all}
use Rattle.std.specs.Option.{option_map}
use Rattle.wgr_plain.specs.Calls.{answer_of, model_event}
use Rattle.wgr_model.specs.Runs.{AreProper}
use Rattle.wgr_model.proofs.RunLemmas.{proper_more, runs_isolated}
use Rattle.wgr_plain.proofs.ServeLemmas.{IsExactRun, exact_is_run, run_more, served, served_more, served_whole}
use Rattle.wgr_plain.proofs.register.Register.run.Goals as goal

pub loop-event-preserved : goal.loop-event-preserved
loop-event-preserved c =
    let at = c.loop-event.event-index in
    let events = c.args.events.now in
    let answers = c.loop-event.answers.items in
    let more =
    ap (served (take (at + 1) events)) c.in_ok-push.ensures.items ∙ served_more events answers at c.event-item.result c.serve-answer.result c.loop-event-test.true c.event-item.is c.loop-event.invariant.long in
    record {
      run = subst (λ es. IsExactRun c.args.self.now es c.serve-answer.new.self) (sym more)
          (run_more (served (take at events) answers) c.args.self.now c.loop-event.self c.serve-answer.new.self (model_event c.event-item.result) (option_map answer_of c.serve-answer.result) c.loop-event.invariant.run c.serve-answer.ensures);
      proper = subst AreProper (sym more)
          (proper_more (served (take at events) answers) (model_event c.event-item.result) (option_map answer_of c.serve-answer.result) c.loop-event.invariant.proper c.forms_hold.ensures);
      room = le_trans c.loop-event.invariant.room c.in_ok-push.ensures.capacity;
      long = search rules;
    }

pub returns : goal.returns
returns c =
    let es = served c.args.events.now c.loop-event.answers.items in
    let all = take_all c.loop-event.event-index c.args.events.now c.loop-event-test.false in
    let run = exact_is_run es c.args.self.now c.loop-event.self
    (subst (λ xs. IsExactRun c.args.self.now (served xs c.loop-event.answers.items) c.loop-event.self) all c.loop-event.invariant.run) in
    let proper = subst (λ xs. AreProper (served xs c.loop-event.answers.items)) all c.loop-event.invariant.proper in
    let each : length c.loop-event.answers.items ≡ length c.args.events.now = omega (arith, c.loop-event.invariant.long, c.loop-event.auto.event-index-end, c.loop-event-test.false) in
    let whole = served_whole c.args.events.now c.loop-event.answers.items each in
    record {
      each = each;
      run = (es, whole, run);
      isolated = (es, whole, runs_isolated c.args.self.now c.loop-event.self es c.rules_hold.ensures proper run);
      undone = tt;
    }
