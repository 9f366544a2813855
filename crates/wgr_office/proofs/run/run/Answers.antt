use Rattle.std.proofs.Common.{◌++◌, ◌∷◌, [], take, sym, subst, ap, ◌∙◌, le_trans, rules}
use Rattle.std.proofs.lemmas.List.{take_more, take_all}
use Rattle.wgr_office.specs.Between.{AreCalls}
use Rattle.wgr_office.proofs.BetweenLemmas.{calls_more, passed}
use Rattle.wgr_office.proofs.run.run.Goals as goal

pub loop-event-preserved : goal.loop-event-preserved
loop-event-preserved g c =
    let at = c.loop-event.event-index in
    let events = c.args.events.now in
    let answers = c.loop-event.answers.items in
    let front = take_more events at c.event-item.result c.loop-event-test.true ∙ ap (λ x. take at events ++ x ∷ []) (sym c.event-item.is) in
    record {
      clean = λ clean. c.loop-event.invariant.clean (c.serve-answer.ensures.clean clean);
      calls =
          subst (λ xs. AreCalls g.S.Store c.args.office.now c.serve-answer.new.office xs c.push.new.self.items) (sym front)
          (subst (λ xs. AreCalls g.S.Store c.args.office.now c.serve-answer.new.office (take at events ++ c.event-item.result ∷ []) xs) (sym c.in_ok-push.ensures.items)
          (calls_more g.S.Store c.args.office.now c.loop-event.office c.serve-answer.new.office (take at events) answers c.event-item.result c.serve-answer.result c.loop-event.invariant.calls
          (record { clean = c.serve-answer.ensures.clean; served = c.serve-answer.ensures.served })));
      room = le_trans c.loop-event.invariant.room c.in_ok-push.ensures.capacity;
      long = search rules;
    }

pub returns-clause-between : goal.returns-clause-between
returns-clause-between g c db late standing clean =
    let answers = c.loop-event.answers.items in
    let all = take_all c.loop-event.event-index c.args.events.now c.loop-event-test.false in
    passed g.S.Store c.args.office.now c.loop-event.office db late c.args.events.now answers c.rows_are_isolated.ensures
    (subst (λ xs. AreCalls g.S.Store c.args.office.now c.loop-event.office xs answers) all c.loop-event.invariant.calls) standing clean

pub returns-clause-run : goal.returns-clause-run
returns-clause-run g c db late standing clean = (returns-clause-between g c db late standing clean).run
