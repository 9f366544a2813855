use Rattle.std.proofs.Common.{◌≡◌, ◌≤◌, length, take}
use Rattle.std.specs.Prelude.{vec_capacity}
use Rattle.wgr_model.specs.Runs.{AreProper}
use Rattle.wgr_plain.proofs.ServeLemmas.{IsExactRun, served}
use Rattle.wgr_plain.proofs.register.Register.run.Given as goal

-- the events so far are run and of their forms, and there is room for all answers
abbrev pub invariant-loop-event : goal.invariant-loop-event
invariant-loop-event l = record {
  run : IsExactRun l.fn.self (served (take l.event-index l.events) l.answers.items) l.self;
  proper : AreProper (served (take l.event-index l.events) l.answers.items);
  room : length l.events ≤ vec_capacity l.answers;
  long : length l.answers.items ≡ l.event-index;
}
