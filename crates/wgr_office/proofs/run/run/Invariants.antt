use Rattle.std.proofs.Common.{◌≡◌, ◌≤◌, length, take}
use Rattle.std.specs.Prelude.{vec_capacity}
use Rattle.sqlite.specs.Held.{state}
use Rattle.sqlite.specs.State.{HasCleanDisk}
use Rattle.wgr_office.specs.Between.{AreCalls}
use Rattle.wgr_office.proofs.run.run.Given as goal

-- the events so far have been served, and there is room for all answers
abbrev pub invariant-loop-event : goal.invariant-loop-event
invariant-loop-event g l = record {
  clean : HasCleanDisk (state g.S.Store l.office) → HasCleanDisk (state g.S.Store l.fn.office);
  calls : AreCalls g.S.Store l.fn.office l.office (take l.event-index l.events) l.answers.items;
  room : length l.events ≤ vec_capacity l.answers;
  long : length l.answers.items ≡ l.event-index;
}
