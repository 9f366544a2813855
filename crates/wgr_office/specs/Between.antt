-- A run of events, with the connection after each of them, and what a stop there leaves.
use Rattle.std.specs.Prelude.{◌≡◌, ◌≤◌, ℕ, List, [], ◌∷◌, length, take, drop}
use Rattle.sqlite.specs.Effect.{Database}
use Rattle.sqlite.specs.State.{HasCleanDisk}
use Rattle.sqlite.specs.Store.{Ghosts}
use Rattle.sqlite.specs.Held.{Held, state}
use Rattle.sqlite.specs.Tree.{Trees}
use Rattle.wgr_model.specs.Runs.{Served}
use Rattle.wgr_model.specs.Steps.{Event}
use Rattle.wgr_office.specs.Events.{Goes, GoesAll, HasRun, IsEventServed, Serves}
use Rattle.wgr_office.specs.declared.answer.Answer as given
use Rattle.wgr_office.specs.declared.run.Event as event
use Rattle.wgr_register.specs.Left.{LeavesRegister}
use Rattle.wgr_register.specs.Standing.{StandsAt}

-- ---- calls

-- What a call that serves one event promises: whatever the rows of the register were, it is then at the rows
-- to which the event led. A disk that is clean then was clean before.
pub record IsCall {S : Type 0} (g : Ghosts S) (old new : Held S) (event : event.Event) (given : given.Answer) : Type 0 where
  pub clean : HasCleanDisk (state g new) → HasCleanDisk (state g old)
  pub served : (db : Database) (late : List Event) → StandsAt g old db late → HasCleanDisk (state g new) → IsEventServed g new db late event given

-- What a call that serves no event promises: the register is at the rows at which it was.
pub record Keeps {S : Type 0} (g : Ghosts S) (old new : Held S) : Type 0 where
  pub clean : HasCleanDisk (state g new) → HasCleanDisk (state g old)
  pub stands : (db : Database) (late : List Event) → StandsAt g old db late → StandsAt g new db late

-- such calls, one for each event, led from one connection to the other
abbrev pub AreCalls : {S : Type 0} → Ghosts S → Held S → Held S → List event.Event → List given.Answer → Type 0
AreCalls g old new [] [] = new ≡ old
AreCalls {S} g old new (event ∷ events) (given ∷ answers) = (mid : Held S) × IsCall g old mid event given × AreCalls g mid new events answers
AreCalls g old new events answers = ⊥

-- ---- the places between them

-- a connection, the database at whose rows the register is, and the events that a stop may leave done
pub record Place (S : Type 0) : Type 0 where
  pub conn : Held S
  pub db : Database
  pub late : List Event

abbrev pub place_at : {S : Type 0} → Held S → Database → List Event → Place S
place_at conn db late = record { conn = conn; db = db; late = late }

-- from one place to the next by one event: by a call that served it, and by its step on the rows
pub record Passes {S : Type 0} (g : Ghosts S) (from to : Place S) (event : event.Event) (given : given.Answer) (s : Served) : Type 0 where
  pub call : IsCall g from.conn to.conn event given
  pub serves : Serves event given s.0 s.1
  pub goes : Goes from.db from.late s.0 s.1 to.db to.late
  pub stands : StandsAt g to.conn to.db to.late
  pub clean : HasCleanDisk (state g to.conn)

-- and by all events in order
abbrev pub PassesAll : {S : Type 0} → Ghosts S → Place S → Place S → List event.Event → List given.Answer → List Served → Type 0
PassesAll g from to [] [] [] = to ≡ from
PassesAll {S} g from to (event ∷ events) (given ∷ answers) (s ∷ served) = (mid : Place S) × Passes g from mid event given s × PassesAll g mid to events answers served
PassesAll g from to events answers served = ⊥

-- a run of the events, and all places between them, from the connection as it was to the connection as it is
pub record HasPassed {S : Type 0} (g : Ghosts S) (old new : Held S) (db : Database) (late : List Event) (asked : List event.Event) (answers : List given.Answer) : Type 0 where
  pub run : HasRun g new db late asked answers
  pub passes : PassesAll g (place_at old db late) (place_at new run.all.next run.all.left) asked answers run.all.served

-- ---- a stop

-- The place after the first k events of a run, to which these led and from which the others continued. Whatever
-- a stop leaves there is a valid register: at the rows after all that was acknowledged so far, or at those
-- that also have one event done that was answered Unavailable since the last acknowledged change.
pub record IsKeptBetween {S : Type 0} (g : Ghosts S) (from to : Place S) (asked : List event.Event) (answers : List given.Answer) (served : List Served) (k : ℕ) : Type 0 where
  pub at : Place S
  pub before : PassesAll g from at (take k asked) (take k answers) (take k served)
  pub after : PassesAll g at to (drop k asked) (drop k answers) (drop k served)
  pub goes : GoesAll from.db from.late (take k served) at.db at.late
  pub stands : StandsAt g at.conn at.db at.late
  pub leaves : (trees : Trees) → (state g at.conn).may_leave trees → LeavesRegister at.db at.late trees

-- between any two events of a run, before the first and after the last
abbrev pub StopsKeepAcknowledged : {S : Type 0} → Ghosts S → Type 0
StopsKeepAcknowledged {S} g = (old new : Held S) (db : Database) (late : List Event) (asked : List event.Event) (answers : List given.Answer)
    → StandsAt g old db late → HasCleanDisk (state g new) → (passed : HasPassed g old new db late asked answers) → (k : ℕ) → k ≤ length asked
    → IsKeptBetween g (place_at old db late) (place_at new passed.run.all.next passed.run.all.left) asked answers passed.run.all.served k
