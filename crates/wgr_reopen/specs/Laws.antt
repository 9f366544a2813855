-- What was acknowledged stays, whatever stop comes then.
use Rattle.std.specs.Prelude.{◌≡◌, ℕ, Bool, true, false, List, Ok}
use Rattle.std.specs.declared.vec.Vec.{Vec}
use Rattle.std.specs.declared.alloc.Global.{Global}
use Rattle.sqlite.specs.Effect.{Database}
use Rattle.sqlite.specs.Held.{Held, state}
use Rattle.sqlite.specs.State.{HasCleanDisk}
use Rattle.sqlite.specs.Store.{Ghosts}
use Rattle.sqlite.specs.Tree.{Trees}
use Rattle.wgr_model.specs.Register.{Bytes}
use Rattle.wgr_model.specs.RowLaws.{IsRowStep}
use Rattle.wgr_model.specs.Steps.{Answer, Event}
use Rattle.wgr_model.specs.Steps as answered
use Rattle.wgr_model.specs.Stops.{IsLeft}
use Rattle.wgr_register.specs.Ends.{AskEnds, OrderEnds, is_change}
use Rattle.wgr_register.specs.Given.{GivenValue, ShowsAnswer}
use Rattle.wgr_register.specs.declared.fault.Done.{Done}
use Rattle.wgr_columns.specs.Decode.{tables_of}
use Rattle.wgr_opening.specs.Good.{IsGood}

-- Whatever a stop leaves is a good register: with the rows after a change that was done, or else with
-- those that a stop would have left before.
abbrev pub KeepsOnStop : {S : Type 0} → Ghosts S → Held S → Bool → Database → List Event → Database → Type 0
KeepsOnStop g conn true db late next = (trees : Trees) → (state g conn).may_leave trees → (left : Database) × IsGood left × (trees ≡ left.trees) × (tables_of left ≡ tables_of next)
KeepsOnStop g conn false db late next = (next ≡ db) × ((trees : Trees) → (state g conn).may_leave trees → (left : Database) × IsGood left × (trees ≡ left.trees) × IsLeft (tables_of db) late (tables_of left))

-- an order that is done
abbrev pub DoneStays : {S : Type 0} → Ghosts S → Held S → Type 0
DoneStays g conn = (db : Database) (late : List Event) (event : Event) → (done : Done) → OrderEnds g conn db late event (Ok done) → HasCleanDisk (state g conn)
    → (next : Database) × IsRowStep (tables_of db) event answered.Done (tables_of next) × KeepsOnStop g conn true db late next

-- a request that is answered
abbrev pub AnsweredStays : {S : Type 0} → Ghosts S → (GivenValue → Bytes) → Held S → Type 0
AnsweredStays g shown conn = (db : Database) (late : List Event) (event : Event) (now : ℕ) (text : Vec ℕ Global) → AskEnds g shown conn db late event now (Ok text) → HasCleanDisk (state g conn)
    → (answer : Answer) × ShowsAnswer shown now text.items answer × (next : Database) × IsRowStep (tables_of db) event answer (tables_of next) × KeepsOnStop g conn (is_change answer event) db late next
