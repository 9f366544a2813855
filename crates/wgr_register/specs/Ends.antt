-- How a call leaves a register.
use Rattle.std.specs.Prelude.{◌≡◌, ℕ, Bool, true, false, not, List, [], ◌∷◌, Option, Some, None, Result, Ok, Err}
use Rattle.std.specs.declared.vec.Vec.{Vec}
use Rattle.std.specs.declared.alloc.Global.{Global}
use Rattle.sqlite.specs.Effect.{Database}
use Rattle.sqlite.specs.State.{HasCleanDisk}
use Rattle.sqlite.specs.Store.{Ghosts}
use Rattle.sqlite.specs.Held.{Held, state}
use Rattle.wgr_core.specs.Change.{applied}
use Rattle.wgr_core.specs.Network.{NetworkValue}
use Rattle.wgr_core.specs.Outcome.{is_reading}
use Rattle.wgr_core.specs.Refusals.{of_command}
use Rattle.wgr_core.specs.declared.change.Change.{Change}
use Rattle.wgr_core.specs.declared.command.Command.{Command}
use Rattle.wgr_core.specs.declared.fault.ActFault.{ActFault}
use Rattle.wgr_core.specs.declared.fault.ActFault.TheVariants as act_fault
use Rattle.wgr_orders.specs.Orders.{IsAdmitted, refusal_of}
use Rattle.wgr_model.specs.Laws.{Has}
use Rattle.wgr_model.specs.Register.{Bytes, Register, right_of}
use Rattle.wgr_model.specs.RowLaws.{IsRowStep}
use Rattle.wgr_model.specs.Rows.{NetworkRow, Tables, network_entry_of}
use Rattle.wgr_model.specs.Steps.{Answer, Ask, Declined, Event, NoSuchNetwork, ReadOnly, Replied, Settings, UnknownToken, allows, tenant_of_token}
use Rattle.wgr_model.specs.Steps as answered
use Rattle.wgr_sql.specs.declared.fault.Fault.TheVariants.{NoMemory}
use Rattle.wgr_columns.specs.Decode.{tables_of}
use Rattle.wgr_rows.specs.declared.fault.RowFault.{RowFault}
use Rattle.wgr_rows.specs.declared.fault.RowFault.TheVariants as on_rows
use Rattle.wgr_tables.specs.Standing.{IsDone, Stands}
use Rattle.wgr_tables.specs.Writes.{Replaced, Written}
use Rattle.wgr_register.specs.Given.{GivenValue, ShowsAnswer}
use Rattle.wgr_register.specs.Standing.{StandsAt}
use Rattle.wgr_register.specs.declared.fault.AskFault.{AskFault}
use Rattle.wgr_register.specs.declared.fault.AskFault.TheVariants as fault
use Rattle.wgr_register.specs.declared.fault.Done.{Done}
use Rattle.wgr_register.specs.declared.fault.OrderFault.{OrderFault}
use Rattle.wgr_register.specs.declared.fault.OrderFault.TheVariants as order_fault

-- whether a change was done: by an order, or by a command that isn't read-only
abbrev pub is_change : Answer → Event → Bool
is_change (Replied reply network) (Ask digest name now command) = not (is_reading command)
is_change answered.Done event = true
is_change answer event = false

-- A change that is done is acknowledged, so no event is late any more; else all is as it was.
abbrev pub StandsAfter : {S : Type 0} → Ghosts S → Held S → Bool → Database → List Event → Database → Type 0
StandsAfter g conn true db late next = StandsAt g conn next []
StandsAfter g conn false db late next = (next ≡ db) × StandsAt g conn db late

-- the event is a step with an answer like this
abbrev pub EndsWith : {S : Type 0} → Ghosts S → Held S → Database → List Event → Event → (Answer → Type 0) → Type 0
EndsWith g conn db late event P = HasCleanDisk (state g conn) → (answer : Answer) × P answer × (next : Database) × IsRowStep (tables_of db) event answer (tables_of next) × StandsAfter g conn (is_change answer event) db late next

-- the event is a step with this answer that leaves every row, and all is as it was
abbrev pub EndsStill : {S : Type 0} → Ghosts S → Held S → Database → List Event → Event → Answer → Type 0
EndsStill g conn db late event answer = StandsAt g conn db late × (HasCleanDisk (state g conn) → IsRowStep (tables_of db) event answer (tables_of db))

-- the event was answered by a fault: the rows are as they were, and a stop may leave it done
abbrev pub EndsLate : {S : Type 0} → Ghosts S → Held S → Database → List Event → Event → Type 0
EndsLate g conn db late event = StandsAt g conn db (event ∷ late)

-- how a request ends: with a text that shows its answer, with a refusal, or with a fault
abbrev pub AskEnds : {S : Type 0} → Ghosts S → (GivenValue → Bytes) → Held S → Database → List Event → Event → ℕ → Result (Vec ℕ Global) AskFault → Type 0
AskEnds g shown conn db late event now (Ok text) = EndsWith g conn db late event (ShowsAnswer shown now text.items)
AskEnds g shown conn db late event now (Err (fault.Refused why)) = EndsStill g conn db late event (Declined why)
AskEnds g shown conn db late event now (Err fault.UnknownToken) = EndsStill g conn db late event UnknownToken
AskEnds g shown conn db late event now (Err fault.ReadOnly) = EndsStill g conn db late event ReadOnly
AskEnds g shown conn db late event now (Err fault.NoSuchNetwork) = EndsStill g conn db late event NoSuchNetwork
AskEnds g shown conn db late event now (Err (fault.Fault why)) = EndsLate g conn db late event

-- how an order ends: done, refused, or with a fault
abbrev pub OrderEnds : {S : Type 0} → Ghosts S → Held S → Database → List Event → Event → Result Done OrderFault → Type 0
OrderEnds g conn db late event (Ok done) = EndsWith g conn db late event (λ answer. answer ≡ answered.Done)
OrderEnds g conn db late event (Err (order_fault.Refused why)) = EndsStill g conn db late event (answered.Refused (refusal_of why))
OrderEnds g conn db late event (Err (order_fault.Fault why)) = EndsLate g conn db late event

-- a new network passes the checks against these and has an id that no other has, or it is refused
abbrev pub AdmitsNetwork : Register → ℕ → Bytes → Settings → Result ℕ OrderFault → Type 0
AdmitsNetwork r tenant name settings (Ok new) = IsAdmitted r tenant name settings (Ok new)
AdmitsNetwork r tenant name settings (Err (order_fault.Refused why)) = IsAdmitted r tenant name settings (Err why)
AdmitsNetwork r tenant name settings (Err (order_fault.Fault why)) = why ≡ NoMemory

-- why a command isn't done, as a fault of a request
abbrev pub ask_fault : ActFault → AskFault
ask_fault (act_fault.Refused why) = fault.Refused why
ask_fault act_fault.NoMemory = fault.Fault NoMemory

abbrev pub row_fault : RowFault → AskFault
row_fault (on_rows.Refused why) = fault.Refused (of_command why)
row_fault (on_rows.Fault why) = fault.Fault why

-- the change, if there is one, is committed
abbrev pub CommitsIf : {S : Type 0} → Ghosts S → Held S → Database → List Written → ℕ → NetworkValue → Option Change → Type 0
CommitsIf g conn db pending id network None = Stands g conn db pending
CommitsIf g conn db pending id network (Some change) = IsDone g conn db (Replaced id (applied change network))

-- or a stop may leave it
abbrev pub FailsIf : {S : Type 0} → Ghosts S → Held S → Database → List Written → ℕ → NetworkValue → Option Change → Type 0
FailsIf g conn db pending id network None = ⊥
FailsIf g conn db pending id network (Some change) = Stands g conn db (Replaced id (applied change network) ∷ pending)

-- the network of this name that the tenant of the token has, and the id of its row; the token may ask the
-- command
pub record IsFound (t : Tables) (digest name : Bytes) (command : Command) (id : ℕ) (network : NetworkValue) : Type 0 where
  pub row : NetworkRow
  pub there : Has t.networks row
  pub tenant : tenant_of_token t.tokens digest ≡ Some row.tenant
  pub allowed : allows (right_of t.readers digest) command ≡ true
  pub named : row.name ≡ name
  pub at : row.id ≡ id
  pub value : network ≡ (network_entry_of t row).network
