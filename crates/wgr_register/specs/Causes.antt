-- Why a request or an order ends with a fault.
use Rattle.std.specs.Prelude.{◌≡◌, ℕ, false, Option, Some, None, Result, Ok, Err}
use Rattle.std.specs.declared.vec.Vec.{Vec}
use Rattle.std.specs.declared.alloc.Global.{Global}
use Rattle.wgr_core.specs.declared.change.Change.{Change}
use Rattle.wgr_core.specs.declared.command.Command.{Command}
use Rattle.wgr_core.specs.declared.reply.Reply.{Reply}
use Rattle.wgr_core.specs.Change.{Meets}
use Rattle.wgr_core.specs.Network.{NetworkValue}
use Rattle.wgr_core.specs.Outcome.{is_reading, outcome_of}
use Rattle.wgr_model.specs.Register.{Bytes}
use Rattle.wgr_model.specs.RowLaws.{IsRowStep}
use Rattle.wgr_model.specs.Rows.{Tables}
use Rattle.wgr_model.specs.Steps.{Event}
use Rattle.wgr_model.specs.Steps as answered
use Rattle.wgr_entries.specs.Stops.{WriteStops}
use Rattle.wgr_sql.specs.declared.fault.Fault.{Fault}
use Rattle.wgr_tables.specs.Stops.{ChangeStops}
use Rattle.wgr_tables.specs.Writes.{Changes, Written}
use Rattle.wgr_register.specs.Ends.{IsFound}
use Rattle.wgr_register.specs.declared.fault.AskFault.{AskFault}
use Rattle.wgr_register.specs.declared.fault.AskFault.TheVariants as fault
use Rattle.wgr_register.specs.declared.fault.Done.{Done}
use Rattle.wgr_register.specs.declared.fault.OrderFault.{OrderFault}
use Rattle.wgr_register.specs.declared.fault.OrderFault.TheVariants as order_fault

-- this holds for the fault with which a request ended, if it ended with one
abbrev pub IfFault : (Fault → Type 0) → Result (Vec ℕ Global) AskFault → Type 0
IfFault P (Ok text) = Unit {0}
IfFault P (Err (fault.Refused why)) = Unit {0}
IfFault P (Err fault.UnknownToken) = Unit {0}
IfFault P (Err fault.ReadOnly) = Unit {0}
IfFault P (Err fault.NoSuchNetwork) = Unit {0}
IfFault P (Err (fault.Fault why)) = P why

-- the change of the network of this id, if there is one, isn't written on these rows
abbrev pub StopsIf : ℕ → Option Change → Tables → Type 0
StopsIf id None t = ⊥
StopsIf id (Some change) t = ChangeStops id change t

-- A command that changes the network that it names isn't done on these rows: the database refuses a
-- statement of its change.
pub record AskStops (t : Tables) (digest name : Bytes) (now : ℕ) (command : Command) : Type 0 where
  pub changes : is_reading command ≡ false
  pub id : ℕ
  pub network : NetworkValue
  pub found : IsFound t digest name command id network
  pub reply : Reply
  pub change : Change
  pub made : Meets network (Ok (reply, Some change)) (outcome_of network now command)
  pub stops : ChangeStops id change t

-- ---- orders

-- this holds for the fault with which an order ended, if it ended with one
abbrev pub IfOrderFault : (Fault → Type 0) → Result Done OrderFault → Type 0
IfOrderFault P (Ok done) = Unit {0}
IfOrderFault P (Err (order_fault.Refused why)) = Unit {0}
IfOrderFault P (Err (order_fault.Fault why)) = P why

-- An order that the register's rules allow isn't done on these rows: the database refuses a statement
-- of a write that would do it.
pub record OrderStops (t : Tables) (event : Event) : Type 0 where
  pub write : Written
  pub does : (u : Tables) → Changes write t u → IsRowStep t event answered.Done u
  pub stops : WriteStops write t
