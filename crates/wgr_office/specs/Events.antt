-- Lists of events, and the results of running them, in terms of the model.
use Rattle.std.specs.Prelude.{◌≡◌, ◌⊎◌, Bool, true, false, List, [], ◌∷◌, Option, Some, None, Result, Ok, Err, ⊤}
use Rattle.sqlite.specs.Effect.{Database}
use Rattle.sqlite.specs.Store.{Ghosts}
use Rattle.sqlite.specs.Held.{Held}
use Rattle.wgr_orders.specs.Orders.{order_event, refusal_of}
use Rattle.wgr_model.specs.Register.{Bytes}
use Rattle.wgr_model.specs.RowLaws.{HasOneRow, IsRowRun, IsRowStep, rows_view}
use Rattle.wgr_model.specs.Rows.{Tables}
use Rattle.wgr_model.specs.Runs.{AreProper, Served, acknowledged}
use Rattle.wgr_model.specs.Steps.{Answer, Decided, Done, Event, IsProper, Refused}
use Rattle.wgr_model.specs.Tenants.{tenant_run}
use Rattle.wgr_office.specs.Pages.{answer_bytes, event_of}
use Rattle.wgr_office.specs.declared.answer.Answer as given
use Rattle.wgr_office.specs.declared.answer.Answer.TheVariants as givens
use Rattle.wgr_office.specs.declared.run.Event as event
use Rattle.wgr_office.specs.declared.run.Event.TheVariants as events
use Rattle.wgr_register.specs.Ends.{is_change}
use Rattle.wgr_register.specs.Standing.{StandsAt}
use Rattle.wgr_register.specs.declared.fault.Done as done
use Rattle.wgr_register.specs.declared.fault.OrderFault.{OrderFault}
use Rattle.wgr_register.specs.declared.fault.OrderFault.TheVariants as order_fault
use Rattle.wgr_reply.specs.StatusLine.{IsReply}
use Rattle.wgr_request.specs.Request.{RequestView, Requests}
use Rattle.wgr_columns.specs.Decode.{tables_of}

-- ---- events and answers

-- a request that could not be read for lack of memory asks nothing
abbrev pub unread : Event
unread = Decided None []

-- the answer is the model's: to a request a reply with its bytes, to an order an order's answer
abbrev pub IsAnswerTo : event.Event → given.Answer → Answer → Type 0
IsAnswerTo (events.Ask now bytes) (givens.Reply reply) answer = IsReply reply (answer_bytes now answer)
IsAnswerTo (events.Order order) (givens.Order (Ok done)) answer = answer ≡ Done
IsAnswerTo (events.Order order) (givens.Order (Err why)) answer = answer ≡ Refused (refusal_of why)
IsAnswerTo event given answer = ⊥

-- the event is that of the bytes, or of the order; it has an answer, or is answered Unavailable
abbrev pub Serves : event.Event → given.Answer → Event → Option Answer → Type 0
Serves (events.Ask now bytes) givens.Unavailable e None = (e ≡ unread) ⊎ ((r : RequestView) × Requests bytes.items r × (e ≡ event_of now r))
Serves (events.Ask now bytes) given e (Some answer) = (r : RequestView) × Requests bytes.items r × (e ≡ event_of now r) × IsAnswerTo (events.Ask now bytes) given answer
Serves (events.Order order) givens.Unavailable e None = e ≡ order_event order
Serves (events.Order order) given e (Some answer) = (e ≡ order_event order) × IsAnswerTo (events.Order order) given answer
Serves event given e answer = ⊥

-- one answer for each event
abbrev pub HaveAnswers : List event.Event → List given.Answer → List Served → Type 0
HaveAnswers [] [] [] = ⊤
HaveAnswers (event ∷ events) (given ∷ answers) (s ∷ served) = Serves event given s.0 s.1 × HaveAnswers events answers served
HaveAnswers events answers served = ⊥

-- ---- the rows after each event

-- after a change that was done nothing is late; after anything else all is unchanged
abbrev pub Settles : Bool → Database → List Event → Database → List Event → Type 0
Settles true db late next left = left ≡ []
Settles false db late next left = (next ≡ db) × (left ≡ late)

-- From the rows of one database to those of another by an event. `late` and `left` are the events that a stop
-- may leave done: those answered Unavailable since the last acknowledged event that changed a row.
abbrev pub Goes : Database → List Event → Event → Option Answer → Database → List Event → Type 0
Goes db late e None next left = (next ≡ db) × ((left ≡ late) ⊎ (left ≡ e ∷ late))
Goes db late e (Some answer) next left = IsRowStep (tables_of db) e answer (tables_of next) × Settles (is_change answer e) db late next left

-- and by all events in order
abbrev pub GoesAll : Database → List Event → List Served → Database → List Event → Type 0
GoesAll db late [] next left = (next ≡ db) × (left ≡ late)
GoesAll db late (s ∷ served) next left = (mid : Database) × (between : List Event) × Goes db late s.0 s.1 mid between × GoesAll mid between served next left

-- one event was served by a register that was at these rows
pub record IsEventServed {S : Type 0} (g : Ghosts S) (conn : Held S) (db : Database) (late : List Event) (event : event.Event) (given : given.Answer) : Type 0 where
  pub e : Event
  pub answer : Option Answer
  pub serves : Serves event given e answer
  pub proper : IsProper e
  pub next : Database
  pub left : List Event
  pub goes : Goes db late e answer next left
  pub stands : StandsAt g conn next left

-- these events were served in turn, one answer for each
pub record HaveBeenServed {S : Type 0} (g : Ghosts S) (conn : Held S) (db : Database) (late : List Event) (asked : List event.Event) (answers : List given.Answer) : Type 0 where
  pub served : List Served
  pub reported : HaveAnswers asked answers served
  pub proper : AreProper served
  pub next : Database
  pub left : List Event
  pub goes : GoesAll db late served next left
  pub stands : StandsAt g conn next left

-- ---- the main theorem

-- the answer on a tenant's own rows alone is the one that was returned: for a request, byte for byte
abbrev pub IsAnswerIfAny : event.Event → given.Answer → Option Answer → Type 0
IsAnswerIfAny event given None = ⊤
IsAnswerIfAny event given (Some answer) = IsAnswerTo event given answer

-- the same at each place of the list, except those answered Unavailable
abbrev pub AgreeAsGiven : List event.Event → List given.Answer → List (Option Answer) → Type 0
AgreeAsGiven [] [] [] = ⊤
AgreeAsGiven (event ∷ events) (givens.Unavailable ∷ answers) alone = AgreeAsGiven events answers alone
AgreeAsGiven (event ∷ events) (given ∷ answers) (a ∷ alone) = IsAnswerIfAny event given a × AgreeAsGiven events answers alone
AgreeAsGiven events answers alone = ⊥

-- For every tenant, the answers to its requests and its rows at the end are those that its own
-- requests and the accepted orders about it give on its own rows alone, leaving out requests answered
-- Unavailable; and no two peers, in any networks, have the same address.
pub record AreServedApart (rows : Tables) (asked : List event.Event) (answers : List given.Answer) (served : List Served) (after : Tables) : Type 0 where
  pub answered : (tenant : Bytes) → AgreeAsGiven asked answers (tenant_run tenant (rows_view rows tenant) (acknowledged served)).0
  pub views : (tenant : Bytes) → (tenant_run tenant (rows_view rows tenant) (acknowledged served)).1 ≡ rows_view after tenant
  pub holders : HasOneRow after

-- A run of the events on a register that was at these rows: one answer for each event, a chain of
-- steps from rows to rows, each tenant isolated, and the rows of the register after it.
pub record HasRun {S : Type 0} (g : Ghosts S) (conn : Held S) (db : Database) (late : List Event) (asked : List event.Event) (answers : List given.Answer) : Type 0 where
  pub all : HaveBeenServed g conn db late asked answers
  pub run : IsRowRun (tables_of db) all.served (tables_of all.next)
  pub apart : AreServedApart (tables_of db) asked answers all.served (tables_of all.next)

-- the answer for the result of an order
abbrev pub IsOrderAnswer : Result done.Done OrderFault → given.Answer → Type 0
IsOrderAnswer (Ok done) given = given ≡ givens.Order (Ok done)
IsOrderAnswer (Err (order_fault.Refused why)) given = given ≡ givens.Order (Err why)
IsOrderAnswer (Err (order_fault.Fault why)) given = given ≡ givens.Unavailable
