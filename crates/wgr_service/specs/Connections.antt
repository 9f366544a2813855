-- The results of serving connections one after the other.
use Rattle.std.specs.Prelude.{◌≡◌, ◌⊎◌, ◌≤◌, ◌++◌, ℕ, List, [], ◌∷◌, length, map, filter_map, codes, true, false, cond, Bool, MatchBool, Option, Some, None, IfSome, Result, All}
use Rattle.std.specs.List.{filter}
use Rattle.std.specs.declared.vec.Vec.{Vec}
use Rattle.std.specs.declared.alloc.Global.{Global}
use Rattle.std.specs.Io.KnownBytes.{Appends}
use Rattle.sqlite.specs.Effect.{Database}
use Rattle.sqlite.specs.State.{HasCleanDisk}
use Rattle.sqlite.specs.Store.{Ghosts}
use Rattle.sqlite.specs.Held.{Held, state}
use Rattle.wgr_model.specs.Register.{Bytes}
use Rattle.wgr_model.specs.Steps.{Event}
use Rattle.wgr_office.specs.Between.{HasPassed, IsCall, Keeps}
use Rattle.wgr_office.specs.Events.{HasRun}
use Rattle.wgr_http.specs.declared.status_code.StatusCode.{StatusCode}
use Rattle.wgr_office.specs.Serving.{AsksAll, Ends, is_available, written_reply, status_of}
use Rattle.wgr_office.specs.declared.answer.Answer as given
use Rattle.wgr_office.specs.declared.answer.Answer.TheVariants as givens
use Rattle.wgr_office.specs.declared.run.Event as event
use Rattle.wgr_office.specs.declared.run.Event.TheVariants as events
use Rattle.wgr_orders.specs.declared.order.Order.{Order}
use Rattle.wgr_register.specs.Standing.{StandsAt}
use Rattle.wgr_register.specs.declared.fault.Done.{Done}
use Rattle.wgr_register.specs.declared.fault.OrderFault.{OrderFault}
use Rattle.wgr_words.specs.Reading.{ReadingAsked}
use Rattle.wgr_words.specs.declared.line.LineFault.{LineFault}
use Rattle.wgr_io.specs.Device.{IsCut}
use Rattle.wgr_service.specs.Counts.{counted_if}
use Rattle.wgr_service.specs.Lines.{HasOrdered, SpellsFirst, SpellsNone, ended_text, fault_text, is_read, order_answer}
use Rattle.wgr_service.specs.Network as network
use Rattle.wgr_service.specs.Readings.{HasReadRows, SpellsFirstReading, is_reading_available, reading_text}
use Rattle.wgr_service.specs.declared.connections.Ending.{Ending}
use Rattle.wgr_service.specs.declared.connections.Ending.TheVariants as ending
use Rattle.wgr_service.specs.declared.desk.Replies.{Replies}
use Rattle.wgr_service.specs.declared.network.Door.{Door}
use Rattle.wgr_service.specs.declared.network.Door.TheVariants as door
use Rattle.wgr_service.specs.declared.readings.ReadingEnd.{ReadingEnd}
use Rattle.wgr_service.specs.declared.report.Report.{Report}
use Rattle.wgr_service.specs.declared.report.Report.TheVariants as report

-- ---- one connection

-- a message, the moment at which it arrived (seconds since 1970-01-01), and its answer; or an order, and its result
pub data Exchange : Type 0 where
  Asked : (now : ℕ) (message : Vec ℕ Global) (answer : given.Answer) → Exchange
  Ordered : (order : Order) (ended : Result Done OrderFault) → Exchange

abbrev pub asked_event : Exchange → event.Event
asked_event (Asked now message answer) = events.Ask now message
asked_event (Ordered order ended) = events.Order order

abbrev pub given_answer : Exchange → given.Answer
given_answer (Asked now message answer) = answer
given_answer (Ordered order ended) = order_answer ended

-- the bytes that answer it
abbrev pub written_of : Exchange → Bytes
written_of (Asked now message answer) = written_reply answer
written_of (Ordered order ended) = ended_text ended

-- An accepted connection: where it came, the clock's time then, what was still to be read from it, what had been written
-- to it when it was accepted and when it was ended, and whether a read and a write had failed by then. Bytes are given
-- where known.
pub record Meeting : Type 0 where
  pub door : Door
  pub clock : Option ℕ
  pub input : Option Bytes
  pub before : Option Bytes
  pub after : Option Bytes
  pub read_failed : Bool
  pub write_failed : Bool

-- a message or an order was answered and its answer written; it was answered, but writing that failed; a reading was
-- answered; a line spelled neither an order nor a reading, and nothing was done; nothing was done or written; or the
-- connection could not be accepted
pub data ConnectionEnd : Type 0 where
  answered : Meeting → Exchange → ConnectionEnd
  cut : Meeting → Exchange → ConnectionEnd
  shown : Meeting → ReadingAsked → ReadingEnd → ConnectionEnd
  unspelled : Meeting → LineFault → ConnectionEnd
  failed : Meeting → ConnectionEnd
  missed : Door → ConnectionEnd

abbrev pub exchange_of : ConnectionEnd → Option Exchange
exchange_of (answered m x) = Some x
exchange_of (cut m x) = Some x
exchange_of other = None

-- where the connection came
abbrev pub door_of : ConnectionEnd → Door
door_of (answered m x) = m.door
door_of (cut m x) = m.door
door_of (shown m asked end) = m.door
door_of (unspelled m why) = m.door
door_of (failed m) = m.door
door_of (missed at) = at

-- what is written to standard error for a connection that failed
abbrev pub failure_line : Door → Bytes
failure_line door.Requests = codes "wgr: connection\n"
failure_line door.Orders = codes "wgr: order\n"

-- or for one that was answered Unavailable
abbrev pub unavailable_line : Bytes
unavailable_line = codes "wgr: unavailable\n"

-- what is written to standard error for it
abbrev pub line_of : ConnectionEnd → Bytes
line_of (answered m x) = cond (is_available (given_answer x)) [] unavailable_line
line_of (cut m x) = failure_line m.door
line_of (shown m asked end) = cond m.write_failed (failure_line m.door) (cond (is_reading_available end) [] unavailable_line)
line_of (unspelled m why) = cond m.write_failed (failure_line m.door) (cond (is_read why) [] unavailable_line)
line_of (failed m) = failure_line m.door
line_of (missed at) = failure_line at

-- what is added to the network's log
abbrev pub met : Meeting → List network.Contact
met m = network.came m.door m.clock m.input m.before ∷ network.ended m.after m.read_failed m.write_failed ∷ []

abbrev pub contacts_of : ConnectionEnd → List network.Contact
contacts_of (answered m x) = met m
contacts_of (cut m x) = met m
contacts_of (shown m asked end) = met m
contacts_of (unspelled m why) = met m
contacts_of (failed m) = met m
contacts_of (missed at) = network.missed at ∷ []

-- the given moment, if any, or else the clock's
abbrev pub served_moment : Option ℕ → Option ℕ → Option ℕ
served_moment None clock = clock
served_moment (Some now) clock = Some now

-- The message was answered at the connection's moment. It is what the bytes received begin with, and asks what all of them
-- ask, unless it is answered Unavailable. The order is that of the first line received.
abbrev pub Suits : Option ℕ → Meeting → Exchange → Type 0
Suits now m (Asked moment message answer) = (m.door ≡ door.Requests) × (served_moment now m.clock ≡ Some moment) × AsksAll message.items m.input answer
Suits now m (Ordered order ended) = (m.door ≡ door.Orders) × IfSome m.input (λ all. SpellsFirst all order)

-- The answer was written, or only its first bytes if a write failed. A connection `failed` with nothing written only if
-- a read failed or, for a request, there was no moment.
abbrev pub IsConnectionServed : Option ℕ → ConnectionEnd → Type 0
IsConnectionServed now (answered m x) = Suits now m x × Appends m.before m.after (written_of x) × (m.read_failed ≡ false) × (m.write_failed ≡ false)
IsConnectionServed now (cut m x) = Suits now m x × IsCut m.before m.after (written_of x) × (m.read_failed ≡ false) × (m.write_failed ≡ true)
IsConnectionServed now (shown m asked end) =
    (m.door ≡ door.Orders) × IfSome m.input (λ all. SpellsFirstReading all asked) × MatchBool m.write_failed (IsCut m.before m.after (reading_text end)) (Appends m.before m.after (reading_text end)) × (m.read_failed ≡ false)
IsConnectionServed now (unspelled m why) =
    (m.door ≡ door.Orders) × IfSome m.input (λ all. SpellsNone all why) × MatchBool m.write_failed (IsCut m.before m.after (fault_text why)) (Appends m.before m.after (fault_text why)) × (m.read_failed ≡ false)
IsConnectionServed now (failed m) = (m.after ≡ m.before) × (m.write_failed ≡ false) × ((m.read_failed ≡ true) ⊎ ((m.door ≡ door.Requests) × (served_moment now m.clock ≡ None)))
IsConnectionServed now (missed at) = Unit {0}

-- an order was done or refused by then, or it failed with a cause, and the rows were kept since
abbrev pub HasEndedBy : {S : Type 0} → Ghosts S → Held S → Held S → Exchange → Type 0
HasEndedBy g old new (Asked moment message answer) = Unit {0}
HasEndedBy {S} g old new (Ordered order ended) = (mid : Held S) × HasOrdered g old mid order ended × Keeps g mid new

-- one message or order was answered, whatever the rows of the register were; a reading kept them; or nothing was done
abbrev pub Moves : {S : Type 0} → Ghosts S → Held S → Held S → ConnectionEnd → Type 0
Moves g old new (answered m x) = IsCall g old new (asked_event x) (given_answer x) × HasEndedBy g old new x
Moves g old new (cut m x) = IsCall g old new (asked_event x) (given_answer x) × HasEndedBy g old new x
Moves g old new (shown m asked end) = HasReadRows g old new asked end
Moves g old new other = new ≡ old

abbrev pub HasOutcome : {S : Type 0} → Ghosts S → Held S → Held S → Option ℕ → ConnectionEnd → Type 0
HasOutcome g old new now outcome = IsConnectionServed now outcome × Moves g old new outcome

-- it was answered Unavailable
abbrev pub IsUnavailable : ConnectionEnd → Type 0
IsUnavailable (answered m x) = given_answer x ≡ givens.Unavailable
IsUnavailable (shown m asked end) = (m.write_failed ≡ false) × (is_reading_available end ≡ false)
IsUnavailable (unspelled m why) = (m.write_failed ≡ false) × (is_read why ≡ false)
IsUnavailable other = ⊥

-- which outcome is reported as
abbrev pub Reports : Report → ConnectionEnd → Type 0
Reports report.Fine (answered m x) = is_available (given_answer x) ≡ true
Reports report.Fine (shown m asked end) = (m.write_failed ≡ false) × (is_reading_available end ≡ true)
Reports report.Fine (unspelled m why) = (m.write_failed ≡ false) × (is_read why ≡ true)
Reports report.Failed (cut m x) = Unit {0}
Reports report.Failed (shown m asked end) = m.write_failed ≡ true
Reports report.Failed (unspelled m why) = m.write_failed ≡ true
Reports report.Failed (failed m) = Unit {0}
Reports report.Failed (missed at) = Unit {0}
Reports report.Unavailable outcome = IsUnavailable outcome
Reports report.Shut outcome = IsUnavailable outcome
Reports other outcome = ⊥

-- the status under which the desk counts it: that of a reply that was written
abbrev pub status_in : ConnectionEnd → Option StatusCode
status_in (answered m (Asked now message answer)) = status_of answer
status_in other = None

-- ---- one connection, by its reader and its writer

-- the states of a reader and a writer
abbrev pub ends_of : {R W : Type 0} → (R → Option Bytes) → (R → Bool) → (W → Option Bytes) → (W → Bool) → R → W → Ends
ends_of remaining read_failed contents write_failed input out = record { input = remaining input; read_failed = read_failed input; written = contents out; write_failed = write_failed out }

-- the connection that came here, when the clock gave this, with these states before and after it was served
abbrev pub meeting_of : Door → Option ℕ → Ends → Ends → Meeting
meeting_of door clock before after =
    record { door = door; clock = clock; input = before.input; before = before.written; after = after.written; read_failed = after.read_failed; write_failed = after.write_failed }

-- it had an outcome, and this report, and the outcome led from the replies counted before to those counted now
abbrev pub HasMet : {S : Type 0} → Ghosts S → Held S → Held S → Option ℕ → Replies → Replies → Meeting → Report → Type 0
HasMet g old new now before after m report =
    (outcome : ConnectionEnd) × HasOutcome g old new now outcome × (door_of outcome ≡ m.door) × Reports report outcome × (contacts_of outcome ≡ met m) × (after ≡ counted_if (status_in outcome) before)

-- neither the reader nor the writer had failed
abbrev pub AreUnharmed : Ends → Type 0
AreUnharmed ends = (ends.read_failed ≡ false) × (ends.write_failed ≡ false)

-- ---- all of them

-- those in which a message or an order was answered
abbrev pub exchanges : List ConnectionEnd → List Exchange
exchanges outcomes = filter_map exchange_of outcomes

abbrev pub is_request_at : Door → Bool
is_request_at door.Requests = true
is_request_at door.Orders = false

-- how many of them are no orders' connections
abbrev pub requests_in : List ConnectionEnd → ℕ
requests_in outcomes = length (filter (λ outcome. is_request_at (door_of outcome)) outcomes)

-- how much a connection adds to that
abbrev pub weight : Door → ℕ
weight at = cond (is_request_at at) 1 0

-- the replies counted after them
abbrev pub counted_all : List ConnectionEnd → Replies → Replies
counted_all [] replies = replies
counted_all (outcome ∷ outcomes) replies = counted_all outcomes (counted_if (status_in outcome) replies)

-- each in turn moved the register
abbrev pub HaveMoved : {S : Type 0} → Ghosts S → Held S → Held S → List ConnectionEnd → Type 0
HaveMoved g old new [] = new ≡ old
HaveMoved {S} g old new (outcome ∷ outcomes) = (mid : Held S) × Moves g old mid outcome × HaveMoved g mid new outcomes

-- the list of these messages and orders, each message at its moment, was run, with these answers
abbrev pub HasServed : {S : Type 0} → Ghosts S → Held S → Database → List Event → List Exchange → Type 0
HasServed g conn db late xs = HasRun g conn db late (map asked_event xs) (map given_answer xs)

-- `count` of the connections were requests'; or it ended earlier, after an answer that was Unavailable
abbrev pub HasCounted : Ending → ℕ → List ConnectionEnd → Type 0
HasCounted ending.Served count outcomes = requests_in outcomes ≡ count
HasCounted ending.Shut count outcomes = (requests_in outcomes ≤ count) × ((earlier : List ConnectionEnd) × (last : ConnectionEnd) × (outcomes ≡ earlier ++ last ∷ []) × IsUnavailable last)

-- `count` requests' connections were served, and the orders' that came, each with one outcome: the register handled the
-- answered messages and orders like a list of events, and between any two of them it was at some rows. Readings kept
-- the rows, of which they showed what they did; those that came before the first event led to `start`.
pub record AreConnectionsServed {S : Type 0} (g : Ghosts S) (old new : Held S) (now : Option ℕ) (count : ℕ) (ended : Ending) (outcomes : List ConnectionEnd) : Type 0 where
  pub each : HasCounted ended count outcomes
  pub served : All (IsConnectionServed now) outcomes
  pub moved : HaveMoved g old new outcomes
  pub run : (db : Database) (late : List Event) → StandsAt g old db late → HasCleanDisk (state g new) → HasServed g new db late (exchanges outcomes)
  pub start : Held S
  pub kept : Keeps g old start
  pub between : (db : Database) (late : List Event) → StandsAt g start db late → HasCleanDisk (state g new) → HasPassed g start new db late (map asked_event (exchanges outcomes)) (map given_answer (exchanges outcomes))

-- where no write failed, these bytes were written
abbrev pub IsAppended : Bool → Option Bytes → Option Bytes → Bytes → Type 0
IsAppended is_failed before after bytes = is_failed ≡ false → Appends before after bytes
