-- Orders that come as lines: what one does, and how it is answered.
use Rattle.std.specs.Prelude.{◌≡◌, ◌⊎◌, ◌++◌, ℕ, List, Bool, true, false, Option, Some, None, Result, Ok, Err, IfSome, codes}
use Rattle.sqlite.specs.Effect.{Database}
use Rattle.sqlite.specs.Store.{Ghosts}
use Rattle.sqlite.specs.Held.{Held, state}
use Rattle.wgr_model.specs.Register.{Bytes}
use Rattle.wgr_model.specs.Steps.{Event}
use Rattle.wgr_columns.specs.Decode.{tables_of}
use Rattle.wgr_office.specs.Between.{IsCall}
use Rattle.wgr_office.specs.Serving.{is_available}
use Rattle.wgr_office.specs.declared.answer.Answer as given
use Rattle.wgr_office.specs.declared.answer.Answer.TheVariants as givens
use Rattle.wgr_office.specs.declared.run.Event.TheVariants as events
use Rattle.wgr_orders.specs.Orders.{order_event, refusal_of}
use Rattle.wgr_orders.specs.RefusalTexts.{refusal_text}
use Rattle.wgr_orders.specs.declared.order.Order.{Order}
use Rattle.wgr_register.specs.Causes.{IfOrderFault, OrderStops}
use Rattle.wgr_register.specs.Standing.{StandsAt}
use Rattle.wgr_register.specs.declared.fault.Done.{Done}
use Rattle.wgr_register.specs.declared.fault.OrderFault.{OrderFault}
use Rattle.wgr_register.specs.declared.fault.OrderFault.TheVariants as order_fault
use Rattle.wgr_sql.specs.Causes.{HasCauseOr}
use Rattle.wgr_sql.specs.declared.fault.Fault.TheVariants as fault
use Rattle.wgr_words.specs.Line.{IsUnspelled, SpellsOrder, first_line}
use Rattle.wgr_words.specs.Reading.{reading_in_line}
use Rattle.wgr_words.specs.Words.{word_field_name}
use Rattle.wgr_words.specs.declared.line.LineFault.{LineFault}
use Rattle.wgr_words.specs.declared.line.LineFault.TheVariants as line_fault
use Rattle.wgr_service.specs.declared.lines.LineEnd.{LineEnd}
use Rattle.wgr_service.specs.declared.lines.LineEnd.TheVariants as line_end

-- ---- the answer, in bytes

-- the exit status of the same order given as a command, and the text that it prints
abbrev pub ended_text : Result Done OrderFault → Bytes
ended_text (Ok done) = codes "0 done\n"
ended_text (Err (order_fault.Refused why)) = codes "2 " ++ refusal_text (refusal_of why) ++ codes "\n"
ended_text (Err (order_fault.Fault fault.NoMemory)) = codes "1 no_memory\n"
ended_text (Err (order_fault.Fault (fault.Store cause))) = codes "1 store\n"

-- why a line is no order
abbrev pub fault_text : LineFault → Bytes
fault_text line_fault.NoOrder = codes "2 bad_order\n"
fault_text (line_fault.Field field) = codes "2 bad_field " ++ word_field_name field ++ codes "\n"
fault_text line_fault.NoMemory = codes "1 no_memory\n"

abbrev pub end_text : LineEnd → Bytes
end_text (line_end.Ended ended) = ended_text ended
end_text (line_end.Unspelled why) = fault_text why

-- the exit status of the same order given as a command
abbrev pub end_status : LineEnd → ℕ
end_status (line_end.Ended (Ok done)) = 0
end_status (line_end.Ended (Err (order_fault.Refused why))) = 2
end_status (line_end.Ended (Err (order_fault.Fault why))) = 1
end_status (line_end.Unspelled line_fault.NoMemory) = 1
end_status (line_end.Unspelled why) = 2

-- ---- what was done

-- the answer for the result of an order
abbrev pub order_answer : Result Done OrderFault → given.Answer
order_answer (Ok done) = givens.Order (Ok done)
order_answer (Err (order_fault.Refused why)) = givens.Order (Err why)
order_answer (Err (order_fault.Fault why)) = givens.Unavailable

-- the order had this result; a fault of the store has a cause in the call, or the rows refuse a statement
pub record HasOrdered {S : Type 0} (g : Ghosts S) (old new : Held S) (order : Order) (ended : Result Done OrderFault) : Type 0 where
  pub call : IsCall g old new (events.Order order) (order_answer ended)
  pub stops : (db : Database) (late : List Event) → StandsAt g old db late → IfOrderFault (HasCauseOr (OrderStops (tables_of db) (order_event order)) (state g old) (state g new)) ended

-- the line's order was carried out, or the line spells none and nothing is done
abbrev pub EndsLine : {S : Type 0} → Ghosts S → Held S → Held S → Bytes → LineEnd → Type 0
EndsLine g old new line (line_end.Ended ended) = (order : Order) × SpellsOrder line order × HasOrdered g old new order ended
EndsLine g old new line (line_end.Unspelled why) = (new ≡ old) × IsUnspelled line why

-- ---- the first line of an input

-- the first line of these bytes spells the order
abbrev pub SpellsFirst : Bytes → Order → Type 0
SpellsFirst all order = (line : Bytes) × (first_line all ≡ Some line) × SpellsOrder line order

-- there is no line, or the first spells neither an order nor a reading; want of memory leaves open what it spells
abbrev pub SpellsNone : Bytes → LineFault → Type 0
SpellsNone all line_fault.NoMemory = Unit {0}
SpellsNone all why = ((first_line all ≡ None) × (why ≡ line_fault.NoOrder)) ⊎ ((line : Bytes) × (first_line all ≡ Some line) × IsUnspelled line why × (reading_in_line line ≡ None))

-- the order in the first line of the input, where that is known, was carried out; or nothing was done
abbrev pub TakesLine : {S : Type 0} → Ghosts S → Held S → Held S → Option Bytes → LineEnd → Type 0
TakesLine g old new input (line_end.Ended ended) = (order : Order) × IfSome input (λ all. SpellsFirst all order) × HasOrdered g old new order ended
TakesLine g old new input (line_end.Unspelled why) = (new ≡ old) × IfSome input (λ all. SpellsNone all why)

-- whether there was memory to read the line
abbrev pub is_read : LineFault → Bool
is_read line_fault.NoMemory = false
is_read why = true

-- whether neither memory nor the store failed
abbrev pub is_end_available : LineEnd → Bool
is_end_available (line_end.Ended ended) = is_available (order_answer ended)
is_end_available (line_end.Unspelled why) = is_read why
