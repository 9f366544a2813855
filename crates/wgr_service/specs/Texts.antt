-- Orders in the lines of a text: what carrying them out in turn does.
use Rattle.std.specs.Prelude.{◌≡◌, ◌==◌, ℕ, List, [], ◌∷◌, Option, Some, None, if◌then◌else◌, map, max, ◌++◌, flat_map}
use Rattle.std.specs.Io.KnownBytes.{Appends}
use Rattle.sqlite.specs.Effect.{Database}
use Rattle.sqlite.specs.State.{HasCleanDisk}
use Rattle.sqlite.specs.Store.{Ghosts}
use Rattle.sqlite.specs.Held.{Held, state}
use Rattle.wgr_model.specs.Register.{Bytes}
use Rattle.wgr_model.specs.Steps.{Event}
use Rattle.wgr_office.specs.Between.{HasPassed}
use Rattle.wgr_orders.specs.declared.order.Order.{Order}
use Rattle.wgr_register.specs.Standing.{StandsAt}
use Rattle.wgr_words.specs.Line.{IsUnspelled, SpellsOrder}
use Rattle.wgr_words.specs.declared.line.LineFault.{LineFault}
use Rattle.wgr_words.specs.declared.line.LineFault.TheVariants as line_fault
use Rattle.wgr_io.specs.Device.{IsCut}
use Rattle.wgr_service.specs.Connections.{Exchange, Ordered, given_answer, asked_event}
use Rattle.wgr_service.specs.Lines.{EndsLine, end_status, end_text}
use Rattle.wgr_service.specs.declared.lines.LineEnd.{LineEnd}
use Rattle.wgr_service.specs.declared.lines.LineEnd.TheVariants as line_end

-- ---- the lines of a text

-- this byte comes before the first line
abbrev pub before_texts : ℕ → List (Option Bytes) → List (Option Bytes)
before_texts byte [] = None ∷ []
before_texts byte (Some line ∷ lines) = Some (byte ∷ line) ∷ lines
before_texts byte (None ∷ lines) = None ∷ lines

-- each line without its newline, and `None` for what comes after the last newline, if anything does
abbrev pub lines_in : Bytes → List (Option Bytes)
lines_in [] = []
lines_in (byte ∷ text) = if byte == 10 then Some [] ∷ lines_in text else before_texts byte (lines_in text)

-- ---- one of them

-- its order was carried out, or it has none and nothing is done; an unfinished line is no order
abbrev pub EndsInput : {S : Type 0} → Ghosts S → Held S → Held S → Option Bytes → LineEnd → Type 0
EndsInput g old new (Some line) end = EndsLine g old new line end
EndsInput g old new None end = (new ≡ old) × (end ≡ line_end.Unspelled line_fault.NoOrder)

-- an unfinished line spells no order
abbrev pub SpellsLine : Option Bytes → Order → Type 0
SpellsLine (Some line) order = SpellsOrder line order
SpellsLine None order = ⊥

abbrev pub IsNoOrder : Option Bytes → LineFault → Type 0
IsNoOrder (Some line) why = IsUnspelled line why
IsNoOrder None why = why ≡ line_fault.NoOrder

-- ---- all of them

-- these are the orders that the lines spell, with their results: each line ended with its order's result, or spells none
abbrev pub AreOrders : List (Option Bytes) → List LineEnd → List Exchange → Type 0
AreOrders [] [] [] = Unit {0}
AreOrders (line ∷ lines) (line_end.Ended ended ∷ ends) (Ordered order result ∷ xs) = SpellsLine line order × (result ≡ ended) × AreOrders lines ends xs
AreOrders (line ∷ lines) (line_end.Unspelled why ∷ ends) xs = IsNoOrder line why × AreOrders lines ends xs
AreOrders lines ends xs = ⊥

-- the greatest of the statuses, and 0 for no lines
abbrev pub greatest : List LineEnd → ℕ
greatest [] = 0
greatest (end ∷ ends) = max (end_status end) (greatest ends)

-- Each line had one end. The register handled the lines' orders like a list of events, and between any two of them it
-- was at some rows.
pub record HasCarriedOut {S : Type 0} (g : Ghosts S) (old new : Held S) (lines : List (Option Bytes)) (ends : List LineEnd) : Type 0 where
  pub xs : List Exchange
  pub orders : AreOrders lines ends xs
  pub run : (db : Database) (late : List Event) → StandsAt g old db late → HasCleanDisk (state g new) → HasPassed g old new db late (map asked_event xs) (map given_answer xs)

-- how these lines ended is written, but of the last only a first part, which may be none or all
abbrev pub IsCutAtLast : Option Bytes → Option Bytes → List LineEnd → Type 0
IsCutAtLast before after ends = (earlier : List LineEnd) × (last : LineEnd) × (mid : Option Bytes) × (ends ≡ earlier ++ last ∷ []) × Appends before mid (flat_map end_text earlier) × IsCut mid after (end_text last)
