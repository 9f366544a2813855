-- The first line of an input.
use Rattle.std.proofs.Common.{◌≡◌, Option, Some, None, inr, sym}
use Rattle.std.specs.Prelude.{IfSome}
use Rattle.sqlite.specs.Store.{Ghosts}
use Rattle.sqlite.specs.Held.{Held}
use Rattle.wgr_model.specs.Register.{Bytes}
use Rattle.wgr_words.specs.Line.{IsUnspelled, first_line}
use Rattle.wgr_words.specs.declared.line.LineFault.{LineFault}
use Rattle.wgr_words.specs.declared.line.LineFault.TheVariants as line_fault
use Rattle.wgr_service.specs.Lines.{EndsLine, SpellsNone, TakesLine}
use Rattle.wgr_service.specs.Readings.{HasTaken, IsNoReading, TakesAt}
use Rattle.wgr_service.specs.declared.taken.Taken.{Taken}
use Rattle.wgr_service.specs.declared.taken.Taken.TheVariants as taken
use Rattle.wgr_service.specs.declared.lines.LineEnd.{LineEnd}
use Rattle.wgr_service.specs.declared.lines.LineEnd.TheVariants as line_end

spells_none : (all line : Bytes) (why : LineFault) → first_line all ≡ Some line → IsUnspelled line why → IsNoReading line (line_end.Unspelled why) → SpellsNone all why
spells_none all line line_fault.NoMemory first is none = tt
spells_none all line line_fault.NoOrder first is none = inr (line, first, is, none)
spells_none all line (line_fault.Field field) first is none = inr (line, first, is, none)

-- what was done by the line that was read was done by the first line of the input
takes_line : {S : Type 0} (g : Ghosts S) (old new : Held S) (input : Option Bytes) (line : Bytes) (end : LineEnd) → IfSome input (λ all. Some line ≡ first_line all) → EndsLine g old new line end → IsNoReading line end → TakesLine g old new input end
takes_line g old new None line (line_end.Ended ended) first ends none = (ends.0, tt, ends.2)
takes_line g old new (Some all) line (line_end.Ended ended) first ends none = (ends.0, (line, sym first, ends.1), ends.2)
takes_line g old new None line (line_end.Unspelled why) first ends none = (ends.0, tt)
takes_line g old new (Some all) line (line_end.Unspelled why) first ends none = (ends.0, spells_none all line why (sym first) ends.1 none)

-- and so for what is an order or a reading
pub has_taken : {S : Type 0} (g : Ghosts S) (old new : Held S) (input : Option Bytes) (line : Bytes) (end : Taken) → IfSome input (λ all. Some line ≡ first_line all) → TakesAt g old new line end → HasTaken g old new input end
has_taken g old new input line (taken.Order ended) first takes = takes_line g old new input line ended first takes.0 takes.1
has_taken g old new None line (taken.Reading ended) first takes = (takes.0, tt, takes.2)
has_taken g old new (Some all) line (taken.Reading ended) first takes = (takes.0, (line, sym first, takes.1), takes.2)
