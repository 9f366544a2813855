-- Readings of the operator: how one ended, and what is written of that.
use Rattle.std.specs.Prelude.{◌≡◌, ◌==◌, ◌∷◌, ◌++◌, [], ℕ, Bool, true, false, length, codes, decimal, sum_by, IfSome, List, Option, Some, None, Result, Ok, Err}
use Rattle.std.specs.declared.alloc.AllocError.{AllocError}
use Rattle.std.specs.declared.alloc.Global.{Global}
use Rattle.std.specs.declared.vec.Vec.{Vec}
use Rattle.sqlite.specs.Effect.{Database}
use Rattle.sqlite.specs.Held.{Held, state}
use Rattle.sqlite.specs.State.{HasCleanDisk}
use Rattle.sqlite.specs.Store.{Ghosts}
use Rattle.wgr_columns.specs.Decode.{tables_of}
use Rattle.wgr_model.specs.Register.{Bytes}
use Rattle.wgr_model.specs.Rows.{Tables}
use Rattle.wgr_model.specs.Steps.{Event}
use Rattle.wgr_office.specs.Between.{Keeps}
use Rattle.wgr_orders.specs.declared.census.Census.{Census}
use Rattle.wgr_peers.specs.Name.{is_name}
use Rattle.wgr_register.specs.Census.{IsCensus}
use Rattle.wgr_register.specs.Standing.{StandsAt}
use Rattle.wgr_show.specs.Figures.{capped}
use Rattle.wgr_show.specs.Json.{IsRegisterJson}
use Rattle.wgr_show.specs.Shown.{is_there}
use Rattle.wgr_show.specs.declared.figures.Figures.{Figures}
use Rattle.wgr_sql.specs.declared.fault.Fault.TheVariants as fault
use Rattle.wgr_words.specs.Line.{first_line}
use Rattle.wgr_words.specs.Reading.{ReadingAsked, Backup, Show, Status, reading_in_line}
use Rattle.wgr_words.specs.declared.line.LineFault.TheVariants as line_fault
use Rattle.wgr_service.specs.Lines.{EndsLine, TakesLine, end_text, is_end_available}
use Rattle.wgr_service.specs.Status.{status_text}
use Rattle.wgr_service.specs.declared.desk.Tally.{Tally}
use Rattle.wgr_service.specs.declared.lines.LineEnd.{LineEnd}
use Rattle.wgr_service.specs.declared.lines.LineEnd.TheVariants as line_end
use Rattle.wgr_service.specs.declared.readings.ReadingEnd.{ReadingEnd}
use Rattle.wgr_service.specs.declared.readings.ReadingEnd.TheVariants as end
use Rattle.wgr_service.specs.declared.taken.Taken.{Taken}
use Rattle.wgr_service.specs.declared.taken.Taken.TheVariants as taken

-- the line with the exit status of the same reading given as a command, and what that prints; the text that is shown
-- follows a line with its length
abbrev pub reading_text : ReadingEnd → Bytes
reading_text (end.Shown text) = codes "0 " ++ decimal (length text.items) ++ codes "\n" ++ text.items
reading_text end.Copied = codes "0 done\n"
reading_text end.BadTenant = codes "2 bad_field tenant\n"
reading_text end.NoSuchTenant = codes "2 no_such_tenant\n"
reading_text end.BadFile = codes "2 bad_field file\n"
reading_text end.FileExists = codes "2 file_exists\n"
reading_text end.Device = codes "1 device\n"
reading_text (end.Fault (fault.Store cause)) = codes "1 store\n"
reading_text (end.Fault fault.NoMemory) = codes "1 no_memory\n"

-- whether neither memory nor the store failed
abbrev pub is_reading_available : ReadingEnd → Bool
is_reading_available (end.Fault why) = false
is_reading_available other = true

-- ---- what a reading shows

-- this is true of the rows at which the register was, whichever they are
abbrev pub AtRows : {S : Type 0} → Ghosts S → Held S → Held S → (Tables → Type 0) → Type 0
AtRows g old new IsTrueOf = (db : Database) (late : List Event) → StandsAt g old db late → HasCleanDisk (state g new) → IsTrueOf (tables_of db)

-- how many entries there are
pub record HasFigures (census : Census) (figures : Figures) : Type 0 where
  pub tenants : figures.tenants ≡ length census.tenants.items
  pub tokens : figures.tokens ≡ length census.tokens.items
  pub networks : figures.networks ≡ length census.networks.items
  pub peers : figures.peers ≡ capped (sum_by (λ n. n.peers) census.networks.items)
  pub routes : figures.routes ≡ capped (sum_by (λ n. n.routes) census.networks.items)

-- the figures of a service with these rows
pub record ShowsFigures (t : Tables) (text : Bytes) : Type 0 where
  pub census : Census
  pub figures : Figures
  pub started : ℕ
  pub tally : Tally
  pub loaded : ℕ
  pub cached : ℕ
  pub is_census : IsCensus t census
  pub counted : HasFigures census figures
  pub written : text ≡ status_text started tally figures loaded cached

-- the entries that are asked for; of the tables only that there is something to show
abbrev pub ShowsEntries : Census → Option Bytes → Bool → Bytes → Type 0
ShowsEntries census tenant is_json text = (is_there tenant census.tenants.items ≡ true) × (is_json ≡ true → IsRegisterJson census tenant text)

-- whether it may be the name of a tenant, if one is asked for
abbrev pub has_form : Option Bytes → Bool
has_form None = true
has_form (Some name) = is_name name

-- whether the path begins at the root, with a slash (47)
abbrev pub is_absolute : Bytes → Bool
is_absolute [] = false
is_absolute (byte ∷ path) = byte == 47

-- how a reading ends whose text could be made, or not
abbrev pub shown : Result (Vec ℕ Global) AllocError → ReadingEnd
shown (Ok text) = end.Shown text
shown (Err why) = end.Fault fault.NoMemory

-- how this reading may end
abbrev pub MayEnd : ReadingAsked → ReadingEnd → Type 0
MayEnd asked (end.Fault why) = Unit {0}
MayEnd Status (end.Shown text) = Unit {0}
MayEnd (Show tenant is_json) (end.Shown text) = Unit {0}
MayEnd (Show (Some name) is_json) end.BadTenant = is_name name ≡ false
MayEnd (Show (Some name) is_json) end.NoSuchTenant = is_name name ≡ true
MayEnd (Backup file) end.Copied = is_absolute file ≡ true
MayEnd (Backup file) end.BadFile = is_absolute file ≡ false
MayEnd (Backup file) end.FileExists = is_absolute file ≡ true
MayEnd (Backup file) end.Device = is_absolute file ≡ true
MayEnd asked other = ⊥

-- what that says of the rows
abbrev pub SaysOf : ReadingAsked → ReadingEnd → Tables → Type 0
SaysOf Status (end.Shown text) t = ShowsFigures t text.items
SaysOf (Show tenant is_json) (end.Shown text) t = (census : Census) × IsCensus t census × ShowsEntries census tenant is_json text.items
SaysOf (Show (Some name) is_json) end.NoSuchTenant t = (census : Census) × IsCensus t census × (is_there (Some name) census.tenants.items ≡ false)
SaysOf asked other t = Unit {0}

-- the register is at the rows at which it was, and what is shown is of them
abbrev pub HasReadRows : {S : Type 0} → Ghosts S → Held S → Held S → ReadingAsked → ReadingEnd → Type 0
HasReadRows g old new asked ended = Keeps g old new × MayEnd asked ended × AtRows g old new (SaysOf asked ended)

-- ---- the first line

-- the first line of these bytes spells the reading
abbrev pub SpellsFirstReading : Bytes → ReadingAsked → Type 0
SpellsFirstReading all asked = (line : Bytes) × (first_line all ≡ Some line) × (reading_in_line line ≡ Some asked)

-- ---- a line, which is an order or a reading

abbrev pub taken_text : Taken → Bytes
taken_text (taken.Order ended) = end_text ended
taken_text (taken.Reading ended) = reading_text ended

abbrev pub is_taken_available : Taken → Bool
is_taken_available (taken.Order ended) = is_end_available ended
is_taken_available (taken.Reading ended) = is_reading_available ended

-- the line is no reading, as far as there was memory to see
abbrev pub IsNoReading : Bytes → LineEnd → Type 0
IsNoReading line (line_end.Unspelled line_fault.NoMemory) = Unit {0}
IsNoReading line ended = reading_in_line line ≡ None

-- the line was taken as an order and is no reading, or as the reading that it spells
abbrev pub TakesAt : {S : Type 0} → Ghosts S → Held S → Held S → Bytes → Taken → Type 0
TakesAt g old new line (taken.Order ended) = EndsLine g old new line ended × IsNoReading line ended
TakesAt g old new line (taken.Reading ended) = (asked : ReadingAsked) × (reading_in_line line ≡ Some asked) × HasReadRows g old new asked ended

-- and so was the first line of the input, where that is known
abbrev pub HasTaken : {S : Type 0} → Ghosts S → Held S → Held S → Option Bytes → Taken → Type 0
HasTaken g old new input (taken.Order ended) = TakesLine g old new input ended
HasTaken g old new input (taken.Reading ended) = (asked : ReadingAsked) × IfSome input (λ all. SpellsFirstReading all asked) × HasReadRows g old new asked ended
