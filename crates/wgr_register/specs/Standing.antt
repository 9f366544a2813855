-- Which database a register is in, and what a stop at this moment may leave.
use Rattle.std.specs.Prelude.{◌≡◌, false, List}
use Rattle.sqlite.specs.Effect.{Database}
use Rattle.sqlite.specs.State.{HasCleanDisk}
use Rattle.sqlite.specs.Store.{Ghosts}
use Rattle.sqlite.specs.Held.{Held, state}
use Rattle.sqlite_rules.specs.Lists.{Has}
use Rattle.wgr_model.specs.Laws as model
use Rattle.wgr_model.specs.RowLaws.{AreConsistent, IsRowStep}
use Rattle.wgr_model.specs.Rows.{Tables}
use Rattle.wgr_model.specs.Steps.{Answer, Event, IsProper}
use Rattle.wgr_columns.specs.Decode.{tables_of}
use Rattle.wgr_tables.specs.Standing.{Stands}
use Rattle.wgr_tables.specs.Writes.{Changes, Written}

-- each of these writes is a step of one of these events, which is proper
abbrev pub AreSteps : Tables → List Written → List Event → Type 0
AreSteps t pending late = (one : Written) → Has pending one → (u : Tables) → Changes one t u → (event : Event) × model.Has late event × IsProper event × (answer : Answer) × IsRowStep t event answer u

-- The register has the consistent rows of this database. A stop at this moment leaves them, or
-- those after one of these events: the ones that were answered by a fault since the last that was
-- acknowledged and changed a row.
pub record StandsAt {S : Type 0} (g : Ghosts S) (conn : Held S) (db : Database) (late : List Event) : Type 0 where
  pub pending : List Written
  pub stands : Stands g conn db pending
  pub consistent : AreConsistent (tables_of db)
  pub steps : AreSteps (tables_of db) pending late

-- in no transaction, and at some consistent rows while the disk returns what was written
pub record IsAtRest {S : Type 0} (g : Ghosts S) (conn : Held S) : Type 0 where
  pub idle : conn.in_transaction ≡ false
  pub somewhere : HasCleanDisk (state g conn) → (db : Database) × (late : List Event) × StandsAt g conn db late
