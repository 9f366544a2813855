-- Calls on the tables of the third version, which are found by their names.
use Rattle.std.specs.Prelude.{◌≡◌, IsTrue, Result, List, IfErr, false, ⊤}
use Rattle.sqlite.specs.Effect.{Database}
use Rattle.sqlite.specs.State.{HasCleanDisk, State, Survives}
use Rattle.sqlite.specs.Store.{Ghosts}
use Rattle.sqlite.specs.Held.{Held, state}
use Rattle.wgr_model.specs.Rows.{Tables, third_version}
use Rattle.wgr_sql.specs.Causes.{HasCauseOr}
use Rattle.wgr_sql.specs.Steps as steps
use Rattle.wgr_sql.specs.declared.fault.Fault.{Fault}
use Rattle.wgr_columns.specs.Decode.{IsRegister, tables_of}
use Rattle.wgr_tables.specs.Standing.{Stands}
use Rattle.wgr_tables.specs.Writes.{Written}

-- the rows are of the third version, which has the table
abbrev pub IsThird : Tables → Type 0
IsThird t = t.meta ≡ third_version

-- What a call that reads one of those tables keeps: as `OnlyReads`, where the rows are of the third version.
pub record OnlyReadsThird {S : Type 0} (g : Ghosts S) (old new : Held S) : Type 0 where
  pub idle : new.in_transaction ≡ false
  pub clean : HasCleanDisk (state g new) → HasCleanDisk (state g old)
  pub stands : (db : Database) (pending : List Written) → Stands g old db pending → IsThird (tables_of db) → Stands g new db pending
  pub survives : Survives (state g old) (state g new) (λ _. ⊥)

-- a register of the third version
pub record IsThirdRegister (db : Database) : Type 0 where
  pub register : IsRegister db
  pub third : IsThird (tables_of db)

-- a step of a transaction changes the rows of such a register as `P` says, which is one afterwards too
abbrev pub StepsOnThird : {X E : Type 0} → (Tables → Tables → Type 0) → State → State → Result X E → Type 0
StepsOnThird P old new r = steps.StepsOn IsThirdRegister (steps.Makes IsThirdRegister tables_of P) old new r

-- a step of a transaction commits nothing, whatever the rows are
abbrev pub StepsAnyhow : {X E : Type 0} → State → State → Result X E → Type 0
StepsAnyhow old new r = steps.StepsOn (λ _. ⊤) (λ _ _. ⊤) old new r

-- If a step of a transaction on such a register fails, that has a cause, or the step stops so at its rows.
abbrev pub FailsOnThird : {X : Type 0} → (Tables → Type 0) → State → State → Result X Fault → Type 0
FailsOnThird stops old new r = IsTrue old.in_transaction → (IsTrue old.is_open → IsThirdRegister old.now) → IfErr r (HasCauseOr (stops (tables_of old.now)) old new)
