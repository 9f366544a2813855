-- Steps on the rows of the register, and the rows that it is at.
use Rattle.std.specs.Prelude.{◌≡◌, Result, List, [], ◌∷◌, false, IfErr, OnErr, OnOk, ⊤}
use Rattle.sqlite.specs.Effect.{Database}
use Rattle.sqlite.specs.State.{HasCleanDisk, State, Survives}
use Rattle.sqlite.specs.Store.{Ghosts}
use Rattle.sqlite.specs.Held.{Held, state}
use Rattle.wgr_model.specs.Rows.{Tables}
use Rattle.wgr_sql.specs.Causes.{HasCauseOr}
use Rattle.wgr_sql.specs.Steps as steps
use Rattle.wgr_sql.specs.Standing as standing
use Rattle.wgr_sql.specs.declared.fault.Fault.{Fault}
use Rattle.wgr_columns.specs.Decode.{IsRegister, tables_of}
use Rattle.wgr_tables.specs.Writes.{Written, Writes, WritesAs}

-- The register is in this database, and no transaction is open. A stop at this moment leaves its rows,
-- or those after one of the pending writes: the ones that returned a fault since the last
-- acknowledged write.
abbrev pub Stands : {S : Type 0} → Ghosts S → Held S → Database → List Written → Type 0
Stands g conn db pending = standing.Stands IsRegister Writes g conn db pending

-- What a call that only reads keeps: no transaction is open after it, the register is at the rows that it
-- was at, a disk that is clean now was clean before, and a stop leaves nothing new.
pub record OnlyReads {S : Type 0} (g : Ghosts S) (old new : Held S) : Type 0 where
  pub idle : new.in_transaction ≡ false
  pub clean : HasCleanDisk (state g new) → HasCleanDisk (state g old)
  pub stands : (db : Database) (pending : List Written) → Stands g old db pending → Stands g new db pending
  pub survives : Survives (state g old) (state g new) (λ _. ⊥)

-- a write was done and acknowledged: the register is in the database after it, and nothing is pending
abbrev pub IsDone : {S : Type 0} → Ghosts S → Held S → Database → Written → Type 0
IsDone g conn db one = (next : Database) × Writes one db next × Stands g conn next []

-- What a call that may write keeps: no transaction is open after it, a disk that is clean now was clean
-- before, and only a fault of the disk shuts the store. A stop may leave what it writes.
pub record MayWrite {S : Type 0} (g : Ghosts S) (old new : Held S) : Type 0 where
  pub idle : new.in_transaction ≡ false
  pub clean : HasCleanDisk (state g new) → HasCleanDisk (state g old)
  pub survives : Survives (state g old) (state g new) (λ _. ⊤)

-- How a call ends that commits one write; which one, `writes` tells on the rows at which the register is.
-- The write was done and acknowledged, or the call failed and it is pending. A fault of the store has a
-- cause, or the write stops on these rows.
pub record Commits {S X : Type 0} (g : Ghosts S) (writes : Tables → Written → Type 0) (stops : Tables → Type 0) (old new : Held S) (r : Result X Fault) : Type 0 where
  pub done : (db : Database) (pending : List Written) (one : Written) → Stands g old db pending → writes (tables_of db) one → HasCleanDisk (state g new) → OnOk r (IsDone g new db one)
  pub fault : (db : Database) (pending : List Written) (one : Written) → Stands g old db pending → writes (tables_of db) one → OnErr r (Stands g new db (one ∷ pending))
  pub cause : (db : Database) (pending : List Written) → Stands g old db pending → IfErr r (HasCauseOr (stops (tables_of db)) (state g old) (state g new))

-- a step of a transaction changes the rows as `P` says
abbrev pub StepsOn : {X E : Type 0} → (Tables → Tables → Type 0) → State → State → Result X E → Type 0
StepsOn P old new r = steps.StepsOn IsRegister (steps.Makes IsRegister tables_of P) old new r

-- a step makes the write that `writes` tells on the rows
abbrev pub StepsAs : {X E : Type 0} → (Tables → Written → Type 0) → State → State → Result X E → Type 0
StepsAs writes old new r = steps.StepsOn IsRegister (WritesAs writes) old new r

-- a chain of steps, which may be empty, changes the rows as `P` says
abbrev pub StepsFrom : {X E : Type 0} → (Tables → Tables → Type 0) → State → State → Result X E → Type 0
StepsFrom P old new r = steps.StepsFrom IsRegister (steps.Makes IsRegister tables_of P) old new r
