-- What is found when a register is opened again after a stop.
use Rattle.std.specs.Prelude.{◌≡◌, ◌⊎◌, [], List}
use Rattle.sqlite.specs.declared.error.Error.{Error}
use Rattle.sqlite.specs.declared.error.Error.TheVariants.{SqliteFailure}
use Rattle.sqlite.specs.declared.error.ErrorCode.TheVariants.{DiskFull, OutOfMemory}
use Rattle.sqlite.specs.declared.file.Leftover.{Leftover}
use Rattle.sqlite.specs.Effect.{Database}
use Rattle.sqlite.specs.Files.{HoldsDatabase, IsFullLeft, faults_left, faults_of, image_of}
use Rattle.sqlite.specs.Held.{Held, state}
use Rattle.sqlite.specs.State.{HasCleanDisk, store_error}
use Rattle.sqlite.specs.Store.{Ghosts}
use Rattle.sqlite.specs.Tree.{Trees}
use Rattle.sqlite_disk.specs.Disk.{MoreFaults}
use Rattle.sqlite_disk.specs.declared.Disk as disk
use Rattle.sqlite_disk.specs.declared.Files.{Files}
use Rattle.sqlite_trees.specs.declared.error.StoreError.{StoreError}
use Rattle.wgr_model.specs.Steps.{Event}
use Rattle.wgr_model.specs.Stops.{IsLeft}
use Rattle.wgr_register.specs.Standing.{StandsAt}
use Rattle.wgr_columns.specs.Decode.{tables_of}
use Rattle.wgr_opening.specs.Good.{IsGood}
use Rattle.wgr_opening.specs.Migrated.{IsMigrated, LeavesMigrated}

-- the register has the rows of a good database that a stop of the other one left, and no event is late
abbrev pub StandsOn : {S : Type 0} → Ghosts S → Held S → Database → List Event → Type 0
StandsOn g again db late = (now : Database) × IsGood now × StandsAt g again now [] × ∥ IsLeft (tables_of db) late (tables_of now) ∥₁

-- and so while the disk returns what was written
abbrev pub StandsAgain : {S : Type 0} → Ghosts S → Held S → Database → List Event → Type 0
StandsAgain g again db late = HasCleanDisk (state g again) → StandsOn g again db late

-- the files hold a good register whose rows a stop leaves of this database
abbrev pub HoldsLeft : {D : Type 0} → disk.Ghosts D → Files D → Database → List Event → Type 0
HoldsLeft g files db late = ∥ ((next : Database) × IsGood next × IsLeft (tables_of db) late (tables_of next) × HoldsDatabase (image_of g files) next.trees) ∥₁

-- the files hold what a stop in a migration of this database leaves: what was there before, or all of it
abbrev pub HoldsMigrating : {D : Type 0} → disk.Ghosts D → Files D → Database → Type 0
HoldsMigrating g files old = ∥ ((trees : Trees) × HoldsDatabase (image_of g files) trees × ((trees ≡ old.trees) ⊎ LeavesMigrated old trees)) ∥₁

-- while the disk returns what was written, the register is the one that a migration makes of this database
abbrev pub StandsMigrated : {S : Type 0} → Ghosts S → Held S → Database → Type 0
StandsMigrated g again old = HasCleanDisk (state g again) → ∥ ((now : Database) × IsMigrated old now × StandsAt g again now []) ∥₁

-- an open fails for lack of memory, for a fault of the disk meanwhile, or for a limit of the format
abbrev pub FailsByFault : {D : Type 0} (g : disk.Ghosts D) → Files D → Leftover D g → Error → Type 0
FailsByFault g files left e =
    (e ≡ SqliteFailure OutOfMemory) ⊎ (((kind : StoreError) × (e ≡ store_error kind) × MoreFaults (faults_of g files) (faults_left left)) ⊎ ((e ≡ SqliteFailure DiskFull) × IsFullLeft left))
