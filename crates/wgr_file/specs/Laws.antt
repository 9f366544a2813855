-- What follows for a register in files.
use Rattle.std.specs.Prelude.{◌≡◌, ◌<◌, ℕ, [], ◌∷◌, List, Some, Result, true}
use Rattle.sqlite.specs.Effect.{Database}
use Rattle.sqlite.specs.Files.{HoldsDatabase, over_files}
use Rattle.sqlite.specs.Held.{Held}
use Rattle.sqlite.specs.Recovery.{Image}
use Rattle.sqlite.specs.WalFiles.{outcomes}
use Rattle.sqlite.specs.WalReads.{AreClean}
use Rattle.sqlite_disk.specs.Events.{IsHonest, measured, settled}
use Rattle.sqlite_disk.specs.declared.Disk as disk
use Rattle.sqlite_disk.specs.declared.Files.{Files}
use Rattle.sqlite_store.specs.declared.store.FileStore.{FileStore}
use Rattle.wgr_model.specs.Steps.{Event}
use Rattle.wgr_model.specs.Stops.{IsLeft}
use Rattle.wgr_orders.specs.declared.order.Order.{Order}
use Rattle.wgr_register.specs.Standing.{StandsAt}
use Rattle.wgr_register.specs.declared.fault.Done.{Done}
use Rattle.wgr_register.specs.declared.fault.OrderFault.{OrderFault}
use Rattle.wgr_columns.specs.Decode.{tables_of}
use Rattle.wgr_opening.specs.Good.{IsGood}
use Rattle.wgr_opening.specs.Migrated.{IsMigrated}
use Rattle.wgr_file.specs.OnFiles.{AreThoseOf, EndsIn, HasEnded, IsClosedIn, IsMadeInFiles, StandIn, StoodIn, WasMigrated}

-- an order that ended leaves its step's rows in the files
abbrev pub OrdersEndInFiles : {D : Type 0} → disk.Ghosts D → Files D → Type 0
OrdersEndInFiles g files = (start : Image) (order : Order) (ended : Result Done OrderFault) → HasEnded g start (Some files) order ended → AreClean g files.log files.db → EndsIn g start files order ended

-- where a connection that was closed was at a register's rows, the files hold that register
abbrev pub ClosedIsInFiles : {D : Type 0} → disk.Ghosts D → Files D → Type 0
ClosedIsInFiles {D} g files = (left : Held (FileStore D g)) (db : Database) (late : List Event) → IsClosedIn g files left → StandsAt over_files left db late → StandIn g files db

-- a register that was made is in the files
abbrev pub MadeIsInFiles : {D : Type 0} → disk.Ghosts D → Files D → Type 0
MadeIsInFiles g files = (start : Image) → IsMadeInFiles g start (Some files) → AreClean g files.log files.db → (db : Database) × StandIn g files db

-- so is one that was migrated: each tenant sees what it saw in the register that the files held
abbrev pub MigratedIsInFiles : {D : Type 0} → disk.Ghosts D → Files D → Type 0
MigratedIsInFiles g files = (start : Image) → WasMigrated g start (Some files) → AreClean g files.log files.db → (old new : Database) × AreThoseOf start old.trees × IsMigrated old new × StandIn g files new

-- the register that a contract names is the one in the files
abbrev pub FoundIsStored : Type 0
FoundIsStored = (start : Image) (db held : Database) → StoodIn start db → IsGood held → HoldsDatabase start held.trees → db ≡ held

-- the next command finds the register that the last one left, whatever stop was between them
abbrev pub NextFindsTheLast : {D : Type 0} → disk.Ghosts D → Files D → Type 0
NextFindsTheLast g files = (left db : Database) (next : Image) → StandIn g files left → outcomes g files.log files.db next → StoodIn next db → db ≡ left

-- and so it does where the file of the database is copied without its log
abbrev pub CopyHasAll : {D : Type 0} → disk.Ghosts D → Files D → Type 0
CopyHasAll g files = (left db : Database) (next : Image) → StandIn g files left → outcomes g files.log files.db next → StoodIn (record next { log = [] }) db → db ≡ left

-- Whatever of the calls on the files is on the disk when the process that has the register is killed, the register
-- that the next command finds has the rows of before, or those after one of the late events. So the events of before
-- and those of the next command are one run (`RunsGoOn` of wgr_model).
abbrev pub KilledIsFound : {D : Type 0} (g : disk.Ghosts D) → Held (FileStore D g) → Files D → Type 0
KilledIsFound g register files = (db again : Database) (late : List Event) (next : Image) → StandsAt over_files register db late → AreClean g files.log files.db → outcomes g files.log files.db next → StoodIn next again
    → ∥ IsLeft (tables_of db) late (tables_of again) ∥₁

-- `Unknown` says nothing about a file that isn't empty: no record of calls on one is honest from it
abbrev pub UnknownIsEmpty : Type 0
UnknownIsEmpty = (key n : ℕ) → 0 < n → IsHonest [] (measured true n ∷ settled key ∷ []) → ⊥
