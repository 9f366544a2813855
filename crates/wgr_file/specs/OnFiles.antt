-- What is in the two files of a register, and what a command leaves in them.
use Rattle.std.specs.Prelude.{◌≡◌, [], Option, Result, Ok, Err, IfSome, IsTrue}
use Rattle.sqlite.specs.Closing.{HoldsAlone}
use Rattle.sqlite.specs.Effect.{Database, IsDatabase}
use Rattle.sqlite.specs.Files.{AreFoundIn, HoldsDatabase, file_state, over_files}
use Rattle.sqlite.specs.Held.{Held}
use Rattle.sqlite.specs.Recovery.{Image}
use Rattle.sqlite.specs.State.{HasCleanDisk}
use Rattle.sqlite.specs.Tree.{Trees}
use Rattle.sqlite.specs.WalFiles.{outcomes}
use Rattle.sqlite.specs.WalReads.{AreClean}
use Rattle.sqlite_disk.specs.declared.Disk as disk
use Rattle.sqlite_disk.specs.declared.Files.{Files}
use Rattle.sqlite_store.specs.declared.store.FileStore.{FileStore}
use Rattle.wgr_orders.specs.Orders.{order_event, refusal_of}
use Rattle.wgr_model.specs.RowLaws.{IsRowStep}
use Rattle.wgr_model.specs.Steps.{Done, Refused}
use Rattle.wgr_orders.specs.declared.order.Order.{Order}
use Rattle.wgr_register.specs.Causes.{IfOrderFault, OrderStops}
use Rattle.wgr_register.specs.Ends.{OrderEnds}
use Rattle.wgr_register.specs.Standing.{StandsAt}
use Rattle.wgr_register.specs.declared.fault.Done as done
use Rattle.wgr_register.specs.declared.fault.OrderFault.{OrderFault}
use Rattle.wgr_register.specs.declared.fault.OrderFault.TheVariants as order_fault
use Rattle.wgr_sql.specs.Causes.{HasCauseOr}
use Rattle.wgr_schema.specs.Versions.{IsOfEarlierVersion, IsOfVersion}
use Rattle.wgr_schema.specs.declared.version.Version.{Version}
use Rattle.wgr_schema.specs.declared.version.Version.TheVariants.{Three}
use Rattle.wgr_schema.specs.Fresh.{IsFresh, no_schema}
use Rattle.wgr_columns.specs.Decode.{tables_of}
use Rattle.wgr_opening.specs.Good.{IsGood, IsReady, HasSoundRows}
use Rattle.wgr_opening.specs.Migrated.{IsMigrated, MayMigrate}

-- ---- what the files held as they were opened

-- the trees are those of the database that two files hold, where they hold one
abbrev pub AreThoseOf : Image → Trees → Type 0
AreThoseOf start trees = ((held : Trees) → HoldsDatabase start held → trees ≡ held) × AreFoundIn start trees

-- the register in the files, whose rows are all good
pub record StoodIn (start : Image) (db : Database) : Type 0 where
  pub found : AreThoseOf start db.trees
  pub good : IsGood db

-- the database in the files, which has no table, index or view
pub record WasBlank (start : Image) (db : Database) : Type 0 where
  pub found : AreThoseOf start db.trees
  pub sound : IsDatabase db
  pub blank : db.schema ≡ no_schema

-- ---- what they hold as they are closed

-- Each image that the files have, as they read now and after any stop, holds these trees, and so does the file of
-- the database without its log.
abbrev pub FilesHold : {D : Type 0} → disk.Ghosts D → Files D → Trees → Type 0
FilesHold g files trees = (image : Image) → outcomes g files.log files.db image → HoldsAlone image trees

-- the connection was open on a clean disk, and the files hold what it showed
pub record IsClosedIn {D : Type 0} (g : disk.Ghosts D) (files : Files D) (left : Held (FileStore D g)) : Type 0 where
  pub clean : HasCleanDisk (file_state left)
  pub live : IsTrue (file_state left).is_open
  pub holds : FilesHold g files (file_state left).now.trees

-- and so if files are given, and all calls on them were answered as by honest files
abbrev pub IsClosedTo : {D : Type 0} (g : disk.Ghosts D) → Option (Files D) → Held (FileStore D g) → Type 0
IsClosedTo g closed left = IfSome closed (λ files. AreClean g files.log files.db → IsClosedIn g files left)

-- the files hold a register whose rows are all good
pub record StandIn {D : Type 0} (g : disk.Ghosts D) (files : Files D) (db : Database) : Type 0 where
  pub good : IsGood db
  pub holds : FilesHold g files db.trees

-- they hold what they held
abbrev pub FilesStay : {D : Type 0} → disk.Ghosts D → Image → Option (Files D) → Type 0
FilesStay g start closed = IfSome closed (λ files. AreClean g files.log files.db → (trees : Trees) × AreThoseOf start trees × FilesHold g files trees)

-- `P` holds of the database that they held
abbrev pub HeldIn : {D : Type 0} → disk.Ghosts D → Image → Option (Files D) → (Database → Type 0) → Type 0
HeldIn g start closed P = IfSome closed (λ files. AreClean g files.log files.db → (db : Database) × AreThoseOf start db.trees × P db)

-- the tables that they held are not those of a register, of whatever version
abbrev pub WereForeign : {D : Type 0} → disk.Ghosts D → Image → Option (Files D) → Type 0
WereForeign g start closed = HeldIn g start closed (λ db. (version : Version) → IsOfVersion version db → ⊥)

-- they are those of a version before the third
abbrev pub WereEarlier : {D : Type 0} → disk.Ghosts D → Image → Option (Files D) → Type 0
WereEarlier g start closed = HeldIn g start closed IsOfEarlierVersion

-- they are those of the third version, and the rows aren't good
abbrev pub WereNotGood : {D : Type 0} → disk.Ghosts D → Image → Option (Files D) → Type 0
WereNotGood g start closed = HeldIn g start closed (λ db. IsOfVersion Three db × (IsGood db → ⊥))

-- they are not those of a register that can be migrated
abbrev pub WereUnmovable : {D : Type 0} → disk.Ghosts D → Image → Option (Files D) → Type 0
WereUnmovable g start closed = HeldIn g start closed (λ db. (version : Version) → MayMigrate version db → ⊥)

-- something had the name of a table that their version lacks
abbrev pub WereTaken : {D : Type 0} → disk.Ghosts D → Image → Option (Files D) → Type 0
WereTaken g start closed = HeldIn g start closed (λ db. (version : Version) → IsReady version db → ⊥)

-- the rows, of whatever version, aren't those of a consistent register
abbrev pub WereUnsound : {D : Type 0} → disk.Ghosts D → Image → Option (Files D) → Type 0
WereUnsound g start closed = HeldIn g start closed (λ db. HasSoundRows db → ⊥)

-- ---- commands

-- the register is the one that was in the files
abbrev pub IsOpen : {D : Type 0} {g : disk.Ghosts D} → Image → Held (FileStore D g) → Type 0
IsOpen start register = HasCleanDisk (file_state register) → (db : Database) × StoodIn start db × StandsAt over_files register db []

-- a register without entries was made in files that held no table
pub record IsMadeInFiles {D : Type 0} (g : disk.Ghosts D) (start : Image) (closed : Option (Files D)) : Type 0 where
  pub made : Held (FileStore D g)
  pub closed_to : IsClosedTo g closed made
  pub blank : HasCleanDisk (file_state made) → (db : Database) × WasBlank start db
  pub fresh : HasCleanDisk (file_state made) → (db : Database) × IsFresh db × StandsAt over_files made db []

-- the register that was in the files was taken to the third version
pub record WasMigrated {D : Type 0} (g : disk.Ghosts D) (start : Image) (closed : Option (Files D)) : Type 0 where
  pub left : Held (FileStore D g)
  pub closed_to : IsClosedTo g closed left
  pub migrated : HasCleanDisk (file_state left) → (old new : Database) × AreThoseOf start old.trees × IsMigrated old new × StandsAt over_files left new []

-- an order ended in this way on the register that was in the files; a fault of the store has a cause in the call, or
-- the rows refuse a statement
pub record HasEnded {D : Type 0} (g : disk.Ghosts D) (start : Image) (closed : Option (Files D)) (order : Order) (ended : Result done.Done OrderFault) : Type 0 where
  pub opened : Held (FileStore D g)
  pub left : Held (FileStore D g)
  pub closed_to : IsClosedTo g closed left
  pub ends : HasCleanDisk (file_state left) → (db : Database) × StoodIn start db × OrderEnds over_files left db [] (order_event order) ended
  pub cause : HasCleanDisk (file_state opened) → (db : Database) × StoodIn start db × IfOrderFault (HasCauseOr (OrderStops (tables_of db) (order_event order)) (file_state opened) (file_state left)) ended

-- ---- in terms of the rows

-- the files hold the rows after the order's step on those that they held, or those from before
abbrev pub EndsIn : {D : Type 0} → disk.Ghosts D → Image → Files D → Order → Result done.Done OrderFault → Type 0
EndsIn g start files order (Ok done) = (db : Database) × StoodIn start db × (next : Database) × IsRowStep (tables_of db) (order_event order) Done (tables_of next) × StandIn g files next
EndsIn g start files order (Err (order_fault.Refused why)) = (db : Database) × StoodIn start db × IsRowStep (tables_of db) (order_event order) (Refused (refusal_of why)) (tables_of db) × StandIn g files db
EndsIn g start files order (Err (order_fault.Fault why)) = (db : Database) × StoodIn start db × StandIn g files db
