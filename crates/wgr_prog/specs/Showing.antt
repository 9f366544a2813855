-- What is shown of the register in a file.
use Rattle.std.specs.Prelude.{ℕ, ◌≡◌, Bool, true, false, List, [], Option, Some, None, Result, Ok, Err}
use Rattle.std.specs.declared.vec.Vec.{Vec}
use Rattle.std.specs.declared.alloc.Global.{Global}
use Rattle.sqlite.specs.Effect.{Database}
use Rattle.sqlite.specs.Files.{file_state, over_files}
use Rattle.sqlite.specs.Held.{Held}
use Rattle.sqlite.specs.Recovery.{Image}
use Rattle.sqlite.specs.State.{HasCleanDisk}
use Rattle.sqlite_disk.specs.declared.Disk as disk
use Rattle.sqlite_disk.specs.declared.Files.{Files}
use Rattle.sqlite_store.specs.declared.store.FileStore.{FileStore}
use Rattle.wgr_columns.specs.Decode.{tables_of}
use Rattle.wgr_file.specs.OnFiles.{IsClosedTo, StoodIn}
use Rattle.wgr_model.specs.Rows.{Tables}
use Rattle.wgr_orders.specs.declared.census.Census.{Census}
use Rattle.wgr_orders.specs.declared.refusal.OrderRefusal.TheVariants.{NoSuchTenant}
use Rattle.wgr_peers.specs.Name.{is_name}
use Rattle.wgr_register.specs.Census.{IsCensus}
use Rattle.wgr_register.specs.Standing.{StandsAt}
use Rattle.wgr_show.specs.Json.{IsRegisterJson}
use Rattle.wgr_show.specs.Shown.{is_there}
use Rattle.wgr_words.specs.declared.field.WordField.TheVariants as of
use Rattle.wgr_words.specs.declared.field.WordFault.{WordFault}
use Rattle.wgr_words.specs.declared.field.WordFault.TheVariants as word_fault
use Rattle.wgr_prog.specs.Answering.{OnceRead}
use Rattle.wgr_prog.specs.declared.register_words.Failure.{Failure}
use Rattle.wgr_prog.specs.declared.register_words.Failure.TheVariants as failure

-- whether a tenant may have the name, if one is given
abbrev pub may_be_tenant : Option (List ℕ) → Bool
may_be_tenant None = true
may_be_tenant (Some name) = is_name name

-- it can't, or there is no memory
abbrev pub IsNameFault : Option (List ℕ) → WordFault → Type 0
IsNameFault tenant (word_fault.Field field) = (field ≡ of.Tenant) × (may_be_tenant tenant ≡ false)
IsNameFault tenant word_fault.NoMemory = Unit {0}
IsNameFault tenant word_fault.Device = ⊥

-- ---- what is said of the rows

-- the text of a census of these rows
pub record IsTextOf (tenant : Option (List ℕ)) (is_json : Bool) (text : List ℕ) (t : Tables) : Type 0 where
  pub census : Census
  pub counted : IsCensus t census
  pub there : is_there tenant census.tenants.items ≡ true
  pub json : is_json ≡ true → IsRegisterJson census tenant text

-- no tenant of these rows has the name
abbrev pub LacksTenant : Option (List ℕ) → Tables → Type 0
LacksTenant tenant t = (census : Census) × IsCensus t census × (is_there tenant census.tenants.items ≡ false)

abbrev pub SaysOfFiles : Option (List ℕ) → Bool → Result (Vec ℕ Global) Failure → Tables → Type 0
SaysOfFiles tenant is_json (Ok text) t = IsTextOf tenant is_json text.items t
SaysOfFiles tenant is_json (Err (failure.Refused why)) t = LacksTenant tenant t
SaysOfFiles tenant is_json (Err other) t = Unit {0}

-- how showing a register may end
abbrev pub MayEndShow : Result (Vec ℕ Global) Failure → Type 0
MayEndShow (Ok text) = Unit {0}
MayEndShow (Err (failure.Refused why)) = why ≡ NoSuchTenant
MayEndShow (Err (failure.Register why)) = Unit {0}
MayEndShow (Err other) = ⊥

-- ---- the register in two files

-- The register that was in the files was read, and closed at the rows at which it was found. This is true of them.
pub record HasRead {D : Type 0} (g : disk.Ghosts D) (start : Image) (closed : Option (Files D)) (IsTrueOf : Tables → Type 0) : Type 0 where
  pub left : Held (FileStore D g)
  pub closed_to : IsClosedTo g closed left
  pub stood : HasCleanDisk (file_state left) → (db : Database) × StoodIn start db × StandsAt over_files left db [] × IsTrueOf (tables_of db)

-- what is shown is of the rows in the files; a fault says nothing of them
abbrev pub ShowsText : {D : Type 0} → disk.Ghosts D → Image → Option (Files D) → Option (List ℕ) → Bool → Result (Vec ℕ Global) Failure → Type 0
ShowsText g start closed tenant is_json (Ok text) = HasRead g start closed (IsTextOf tenant is_json text.items)
ShowsText g start closed tenant is_json (Err (failure.Refused why)) = (why ≡ NoSuchTenant) × HasRead g start closed (LacksTenant tenant)
ShowsText g start closed tenant is_json (Err (failure.Register why)) = Unit {0}
ShowsText g start closed tenant is_json (Err other) = ⊥

-- and the tenant's name is tested first
abbrev pub ShowsFiles : {D : Type 0} → disk.Ghosts D → Image → Option (Files D) → Option (List ℕ) → Bool → Result (Vec ℕ Global) Failure → Type 0
ShowsFiles g start closed tenant is_json (Err (failure.Field field)) = IsNameFault tenant (word_fault.Field field)
ShowsFiles g start closed tenant is_json (Err (failure.Register why)) = OnceRead why (may_be_tenant tenant ≡ true)
ShowsFiles g start closed tenant is_json shown = (may_be_tenant tenant ≡ true) × ShowsText g start closed tenant is_json shown
