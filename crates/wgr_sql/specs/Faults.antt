-- What a fault of the store says.
use Rattle.std.specs.Prelude.{⊤}
use Rattle.sqlite.specs.declared.error.Error.{Error}
use Rattle.sqlite.specs.declared.error.Error.TheVariants.{SqliteFailure}
use Rattle.sqlite.specs.declared.error.ErrorCode.TheVariants.{CannotOpen, DatabaseBusy, DatabaseCorrupt, DiskFull, NotADatabase}
use Rattle.wgr_sql.specs.declared.fault.Cause.{Cause}
use Rattle.wgr_sql.specs.declared.fault.Cause.TheVariants.{Busy, Denied, Damaged, Full, Other}
use Rattle.wgr_sql.specs.declared.fault.Fault.{Fault}
use Rattle.wgr_sql.specs.declared.fault.Fault.TheVariants.{NoMemory, Store}

-- what was wrong, for each error of the database but a failed allocation
abbrev pub cause_of : Error → Cause
cause_of (SqliteFailure DatabaseBusy) = Busy
cause_of (SqliteFailure CannotOpen) = Denied
cause_of (SqliteFailure NotADatabase) = Damaged
cause_of (SqliteFailure DatabaseCorrupt) = Damaged
cause_of (SqliteFailure DiskFull) = Full
cause_of _ = Other

-- the fault is the store's, whatever was wrong
abbrev pub IsStore : Fault → Type 0
IsStore NoMemory = ⊥
IsStore (Store cause) = ⊤
