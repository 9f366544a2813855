-- Why a call returns a fault of the store.
use Rattle.std.specs.Prelude.{◌≡◌, ◌≤◌, ◌⊎◌, ℕ, false, List, [], length, Option, None, Result, Ok, Err, IsSome, ⊤}
use Rattle.sqlite_disk.specs.Disk.{MoreFaults}
use Rattle.sqlite_value.specs.Order.{Row}
use Rattle.sqlite.specs.Tree.{Trees}
use Rattle.sqlite_resolve.specs.declared.compiled.Compiled.{Compiled}
use Rattle.sqlite_resolve.specs.declared.error.CompileError.{CompileError}
use Rattle.sqlite.specs.declared.error.Error.{Error}
use Rattle.sqlite.specs.Schema.{Schema}
use Rattle.sqlite.specs.declared.run.Mode.{Mode}
use Rattle.sqlite_schema.specs.declared.schema.Keys.TheVariants.{Enforced}
use Rattle.sqlite.specs.Calls.{IsWrite}
use Rattle.sqlite.specs.Does.{Does}
use Rattle.sqlite.specs.Effect.{Database, RefusesToRead}
use Rattle.sqlite.specs.Listing.{understood, reads_listing}
use Rattle.sqlite.specs.State.{State, HasCleanDisk, shows_rows, text_of}
use Rattle.wgr_sql.specs.declared.fault.Fault.{Fault}
use Rattle.wgr_sql.specs.declared.fault.Fault.TheVariants.{NoMemory, Store}

-- The disk failed during the call, or the store was shut before it, or whoever opened the connection
-- set a limit on the steps of a query.
abbrev pub IsHindered : State → State → Type 0
IsHindered old new = MoreFaults old.faults new.faults ⊎ ((old.is_open ≡ false) ⊎ IsSome old.step_limit)

-- If the fault is the store's, and the disk returns what was written, the call was hindered or `P` holds.
-- For a failed allocation no cause is stated.
abbrev pub HasCauseOr : Type 0 → State → State → Fault → Type 0
HasCauseOr P old new NoMemory = ⊤
HasCauseOr P old new (Store cause) = HasCleanDisk new → IsHindered old new ⊎ P

-- A fault of the store has a cause.
abbrev pub HasCause : State → State → Fault → Type 0
HasCause = HasCauseOr ⊥

-- ---- texts that are understood

-- The text is one statement without RETURNING that doesn't read the time, and as many values are
-- given as it has parameters.
abbrev pub IsOneStatement : List ℕ → Row → Result Compiled CompileError → Type 0
IsOneStatement sql params (Ok c) = (c.returning ≡ None) × (c.formats ≡ []) × (length sql ≤ c.tail) × (length params ≡ length c.names)
IsOneStatement sql params (Err e) = ⊥

-- It is a query that only a limit on steps can refuse, whatever rows there are.
abbrev pub AsksPlainly : Schema → Row → Result Compiled CompileError → Type 0
AsksPlainly schema params (Ok c) = (limit : Option ℕ) (trees : Trees) (e : Error) → RefusesToRead limit c.command (record { schema = schema; trees = trees }) params e → IsSome limit
AsksPlainly schema params (Err e) = ⊥

-- A query that returns its rows, whatever they are, unless something hinders it.
pub record IsAnswered (schema : Schema) (sql : List ℕ) (params : Row) : Type 0 where
  pub given : IsOneStatement sql params (understood schema sql)
  pub unlisted : reads_listing schema sql ≡ false
  pub plain : AsksPlainly schema params (understood schema sql)

abbrev pub WritesPlainly : Result Compiled CompileError → Type 0
WritesPlainly (Ok c) = IsWrite c.command × (shows_rows false c ≡ false)
WritesPlainly (Err e) = ⊥

-- A statement that writes, and returns no rows.
pub record IsWriting (schema : Schema) (sql : List ℕ) (params : Row) : Type 0 where
  pub given : IsOneStatement sql params (understood schema sql)
  pub plain : WritesPlainly (understood schema sql)

-- how a connection runs its statements
abbrev pub usual : Mode
usual = record { keys = Enforced; in_doubt = false; may_wait = false }

abbrev pub RefusesAs : Option ℕ → Database → List ℕ → Row → Result Compiled CompileError → Type 0
RefusesAs limit db sql params (Ok c) = (stop : Option Error) × Does limit usual params db (text_of sql c) c.returning c.command (Err stop)
RefusesAs limit db sql params (Err e) = ⊥

-- The statement fails on this database, under this limit on the steps of a query: it breaks a
-- constraint of a table, or a row that it writes can't be stored.
abbrev pub Refuses : Option ℕ → Database → List ℕ → Row → Type 0
Refuses limit db sql params = RefusesAs limit db sql params (understood db.schema sql)
