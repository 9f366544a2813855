-- What the creation of a register leaves.
use Rattle.std.specs.Prelude.{◌≡◌, ℕ, Bool, ◌||◌, true, false, is_some, IsTrue, IfErr, Result, List, [], ◌∷◌, codes}
use Rattle.std.specs.List.{AllByRecursion, list_any}
use Rattle.sqlite_schema.specs.Names.{table_named, view_named}
use Rattle.sqlite_schema.specs.declared.schema.Index.{Index}
use Rattle.sqlite.specs.Tree.{Trees}
use Rattle.sqlite.specs.Schema.{Schema}
use Rattle.sqlite.specs.Effect.{Database}
use Rattle.sqlite.specs.State.{State}
use Rattle.sqlite_catalog.specs.Change.{created, indexed}
use Rattle.wgr_model.specs.RowLaws.{no_rows}
use Rattle.wgr_sql.specs.Causes.{HasCause}
use Rattle.wgr_sql.specs.Steps.{StepsOn}
use Rattle.wgr_sql.specs.declared.fault.Fault.{Fault}
use Rattle.wgr_columns.specs.declared.columns.allowed.TheConstants as allowed
use Rattle.wgr_columns.specs.declared.columns.reader.TheConstants as reader
use Rattle.wgr_columns.specs.Layout.{Others, schema_with, index_of, meta_table_at, tenant_table_at, token_table_at, network_table_at, peer_table_at, allowed_table_at, second_table_at, reader_table_at}
use Rattle.wgr_columns.specs.Decode.{IsRegister, tables_of}

-- what is behind the first six tables and their indexes
abbrev pub later_tables : Others
later_tables = record { tables = second_table_at 13 ∷ reader_table_at 14 ∷ []; indexes = index_of (codes "sqlite_autoindex_reader_1") 15 14 (reader.DIGEST ∷ []) true ∷ []; views = [] }

-- the register's tables have no row except that of the version, and nothing else is in the database
pub record IsFresh (db : Database) : Type 0 where
  pub schema_is : db.schema ≡ schema_with later_tables
  pub register : IsRegister db
  pub rows : tables_of db ≡ no_rows

-- what a stop may leave while a register is created, other than what was there before: all of it
abbrev pub LeavesFresh : Trees → Type 0
LeavesFresh trees = (db : Database) × IsFresh db × (trees ≡ db.trees)

-- a table or a view has the name
abbrev pub is_taken : Schema → List ℕ → Bool
is_taken schema name = is_some (table_named schema name) || is_some (view_named schema name)

-- a table or a view has the name of one of the register's tables
abbrev pub is_any_taken : Schema → Bool
is_any_taken schema = list_any (is_taken schema) (codes "meta" ∷ codes "tenant" ∷ codes "token" ∷ codes "network" ∷ codes "peer" ∷ codes "allowed" ∷ codes "second" ∷ codes "reader" ∷ [])

-- ---- while the tables are created

-- the schema, and no row in any of its tables
pub record HasBlank (schema : Schema) (db : Database) : Type 0 where
  pub schema_is : db.schema ≡ schema
  pub blank : AllByRecursion (λ t. db.trees t.tree ≡ []) schema.tables

-- a step leads from the one to the other, or fails and commits nothing
abbrev pub Lays : {X E : Type 0} → (Database → Type 0) → (Database → Type 0) → State → State → Result X E → Type 0
Lays from to old new r = StepsOn from (λ _ db. to db) old new r

-- if a step from such a database fails with a fault of the store, the fault has a cause
abbrev pub FailsFrom : {X : Type 0} → (Database → Type 0) → State → State → Result X Fault → Type 0
FailsFrom from old new r = IsTrue old.in_transaction → (IsTrue old.is_open → from old.now) → IfErr r (HasCause old new)

abbrev pub no_schema : Schema
no_schema = record { tables = []; indexes = []; views = [] }

-- a new table or index gets its tree when it is created
abbrev pub meta_schema : Schema
meta_schema = created no_schema (meta_table_at 0)

abbrev pub tenant_schema : Schema
tenant_schema = created meta_schema (tenant_table_at 0)

abbrev pub entries_schema : Schema
entries_schema = created tenant_schema (token_table_at 0)

abbrev pub network_schema : Schema
network_schema = created entries_schema (network_table_at 0)

abbrev pub peer_schema : Schema
peer_schema = created network_schema (peer_table_at 0)

abbrev pub tables_schema : Schema
tables_schema = created peer_schema (allowed_table_at 0)

abbrev pub peer_index : Index
peer_index = index_of (codes "allowed_peer") 0 10 (allowed.NETWORK ∷ allowed.PEER ∷ []) false

abbrev pub whole_schema : Schema
whole_schema = indexed tables_schema (allowed_table_at 10) peer_index

abbrev pub second_schema : Schema
second_schema = created whole_schema (second_table_at 0)

abbrev pub reader_schema : Schema
reader_schema = created second_schema (reader_table_at 0)
