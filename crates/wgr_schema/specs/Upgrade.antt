-- How a register's tables are taken to the third version.
use Rattle.std.specs.Prelude.{◌≡◌, ℕ, IsTrue, IfErr, Result, List, [], ◌∷◌, codes, false, None}
use Rattle.sqlite.specs.Tree.{Trees}
use Rattle.sqlite.specs.Effect.{Database}
use Rattle.sqlite.specs.State.{State}
use Rattle.sqlite.specs.Does.{lacks_sequence}
use Rattle.sqlite_catalog.specs.Change.{is_used}
use Rattle.sqlite_schema.specs.Names.{same_name}
use Rattle.sqlite_rules.specs.Lists.{Has}
use Rattle.wgr_model.specs.Rows.{MetaRow, third_version}
use Rattle.wgr_sql.specs.Named.{rows_named}
use Rattle.wgr_sql.specs.Causes.{HasCauseOr, Refuses}
use Rattle.wgr_sql.specs.declared.fault.Fault.{Fault}
use Rattle.wgr_columns.specs.Layout.{HasReader, HasSecond}
use Rattle.wgr_columns.specs.Decode.{AreSeconds, IsRegister, tables_of}
use Rattle.wgr_schema.specs.Versions.{AreFree, IsOfVersion}
use Rattle.wgr_schema.specs.declared.version.Version.{Version}
use Rattle.wgr_schema.specs.declared.version.Version.TheVariants.{Two, Three}

-- what is asked of a register of this version
pub record MayUpgrade (from : Version) (db : Database) : Type 0 where
  pub register : IsRegister db
  pub version : IsOfVersion from db
  pub free : AreFree from db.schema
  -- where a table counts its rowids, the table of the counters is there
  pub counted : lacks_sequence db.schema ≡ false
  -- rows that are there already are written as the register writes them
  pub seconds : from ≡ Two → AreSeconds (rows_named db (codes "second"))

-- The register of the third version with the rows of before: a table that came has none, and but for `meta`
-- each table, also of others, has the rows that it had.
pub record IsUpgraded (old new : Database) : Type 0 where
  pub register : IsRegister new
  pub version : IsOfVersion Three new
  pub rows : tables_of new ≡ record (tables_of old) { meta = third_version }
  pub others : (name : List ℕ) → same_name (codes "meta") name ≡ false → rows_named new name ≡ rows_named old name

-- what a stop may leave other than what was there before
abbrev pub LeavesUpgraded : Database → Trees → Type 0
LeavesUpgraded old trees = (new : Database) × IsUpgraded old new × (trees ≡ new.trees)

abbrev pub second_text : List ℕ
second_text = codes "CREATE TABLE second (network INTEGER PRIMARY KEY, family INTEGER NOT NULL, lo BLOB NOT NULL, length INTEGER NOT NULL) STRICT"

abbrev pub reader_text : List ℕ
reader_text = codes "CREATE TABLE reader (digest BLOB NOT NULL PRIMARY KEY) STRICT"

abbrev pub clear_text : List ℕ
clear_text = codes "DELETE FROM meta"

abbrev pub say_text : List ℕ
say_text = codes "INSERT INTO meta (version) VALUES (3)"

abbrev pub upgrade_texts : List (List ℕ)
upgrade_texts = second_text ∷ reader_text ∷ clear_text ∷ say_text ∷ []

-- the register with the rows that it had at the start, but for those of `meta`
pub record HasRows (start db : Database) : Type 0 where
  pub register : IsRegister db
  pub counted : lacks_sequence db.schema ≡ false
  pub rows : (meta : List MetaRow) → record (tables_of db) { meta = meta } ≡ record (tables_of start) { meta = meta }
  pub others : (name : List ℕ) → same_name (codes "meta") name ≡ false → rows_named db name ≡ rows_named start name
  pub seconds : AreSeconds (rows_named start (codes "second"))
  pub readers : rows_named start (codes "reader") ≡ []

-- one of the statements is refused, by a database that has the rows of the start
abbrev pub StopsUpgrade : Database → Type 0
StopsUpgrade start = (text : List ℕ) × Has upgrade_texts text × (db : Database) × HasRows start db × Refuses None db text []

-- ---- from statement to statement

-- a register of an older version, where nothing was done yet
pub record Begins (from : Version) (start db : Database) : Type 0 where
  pub same : db ≡ start
  pub may : MayUpgrade from start
  pub older : from ≡ Three → ⊥

pub record MadeSecond (start db : Database) : Type 0 where
  pub still : HasRows start db
  pub second : HasSecond db.schema
  pub free : is_used db.schema (codes "reader") ≡ false

pub record MadeBoth (start db : Database) : Type 0 where
  pub still : HasRows start db
  pub second : HasSecond db.schema
  pub reader : HasReader db.schema

-- so it is, and no version is said
pub record Cleared (start db : Database) : Type 0 where
  pub made : MadeBoth start db
  pub none : db.trees 0 ≡ []

-- if a step from such a database fails with a fault of the store, the fault has a cause, or `P` holds
abbrev pub StopsFrom : {X : Type 0} → Type 0 → (Database → Type 0) → State → State → Result X Fault → Type 0
StopsFrom P from old new r = IsTrue old.in_transaction → (IsTrue old.is_open → from old.now) → IfErr r (HasCauseOr P old new)
