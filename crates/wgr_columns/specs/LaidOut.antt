-- A schema that has the register's tables.
use Rattle.std.specs.Prelude.{◌≡◌, IsTrue, true, take, drop}
use Rattle.std.specs.List.{list_all}
use Rattle.sqlite.specs.Schema.{Schema}
use Rattle.sqlite.specs.State.{State}
use Rattle.wgr_columns.specs.Layout.{Others, AreOthersApart, schema_with, register_tables, register_indexes, is_apart, is_past, refers_to_no_later}

-- the register's tables and indexes are first, and the others are separate
pub record IsLaidOut (schema : Schema) : Type 0 where
  pub others : Others
  pub schema_is : schema ≡ schema_with others
  pub apart : AreOthersApart others

-- the same, stated of the schema's own lists
pub record BeginsWithRegister (schema : Schema) : Type 0 where
  pub tables : take 6 schema.tables ≡ register_tables
  pub indexes : take 7 schema.indexes ≡ register_indexes
  pub apart : list_all (is_apart register_tables) (drop 6 schema.tables) ≡ true
  pub unreferred : list_all refers_to_no_later (drop 6 schema.tables) ≡ true
  pub past : list_all is_past (drop 7 schema.indexes) ≡ true

-- the database has the register's tables, if the store is open
abbrev pub Laid : State → Type 0
Laid s = IsTrue s.is_open → IsLaidOut s.now.schema
