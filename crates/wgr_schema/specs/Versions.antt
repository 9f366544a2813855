-- A database that has the register's tables, of a version.
use Rattle.std.specs.Prelude.{◌≡◌, ◌↔◌, ◌⊎◌, ◌^◌, ℕ, not, ◌==◌, nat_le, true, false, Option, Some, List, [], ◌∷◌, map, pos, codes}
use Rattle.std.specs.List.{list_all}
use Rattle.sqlite_value.specs.Order.{Row, column}
use Rattle.sqlite.specs.declared.types.Value.TheVariants.{Int}
use Rattle.sqlite.specs.Schema.{Schema}
use Rattle.sqlite.specs.Effect.{Database}
use Rattle.sqlite_catalog.specs.Change.{is_used}
use Rattle.wgr_sql.specs.Named.{is_alone}
use Rattle.wgr_columns.specs.declared.columns.meta.TheConstants as meta
use Rattle.wgr_columns.specs.Layout.{HasReader, HasSecond, first_free_tree}
use Rattle.wgr_columns.specs.LaidOut.{IsLaidOut}
use Rattle.wgr_schema.specs.declared.version.Version.{Version}
use Rattle.wgr_schema.specs.declared.version.Version.TheVariants.{One, Two, Three}

abbrev pub version_number : Version → ℕ
version_number One = 1
version_number Two = 2
version_number Three = 3

-- there is one row, and its first value is the version's number
abbrev pub SaysVersion : Version → List Row → Type 0
SaysVersion version rows = map (λ r. column r meta.VERSION) rows ≡ Int (pos (version_number version)) ∷ []

-- the version's tables beside the first six are there
abbrev pub HasTablesOf : Version → Schema → Type 0
HasTablesOf One schema = Unit {0}
HasTablesOf Two schema = HasSecond schema
HasTablesOf Three schema = HasSecond schema × HasReader schema

-- the tables are there, and the row of the version says that it is this one
abbrev pub IsOfVersion : Version → Database → Type 0
IsOfVersion version db = IsLaidOut db.schema × SaysVersion version (db.trees 0) × HasTablesOf version db.schema

-- the tables are those of a version before the present one
abbrev pub IsOfEarlierVersion : Database → Type 0
IsOfEarlierVersion db = IsOfVersion One db ⊎ IsOfVersion Two db

-- exactly this version is the database's, if any is
abbrev pub IsVersionOf : Option Version → Database → Type 0
IsVersionOf found db = (version : Version) → (found ≡ Some version) ↔ IsOfVersion version db

-- no table, index or view has the name of a table that the version lacks
abbrev pub AreFree : Version → Schema → Type 0
AreFree One schema = (is_used schema (codes "second") ≡ false) × (is_used schema (codes "reader") ≡ false)
AreFree Two schema = is_used schema (codes "reader") ≡ false
AreFree Three schema = Unit {0}

-- ---- tables that are found by their names

-- The tree is after the register's, and is none that a statement computes; the table of this name alone has
-- it, and no index.
pub record HasOwnTree (name : List ℕ) (tree : ℕ) (schema : Schema) : Type 0 where
  pub past : nat_le first_free_tree tree ≡ true
  pub low : nat_le (2 ^ 31) tree ≡ false
  pub alone : list_all (is_alone name tree) schema.tables ≡ true
  pub unindexed : list_all (λ i. not (i.tree == tree)) schema.indexes ≡ true
