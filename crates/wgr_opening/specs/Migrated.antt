-- What a migration makes of a register, and what a stop in one leaves.
use Rattle.std.specs.Prelude.{◌≡◌, ℕ, Bool, false, List, [], ◌∷◌, codes}
use Rattle.std.specs.List.{list_any}
use Rattle.sqlite.specs.Does.{lacks_sequence}
use Rattle.sqlite.specs.Effect.{Database}
use Rattle.sqlite.specs.Schema.{Schema}
use Rattle.sqlite.specs.Tree.{Trees}
use Rattle.sqlite_schema.specs.Names.{same_name}
use Rattle.wgr_model.specs.Register.{Bytes}
use Rattle.wgr_model.specs.RowLaws.{rows_view}
use Rattle.wgr_sql.specs.Named.{rows_named}
use Rattle.wgr_columns.specs.Decode.{tables_of}
use Rattle.wgr_schema.specs.Versions.{AreFree, IsOfVersion}
use Rattle.wgr_schema.specs.declared.version.Version.{Version}
use Rattle.wgr_schema.specs.declared.version.Version.TheVariants.{One, Two, Three}
use Rattle.wgr_opening.specs.Good.{IsGood, HasSoundRows, as_third}

-- where a table counts its rowids, the table of the counters is there, as SQLite has it
abbrev pub AreCounted : Version → Schema → Type 0
AreCounted One schema = lacks_sequence schema ≡ false
AreCounted Two schema = lacks_sequence schema ≡ false
AreCounted Three schema = Unit {0}

-- the tables are of this version; of an earlier one they are counted
abbrev pub MayMigrate : Version → Database → Type 0
MayMigrate version db = IsOfVersion version db × AreCounted version db.schema

-- a migration of the register succeeds, but for want of memory and faults of the store
pub record CanMigrate (version : Version) (db : Database) : Type 0 where
  pub sound : HasSoundRows db
  pub may : MayMigrate version db
  pub free : AreFree version db.schema

-- whether one of the register's tables has the name
abbrev pub is_register_name : List ℕ → Bool
is_register_name name = list_any (λ own. same_name own name) (codes "meta" ∷ codes "tenant" ∷ codes "token" ∷ codes "network" ∷ codes "peer" ∷ codes "allowed" ∷ codes "second" ∷ codes "reader" ∷ [])

-- A good register of the third version, with the rows that were there: a table that came has none. One that was
-- of the third version is the same, and the tables of others have the rows that they had.
pub record IsMigrated (old new : Database) : Type 0 where
  pub good : IsGood new
  pub rows : tables_of new ≡ as_third (tables_of old)
  pub same : IsOfVersion Three old → new ≡ old
  pub others : (name : List ℕ) → is_register_name name ≡ false → rows_named new name ≡ rows_named old name

-- what a stop may leave, other than what was there before: all of it
abbrev pub LeavesMigrated : Database → Trees → Type 0
LeavesMigrated old trees = (new : Database) × IsMigrated old new × (trees ≡ new.trees)

-- Each tenant is there after a migration, and sees what it saw: the same tokens, and the same networks.
abbrev pub MigrationsKeepViews : Type 0
MigrationsKeepViews = (old new : Database) → IsMigrated old new → ((tables_of new).tenants ≡ (tables_of old).tenants) × ((me : Bytes) → rows_view (tables_of new) me ≡ rows_view (tables_of old) me)
