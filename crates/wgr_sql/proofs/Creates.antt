-- CREATE TABLE where nothing has the name.
use Rattle.std.proofs.Common.{◌≡◌, ℕ, ◌==◌, ◌&&◌, ◌||◌, not, List, Bool, true, false, length, Option, Some, None, Ok, refl}
use Rattle.std.specs.Prelude.{is_some}
use Rattle.sqlite.specs.Command.TheVariants.{CreateTable}
use Rattle.sqlite.specs.Schema.{Schema}
use Rattle.sqlite.specs.Table.{Table}
use Rattle.sqlite_ast.specs.declared.CreateTable as written_table
use Rattle.sqlite_ast.specs.declared.Statement.{Statement}
use Rattle.sqlite_ast.specs.declared.Statement.TheVariants as written
use Rattle.sqlite_schema.specs.Names.{table_named, index_named, view_named}
use Rattle.sqlite_catalog.specs.Change.{is_used}
use Rattle.sqlite_resolve.specs.Scope.{Name}
use Rattle.sqlite_resolve.specs.Define as define
use Rattle.sqlite_resolve.specs.Compile.{create_table, creates, is_attached, is_reserved}

pub none_is : {A : Type 0} (o : Option A) → is_some o ≡ false → o ≡ None
none_is None h = refl
none_is (Some a) h = absurd cc

pub neither : (a b : Bool) → (a || b) ≡ false → (a ≡ false) × (b ≡ false)
neither false b h = (refl, h)
neither true b h = absurd cc

module _ (schema : Schema) (name : List ℕ) (free : is_used schema name ≡ false) where
  parts : ((is_some (table_named schema name) || is_some (index_named schema name)) ≡ false) × (is_some (view_named schema name) ≡ false)
  parts = neither _ _ free

  pub no_table : table_named schema name ≡ None
  no_table = none_is _ (neither _ _ parts.0).0

  pub no_index : index_named schema name ≡ None
  no_index = none_is _ (neither _ _ parts.0).1

  pub no_view : view_named schema name ≡ None
  no_view = none_is _ parts.1

pub create_is : (schema : Schema) (formats : List Name) (def : written_table.CreateTable) → is_used schema def.name ≡ false → is_reserved def.name ≡ false → (t : Table) → define.table formats def ≡ Ok t
    → (length t.computed == length t.stamps.places && not def.resolves) ≡ true → create_table schema formats def ≡ Ok CreateTable
unfolding create_table is_attached creates
create_is schema formats def free plain t is whole = rw (no_view schema def.name free, no_table schema def.name free, no_index schema def.name free, plain, is, whole)

-- the table that a CREATE TABLE defines
abbrev pub makes_in : Statement → Option written_table.CreateTable
makes_in (written.CreateTable def) = Some def
makes_in _ = None
