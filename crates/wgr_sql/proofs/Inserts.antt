-- INSERT into a table that is found by its name.
use Rattle.std.proofs.Common.{◌≡◌, ℕ, List, Ok, ◌∙◌}
use Rattle.sqlite.specs.Command.TheVariants.{Insert}
use Rattle.sqlite.specs.Source.{Source}
use Rattle.sqlite.specs.Schema.{Schema}
use Rattle.sqlite.specs.Table.{Table}
use Rattle.sqlite_ast.specs.declared.Rows.{Rows}
use Rattle.sqlite_resolve.specs.Scope.{Name}
use Rattle.sqlite_resolve.specs.Lowering.{and_then}
use Rattle.sqlite_resolve.specs.Compile.{insert, new_rows, formats_of}
use Rattle.wgr_sql.specs.Named.{Holds}
use Rattle.wgr_sql.proofs.NamedColumns.{on_table_is}

module _ (schema : Schema) (name : List ℕ) (at : ℕ) (table : Table) (h : Holds schema name at table) where
  pub insert_is : (base : ℕ) (columns : List Name) (rows : Rows) (s : Source) → new_rows schema table base columns rows ≡ Ok s → insert schema base name columns rows ≡ Ok (Insert at s)
  unfolding insert
  insert_is base columns rows s is = on_table_is schema name at table h (λ i t. and_then (new_rows schema t base columns rows) (λ s. Ok (Insert i s))) ∙ rw is

  pub formats_are : formats_of schema name ≡ table.stamps.formats
  formats_are = rw (h.named, h.there)
