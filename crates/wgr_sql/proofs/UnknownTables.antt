-- A text that names a table which isn't there isn't understood.
use Rattle.std.proofs.Common.{◌≡◌, ℕ, List, [], ◌∷◌, Option, None, Ok, Err}
use Rattle.sqlite.specs.Schema.{Schema}
use Rattle.sqlite.specs.Term.{Term}
use Rattle.sqlite.specs.Listing.{understood, listing_schema}
use Rattle.sqlite_ast.specs.declared.Core.{Core, out-Core}
use Rattle.sqlite_ast.specs.declared.Expr.{Expr}
use Rattle.sqlite_ast.specs.declared.Origin.TheVariants as origin
use Rattle.sqlite_ast.specs.declared.Rows.{Rows}
use Rattle.sqlite_ast.specs.declared.Select as written_select
use Rattle.sqlite_ast.specs.declared.Sort.{Sort}
use Rattle.sqlite_ast.specs.declared.Source.{Source, out-Source}
use Rattle.sqlite_ast.specs.declared.Statement.{Statement}
use Rattle.sqlite_ast.specs.declared.Statement.TheVariants as written
use Rattle.sqlite_schema.specs.Names.{table_named, view_named}
use Rattle.sqlite_syntax.specs.declared.statement.Parsed.{Parsed}
use Rattle.sqlite_resolve.specs.declared.error.CompileError.TheVariants.{NoSuchTable}
use Rattle.sqlite_resolve.specs.Scope.{Name}
use Rattle.sqlite_resolve.specs.Lowering.{take_slot, fresh, max_budget}
use Rattle.sqlite_resolve.specs.Body as at_body
use Rattle.sqlite_resolve.specs.Select.{named, paging, constant_or, parts}
use Rattle.sqlite_resolve.specs.Program as at_program
use Rattle.sqlite_resolve.specs.Compile.{command, compiled, delete, first, insert, meaning, planned, read, returning}
use Rattle.wgr_sql.proofs.NamedSelects.{no_limit}

module _ (schema : Schema) (text : List ℕ) where
  pub not_understood : compiled schema text ≡ Err NoSuchTable → compiled listing_schema text ≡ Err NoSuchTable → understood schema text ≡ Err NoSuchTable
  unfolding understood
  not_understood here there = rw (here, there)

  pub not_compiled : (p : Parsed) → first text ≡ Ok p → ((base : ℕ) → returning schema base p.statement ≡ Ok None) → ((formats : List Name) (base : ℕ) → command schema formats base p.statement ≡ Err NoSuchTable) → compiled schema text ≡ Err NoSuchTable
  unfolding compiled planned meaning
  not_compiled p is quiet fails = rw (is, quiet, fails)

pub insert_fails : (schema : Schema) (name : List ℕ) (base : ℕ) (columns : List Name) (rows : Rows) → table_named schema name ≡ None → insert schema base name columns rows ≡ Err NoSuchTable
unfolding insert
insert_fails schema name base columns rows none = rw none

pub delete_fails : (schema : Schema) (name : List ℕ) (test : Option Expr) → table_named schema name ≡ None → delete schema name test ≡ Err NoSuchTable
unfolding delete
delete_fails schema name test none = rw none

-- a query, where no view has the name either
module _ (schema : Schema) (name : List ℕ) (none : table_named schema name ≡ None) (unseen : view_named schema name ≡ None) (src : Source) (table : (out-Source src).origin ≡ origin.Table name) where
  bounds_fail : at_body.bounds schema (src ∷ []) (fresh 1 max_budget) ≡ Err NoSuchTable
  unfolding at_body.bounds at_body.bound at_body.table_in take_slot
  bounds_fail = rw (table, none, unseen)

  named_fails : (core : Core) (order : List Sort) (page : Term × Term) → (out-Core core).from ≡ src ∷ [] → named schema core order page ≡ Err NoSuchTable
  unfolding named parts at_body.body
  named_fails core order page from = rw (from, bounds_fail)

  pub read_fails : (q : written_select.Select) → (written_select.out-Select q).with ≡ [] → (written_select.out-Select q).others ≡ [] → (written_select.out-Select q).limit ≡ None → (written_select.out-Select q).offset ≡ None
      → (out-Core (written_select.out-Select q).first).from ≡ src ∷ [] → read schema q ≡ Err NoSuchTable
  unfolding read at_program.query at_program.query_to at_program.level at_program.with at_program.whole at_program.alone at_program.single at_program.sources at_program.source at_program.viewing paging constant_or
  read_fails q plain single unlimited whole from = rw (plain, unlimited, whole, single, from, table, named_fails (written_select.out-Select q).first (written_select.out-Select q).order no_limit from)

pub select_fails : (schema : Schema) (formats : List Name) (base : ℕ) (s : Statement) (q : written_select.Select) → s ≡ written.Select q → read schema q ≡ Err NoSuchTable → command schema formats base s ≡ Err NoSuchTable
unfolding command
select_fails schema formats base s q is fails = rw (is, fails)

pub select_quiet : (schema : Schema) (base : ℕ) (s : Statement) (q : written_select.Select) → s ≡ written.Select q → returning schema base s ≡ Ok None
unfolding returning
select_quiet schema base s q is = rw is
