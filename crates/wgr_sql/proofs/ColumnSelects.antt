-- A SELECT of one column of a table that is found by its name, whatever else the table has.
use Rattle.std.proofs.Common.{◌≡◌, ℕ, ◌&&◌, List, true, false, [], ◌∷◌, Some, None, Ok, slice_get, refl}
use Rattle.sqlite.specs.Command.TheVariants.{Select}
use Rattle.sqlite.specs.Schema.{Schema}
use Rattle.sqlite.specs.Table.{Table}
use Rattle.sqlite.specs.Term.{col}
use Rattle.sqlite_ast.specs.declared.Core.{Core, out-Core}
use Rattle.sqlite_ast.specs.declared.Expr.{Expr, out-Expr}
use Rattle.sqlite_ast.specs.declared.Expr.TheOpen.{Expr-F, Shown-F}
use Rattle.sqlite_ast.specs.declared.Select as written_select
use Rattle.sqlite_ast.specs.declared.Shown.{Shown, out-Shown}
use Rattle.sqlite_ast.specs.declared.Source.{Source}
use Rattle.sqlite_schema.specs.Names.{column_named, place_of}
use Rattle.sqlite_schema.specs.declared.schema.Column.{Column}
use Rattle.sqlite_typing.specs.Types.{accepts_after, is_count}
use Rattle.sqlite_resolve.specs.declared.scope.Output.{Output}
use Rattle.sqlite_resolve.specs.Scope.{Name, declared}
use Rattle.sqlite_resolve.specs.Select.{inside}
use Rattle.sqlite_resolve.specs.Compile.{read}
use Rattle.wgr_sql.specs.Effects.{plain_query}
use Rattle.wgr_sql.specs.Named.{Holds}
use Rattle.wgr_sql.proofs.Comparisons.{slots_of}
use Rattle.wgr_sql.proofs.Expressions.{spent}
use Rattle.wgr_sql.proofs.NamedColumns.{level_as, over}
use Rattle.wgr_sql.proofs.NamedSelects.{joins_are, matches_all, outputs_cons, outputs_is, shows_column, sorts_none}
use Rattle.wgr_sql.proofs.PlainSelects.{IsSimple, simple_read, start, tables}

module _ (schema : Schema) (name : List ℕ) (at : ℕ) (table : Table) (h : Holds schema name at table) (q : written_select.Select) (core : Core) (src : Source) (simple : IsSimple name q core src) (a : Shown) (x : Expr) (t : Name)
    (a_is : out-Shown a ≡ Shown-F.One x None t) (shown : (out-Core core).shown ≡ a ∷ []) (all : (out-Core core).filter ≡ None) (order : (written_select.out-Select q).order ≡ [])
    (word : List ℕ) (k : ℕ) (c : Column) (x_is : out-Expr x ≡ Expr-F.Column None word) (is_named : column_named table word ≡ Some k) (is_column : slice_get table.columns k ≡ Some c) where
  pub column_read : (let p = plain_query table.tree [] (col 1 (place_of table k) ∷ []) [] in
      (accepts_after [] p (Some (slots_of schema name at table h)) && (is_count [] p.limit && is_count [] p.offset)) ≡ true)
      → read schema q ≡ Ok (Select (record { lets = []; body = plain_query table.tree [] (col 1 (place_of table k) ∷ []) [] }) (c.name ∷ []))
  column_read typed =
      let s1 = spent start (declared table k c) in
      let out : Output = record { name = c.name; is_alias = false; is_column = true; term = col 1 (place_of table k); carried = declared table k c } in
      let outs : List Output = out ∷ [] in
      let cx = over schema name at table h name [] true in
      let ts = tables schema name at table h q core src simple in
      let outputs = outputs_is cx ts (a ∷ []) start _
      (outputs_cons cx ts [] a [] start s1 out (Ok (outs, s1)) (shows_column schema name at table h [] true word k c is_named is_column ts [] a x t start a_is x_is refl) refl) in
      let joined = joins_are schema name at table h src simple.table_is simple.alias simple.using simple.inner simple.on outs s1 in
      simple_read schema name at table h q core src simple outs [] [] s1 s1 s1 (rw shown outputs) (matches_all schema name at table h core src simple.from outs s1 joined all) refl refl refl
      (rw order (sorts_none (inside schema (level_as schema name at table h name outs) false) outs s1)) typed refl
