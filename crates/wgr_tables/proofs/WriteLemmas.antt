-- What a statement leaves of one of the register's tables: nothing is set off in another.
use Rattle.std.proofs.Common.{◌≡◌, ◌/◌, ℕ, List, [], ◌∷◌, map, drop, filter, length, not, false, nat_le, slice_get, Some, Ok, IsPermutation}
use Rattle.std.specs.List.{list_all}
use Rattle.sqlite.specs.Command.TheVariants.{Delete, Insert, Update}
use Rattle.sqlite.specs.Source.TheVariants.{Values}
use Rattle.sqlite.specs.Edit.{edit_of}
use Rattle.sqlite.specs.Rowids.TheVariants.{Chosen}
use Rattle.sqlite.specs.Rows.{stamped}
use Rattle.sqlite.specs.Order.{Row}
use Rattle.sqlite.specs.Table.{Table}
use Rattle.sqlite.specs.Schema.{Schema}
use Rattle.sqlite.specs.Term.{Term, col, eval_all, holds}
use Rattle.sqlite_trees.specs.Tree.{rowid, put_row}
use Rattle.sqlite.specs.Effect.{value_rows}
use Rattle.sqlite.specs.State.{State, Executes}
use Rattle.sqlite_rules.specs.Calls.{ids_of}
use Rattle.sqlite_rules.specs.Cast.{cast_row}
use Rattle.sqlite_rules.specs.Edit.{id_in, row_at, is_taken}
use Rattle.sqlite_schema.specs.declared.schema.Keys.TheVariants.{Enforced}
use Rattle.wgr_sql.specs.Keyed.{IsKeyed}
use Rattle.wgr_sql.specs.Effects.{plain_query}
use Rattle.wgr_sql.proofs.KeyedLemmas.{revised}
use Rattle.wgr_sql.proofs.RowLemmas.{deleted, inserted, updated}
use Rattle.wgr_sql.proofs.Statements.{Wrote}
use Rattle.wgr_columns.specs.Layout.{schema_with}
use Rattle.wgr_columns.specs.Decode.{IsRegister}
use Rattle.wgr_tables.proofs.LayoutLemmas.{works_none}
use Rattle.wgr_columns.proofs.Statements.{Means}

module _ (old new : State) (register : IsRegister old.now) (sql : List ℕ) (params : Row) (count : ℕ) (ran : Executes sql params old new (Ok count)) where
  abbrev schema : Schema
  schema = schema_with register.others

  module _ (at : ℕ) (table : Table) (is_table : slice_get schema.tables at ≡ Some table) (low : nat_le 13 table.tree ≡ false) where
    pub rows_deleted : (terms : List Term) → Means register.others sql (Delete at (record { lets = []; body = plain_query table.tree terms (col 1 0 ∷ []) [] })) → IsKeyed (old.now.trees table.tree)
        → Wrote old new schema table.tree (filter (λ r. not (list_all (holds (params ∷ r ∷ [])) terms)) (old.now.trees table.tree))
    rows_deleted terms means keyed =
        deleted old new schema register.schema_is sql params means.plain at table is_table count ran terms means.command_is (λ db gone. works_none register.others register.apart Enforced 0 table.tree low (map (row_at (db table.tree)) gone) []) keyed

    pub row_inserted : (terms : List Term) (width : ℕ) → Means register.others sql (Insert at (Values terms width)) → table.is_counted ≡ false → (row : Row)
        → (edit_of old.now.trees table [] Chosen 0 (value_rows (stamped table params) width (length terms / width) terms)).news ≡ row ∷ []
        → Wrote old new schema table.tree (put_row row (old.now.trees table.tree)) × (is_taken (old.now.trees table.tree) row ≡ false)
    row_inserted terms width means uncounted row news =
        inserted old new schema register.schema_is sql params means.plain at table is_table count ran terms width means.command_is uncounted (λ rows. works_none register.others register.apart Enforced 0 table.tree low [] rows) row news

    pub rows_updated : (terms project : List Term) → Means register.others sql (Update at (record { lets = []; body = plain_query table.tree terms project [] })) → (change : Row → Row)
        → ((r : Row) → change r ≡ cast_row table (drop 1 (eval_all project (params ∷ r ∷ [])))) → ((found : List Row) → ids_of (map (λ r. eval_all project (params ∷ r ∷ [])) found) ≡ map (λ r. id_in (rowid r)) found) → IsKeyed (old.now.trees table.tree)
        → (rows : List Row) × Wrote old new schema table.tree rows × IsPermutation (revised (λ r. list_all (holds (params ∷ r ∷ [])) terms) change (old.now.trees table.tree)) rows
    rows_updated terms project means change changes ids keyed =
        updated old new schema register.schema_is sql params means.plain at table is_table count ran terms project means.command_is
        (λ db gone news. works_none register.others register.apart Enforced 0 table.tree low (map (row_at (db table.tree)) gone) news) change changes ids keyed
