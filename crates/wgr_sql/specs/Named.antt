-- Tables that are found by their names, wherever they stand among a schema's tables.
use Rattle.std.specs.Prelude.{◌≡◌, ◌==◌, ◌||◌, ◌^◌, ℕ, Bool, true, false, not, nat_le, List, [], find, slice_get, Option, Some, None, option_map, option_and_then}
use Rattle.std.specs.List.{list_all}
use Rattle.sqlite_value.specs.Order.{Row}
use Rattle.sqlite_schema.specs.Names.{same_name, table_named}
use Rattle.sqlite.specs.Table.{Table}
use Rattle.sqlite.specs.Schema.{Schema}
use Rattle.sqlite.specs.Tree.{Trees}
use Rattle.sqlite.specs.Effect.{Database}

-- the table of this name stands at this place: all that the meaning of a statement asks
pub record Holds (schema : Schema) (name : List ℕ) (at : ℕ) (table : Table) : Type 0 where
  pub named : table_named schema name ≡ Some at
  pub there : slice_get schema.tables at ≡ Some table
  pub by_tree : find (λ t. t.tree == table.tree) schema.tables ≡ Some table
  pub low : nat_le (2 ^ 31) table.tree ≡ false

-- whether the table has the name, or another tree
abbrev pub is_alone : List ℕ → ℕ → Table → Bool
is_alone name tree t = same_name t.name name || not (t.tree == tree)

-- The table of this name is there, of this form, and no other table and no index has its tree, which is
-- from the first of these trees on.
pub record HasTable (first : ℕ) (name : List ℕ) (form : ℕ → Table) (schema : Schema) : Type 0 where
  pub at : ℕ
  pub tree : ℕ
  pub named : table_named schema name ≡ Some at
  pub there : slice_get schema.tables at ≡ Some (form tree)
  pub past : nat_le first tree ≡ true
  pub low : nat_le (2 ^ 31) tree ≡ false
  pub alone : list_all (is_alone name tree) schema.tables ≡ true
  pub unindexed : list_all (λ i. not (i.tree == tree)) schema.indexes ≡ true

abbrev pub tree_named : Schema → List ℕ → Option ℕ
tree_named schema name = option_map (λ t. t.tree) (option_and_then (slice_get schema.tables) (table_named schema name))

abbrev pub rows_in : Trees → Option ℕ → List Row
rows_in trees None = []
rows_in trees (Some tree) = trees tree

-- the rows of the table of this name: none where it isn't there
abbrev pub rows_named : Database → List ℕ → List Row
rows_named db name = rows_in db.trees (tree_named db.schema name)
