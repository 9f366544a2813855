-- What the resolver finds of a table by its name, and of its columns.
use Rattle.std.proofs.Common.{◌≡◌, ℕ, List, Bool, true, [], ◌∷◌, Some, None, Ok, slice_get, ap, ◌∙◌}
use Rattle.sqlite.specs.Schema.{Schema}
use Rattle.sqlite.specs.Table.{Table}
use Rattle.sqlite.specs.Term.{col}
use Rattle.sqlite_schema.specs.declared.schema.Column.{Column}
use Rattle.sqlite_schema.specs.Names.{column_named, place_of}
use Rattle.sqlite_resolve.specs.declared.error.CompileError.TheVariants.{NoSuchTable}
use Rattle.sqlite_resolve.specs.declared.state.State.{State}
use Rattle.sqlite_resolve.specs.declared.scope.Bound.{Bound}
use Rattle.sqlite_resolve.specs.declared.scope.Level.{Level}
use Rattle.sqlite_resolve.specs.declared.scope.Found.TheVariants as found
use Rattle.sqlite_resolve.specs.declared.scope.Output.{Output}
use Rattle.sqlite_resolve.specs.Lowering.{Checked, and_then, or_else}
use Rattle.sqlite_resolve.specs.Scope.{Context, column_in, is_among, hit, only, in_level, find, column_at, term_of, column, declared}
use Rattle.sqlite_resolve.specs.Body.{table_at}
use Rattle.sqlite_resolve.specs.Compile.{target}
use Rattle.wgr_sql.specs.Named.{Holds}

module _ (schema : Schema) (name : List ℕ) (at : ℕ) (table : Table) (h : Holds schema name at table) where
  pub on_table_is : {A : Type 0} (f : ℕ → Table → Checked A) → and_then (target schema name) (λ i. and_then (table_at schema i) (f i)) ≡ f at table
  on_table_is f = ap (λ o. and_then (or_else o NoSuchTable) (λ i. and_then (table_at schema i) (f i))) h.named ∙ ap (λ o. and_then (or_else o NoSuchTable) (f at)) h.there

  -- the table fills slot 1, and is the only one
  abbrev pub bound_as : List ℕ → Bound
  bound_as alias = record { name = alias; table = at; slot = 1; shared = [] }

  abbrev pub level_as : List ℕ → List Output → Level
  level_as alias shown = record { tables = bound_as alias ∷ []; shown = shown }

  abbrev pub over : List ℕ → List Output → Bool → Context
  over alias shown sums = record { schema = schema; levels = level_as alias shown ∷ []; may_aggregate = sums; may_alias = true }

  module _ (alias : List ℕ) (shown : List Output) (sums : Bool) (word : List ℕ) (k : ℕ) (c : Column) (is_named : column_named table word ≡ Some k) (is_column : slice_get table.columns k ≡ Some c) where
    pub find_is : find (over alias shown sums) None word ≡ Ok (found.Column 1 at k)
    unfolding find in_level only hit column_in is_among
    find_is = rw (h.there, is_named)

    pub column_at_is : column_at schema 1 at k ≡ Ok (col 1 (place_of table k), declared table k c)
    unfolding column_at
    column_at_is = rw (h.there, is_column)

    pub column_is : (s : State) → column (over alias shown sums) None word s ≡ Ok (col 1 (place_of table k), record s { last = declared table k c })
    unfolding column term_of
    column_is s = rw (find_is, column_at_is)
