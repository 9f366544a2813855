-- Comparisons of a column with a parameter, and the types of a query over one table.
use Rattle.std.proofs.Common.{◌≡◌, ◌-◌, ◌==◌, ◌&&◌, suc, ℕ, List, Bool, true, false, [], ◌∷◌, Some, None, Ok, nat_lt, slice_get, option_map, refl, ap, ◌∙◌}
use Rattle.std.specs.Prelude.{option_and_then, if◌then◌else◌}
use Rattle.sqlite.specs.Collation.{Collation}
use Rattle.sqlite.specs.Order.{Row}
use Rattle.sqlite.specs.Schema.{Schema}
use Rattle.sqlite.specs.Table.{Table}
use Rattle.sqlite.specs.Term.{Term, col, op2}
use Rattle.sqlite_value.specs.declared.keys.Key.{Key}
use Rattle.sqlite_sql.specs.declared.ops.BinaryOp.TheVariants.{Compare}
use Rattle.sqlite_sql.specs.declared.ops.CompareOp.{CompareOp}
use Rattle.sqlite_schema.specs.declared.schema.Column.{Column}
use Rattle.sqlite_draft.specs.declared.query.Draft.{Draft}
use Rattle.sqlite_draft.specs.Query.{query_of}
use Rattle.sqlite_typing.specs.Types.{Slots, table_classes, row_classes, accepts_program, accepts_after, filled, is_count}
use Rattle.sqlite_sql.specs.Query.{end}
use Rattle.sqlite_resolve.specs.declared.compare.Affinity.{Affinity}
use Rattle.sqlite_resolve.specs.declared.compare.Affinity.TheVariants as affinity
use Rattle.sqlite_resolve.specs.Scope.{Context}
use Rattle.sqlite_resolve.specs.Compare.{affinity_of, of_column, of_declared, converted, compared}
use Rattle.sqlite_resolve.specs.declared.scope.Output.{Output}
use Rattle.sqlite_resolve.specs.Program.{program}
use Rattle.wgr_sql.specs.Effects.{plain_query}
use Rattle.wgr_sql.specs.Named.{Holds}
use Rattle.sqlite.specs.Collation.TheVariants.{Binary}
use Rattle.sqlite_ast.specs.declared.Expr.{Expr, out-Expr}
use Rattle.sqlite_ast.specs.declared.Expr.TheOpen.{Expr-F}
use Rattle.sqlite_ast.specs.declared.Binary.{Binary as Operator}
use Rattle.sqlite_schema.specs.Names.{column_named, place_of}
use Rattle.sqlite_resolve.specs.declared.state.State.{State}
use Rattle.sqlite_resolve.specs.Lowering.{chosen, nothing}
use Rattle.sqlite_resolve.specs.Scope.{declared}
use Rattle.sqlite_resolve.specs.Expr.{lower_to, is_identity, combine}
use Rattle.wgr_sql.proofs.Expressions.{begun, ended, spent, binary_is, name_is, parameter_is}
use Rattle.wgr_sql.proofs.NamedColumns.{over, column_is}

pub compared_is : (cx : Context) (op : CompareOp) (how : Collation) (x y : Term) (a b : Affinity) → affinity_of cx x ≡ a → affinity_of cx y ≡ b → converted a b x ≡ x → converted b a y ≡ y
    → compared cx (Compare op how) x y ≡ op2 (Compare op how) x y
unfolding compared
compared_is cx op how x y a b left right same_left same_right = rw (left, right, same_left, same_right)

module _ (schema : Schema) (name : List ℕ) (at : ℕ) (table : Table) (h : Holds schema name at table) where
  module _ (alias : List ℕ) (shown : List Output) (sums : Bool) where
    pub parameter_plain : (j : ℕ) → affinity_of (over schema name at table h alias shown sums) (col 0 j) ≡ affinity.None
    unfolding affinity_of of_column
    parameter_plain j = go (0 == 0 && j == 0)
      where
        go : (b : Bool) → (if b then affinity.None else affinity.None) ≡ affinity.None
        go true = refl
        go false = refl

    pub key_numeric : affinity_of (over schema name at table h alias shown sums) (col 1 0) ≡ affinity.Numeric
    unfolding affinity_of of_column
    key_numeric = refl

    pub column_typed : (k : ℕ) (c : Column) → slice_get table.columns k ≡ Some c → affinity_of (over schema name at table h alias shown sums) (col 1 (suc k)) ≡ of_declared c
    unfolding affinity_of of_column
    column_typed k c is = rw (h.there, is)

    -- a column compared with a parameter
    module _ (e a b : Expr) (op : Operator) (by : CompareOp) (word : List ℕ) (k n : ℕ) (c : Column) (depth : ℕ) (s : State) where
      pub compares : out-Expr e ≡ Expr-F.Binary op a b → out-Expr a ≡ Expr-F.Column None word → out-Expr b ≡ Expr-F.Parameter n → is_identity op ≡ false
          → nat_lt 1 s.budget ≡ true → nat_lt 1 (s.budget - 1) ≡ true → nat_lt 1 (s.budget - 1 - 1) ≡ true → column_named table word ≡ Some k → slice_get table.columns k ≡ Some c
          → chosen (declared table k c) nothing ≡ Binary
          → let cx = over schema name at table h alias shown sums in
          ((t : State) → combine cx op Binary (col 1 (place_of table k)) (col 0 (n - 1)) t ≡ Ok (op2 (Compare by Binary) (col 1 (place_of table k)) (col 0 (n - 1)), t))
          → lower_to (suc (suc depth)) cx e s ≡ Ok (op2 (Compare by Binary) (col 1 (place_of table k)) (col 0 (n - 1)), ended s (spent (spent (begun s) (declared table k c)) nothing))
      compares is left right plain room1 room2 room3 is_named is_column how both =
          let cx = over schema name at table h alias shown sums in
          let s1 = spent (begun s) (declared table k c) in
          let s2 = spent s1 nothing in
          let x = col 1 (place_of table k) in
          let y = col 0 (n - 1) in
          binary_is cx (suc depth) e s room1 op a b is plain x y (op2 (Compare by Binary) x y) s1 s2
          (name_is cx depth a (begun s) room2 word left x (declared table k c) (column_is schema name at table h alias shown sums word k c is_named is_column (begun (begun s))))
          (parameter_is cx depth b s1 room3 n right) (ap (λ way. combine cx op way x y s2) how ∙ both s2)

  -- the slots of a query over the table alone
  abbrev pub slots_of : Slots
  slots_of = row_classes table ∷ []

  pub classes_are : table_classes schema [] table.tree ≡ Some (row_classes table)
  classes_are = rw (h.low, h.by_tree)

  pub accepts_is : (terms project : List Term) (order : List (Term × Key)) (params : Row) →
      let q = plain_query table.tree terms project order in
      (accepts_after params q (Some slots_of) && (is_count params q.limit && is_count params q.offset)) ≡ true → accepts_program schema [] q params ≡ true
  accepts_is terms project order params fine =
      let q = plain_query table.tree terms project order in
      ap (λ o. accepts_after params q (option_and_then (filled schema [] params end) (option_map (λ row. row ∷ []) o)) && (is_count params q.limit && is_count params q.offset)) classes_are ∙ fine

pub program_is : (schema : Schema) (d : Draft) → accepts_program schema [] (query_of d) [] ≡ true → program schema [] d ≡ Ok (record { lets = []; body = query_of d })
unfolding program
program_is schema d fine = rw fine
