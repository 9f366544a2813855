-- The rowid of a table that is found by its name.
use Rattle.std.proofs.Common.{◌≡◌, ◌^◌, suc, ℕ, List, Bool, true, false, [], ◌∷◌, ◌++◌, codes, None, Ok, nat_lt, arith}
use Rattle.std.proofs.lemmas.Bool.Decides.{nat_tests}
use Rattle.sqlite.specs.Schema.{Schema}
use Rattle.sqlite.specs.Table.{Table}
use Rattle.sqlite.specs.Term.{Term, col}
use Rattle.sqlite.specs.Collation.TheVariants.{Binary}
use Rattle.sqlite_value.specs.declared.keys.Key.{Key}
use Rattle.sqlite_ast.specs.declared.Expr.{Expr, out-Expr}
use Rattle.sqlite_ast.specs.declared.Expr.TheOpen.{Expr-F, Shown-F}
use Rattle.sqlite_ast.specs.declared.Shown.{Shown, out-Shown}
use Rattle.sqlite_ast.specs.declared.Sort.{Sort, out-Sort}
use Rattle.sqlite_schema.specs.Names.{column_named}
use Rattle.sqlite_resolve.specs.declared.state.State.{State}
use Rattle.sqlite_resolve.specs.declared.scope.Bound.{Bound}
use Rattle.sqlite_resolve.specs.declared.scope.Found.TheVariants as found
use Rattle.sqlite_resolve.specs.declared.scope.Output.{Output}
use Rattle.sqlite_resolve.specs.Lowering.{nothing, alone}
use Rattle.sqlite_resolve.specs.Scope.{Name, alias_of, column_in, is_among, hit, only, in_level, is_rowid, rowid_in, find, term_of, column}
use Rattle.sqlite_resolve.specs.Body as at_body
use Rattle.sqlite_resolve.specs.Expr.{lower, lower_to}
use Rattle.sqlite_resolve.specs.Order as at_order
use Rattle.wgr_sql.specs.Named.{Holds}
use Rattle.wgr_sql.proofs.Expressions.{begun, spent, name_is}
use Rattle.wgr_sql.proofs.NamedColumns.{over}

module _ (schema : Schema) (name : List ℕ) (at : ℕ) (table : Table) (h : Holds schema name at table) (shown : List Output) (sums : Bool) (word : List ℕ) (rowid : is_rowid word ≡ true) (unnamed : column_named table word ≡ None) where
  low_is : nat_lt table.tree (2 ^ 31) ≡ true
  low_is = let low = h.low in grind (arith, nat_tests)

  pub rowid_found : find (over schema name at table h name shown sums) None word ≡ Ok (found.Rowid 1 at)
  unfolding find in_level only hit column_in is_among rowid_in
  rowid_found = rw (h.there, unnamed, rowid, low_is)

  pub rowid_is : (s : State) → column (over schema name at table h name shown sums) None word s ≡ Ok (col 1 0, record s { last = nothing })
  unfolding column term_of
  rowid_is s = rw rowid_found

  pub lowers_rowid : (e : Expr) (depth : ℕ) (s : State) → out-Expr e ≡ Expr-F.Column None word → nat_lt 1 s.budget ≡ true → lower_to (suc depth) (over schema name at table h name shown sums) e s ≡ Ok (col 1 0, spent s nothing)
  lowers_rowid e depth s is room = name_is (over schema name at table h name shown sums) depth e s room word is (col 1 0) nothing (rowid_is (begun s))

  module _ (keyless : table.key ≡ None) where
    heading_rowid : (e : Expr) (text : Name) → out-Expr e ≡ Expr-F.Column None word → at_body.heading (over schema name at table h name shown sums) e text ≡ codes "rowid"
    unfolding at_body.heading at_body.declared
    heading_rowid e text is = rw (is, rowid_found, h.there, keyless)

    pub shows_rowid : (tables : List Bound) (done : List Output) (sh : Shown) (e : Expr) (text : Name) (s : State) → out-Shown sh ≡ Shown-F.One e None text → out-Expr e ≡ Expr-F.Column None word → nat_lt 1 s.budget ≡ true
        → at_body.shown lower (over schema name at table h name shown sums) tables done sh s ≡ Ok (done ++ record { name = codes "rowid"; is_alias = false; is_column = true; term = col 1 0; carried = nothing } ∷ [], spent s nothing)
    unfolding at_body.shown at_body.is_column
    shows_rowid tables done sh e text s one is room = rw (one, lowers_rowid e 699 s is room, heading_rowid e text is, is)

  pub sorts_by_rowid : (e : Expr) (st : Sort) (done : List (Term × Key)) (s : State) → (out-Sort st).key ≡ e → (out-Sort st).descending ≡ false → (out-Sort st).nulls_first ≡ None → out-Expr e ≡ Expr-F.Column None word → nat_lt 1 s.budget ≡ true
      → alias_of word shown ≡ None → at_order.sort lower (over schema name at table h name shown sums) shown done st s ≡ Ok (done ++ (col 1 0, record { collation = Binary; descending = false }) ∷ [], spent s nothing)
  unfolding at_order.sort at_order.peeled at_order.alias_in at_order.key at_order.is_numeral at_order.collation_of at_order.written_on at_order.placed alone
  sorts_by_rowid e st done s key rises plain is room free = rw (key, is, is, free, lowers_rowid e 699 s is room, is, plain, rises)
