-- SELECT from a table that is found by its name.
use Rattle.std.proofs.Common.{◌≡◌, suc, ℕ, negsuc, ◌==◌, List, Bool, true, false, [], ◌∷◌, ◌++◌, length, map, slice_get, nat_lt, Some, None, Ok, refl}
use Rattle.sqlite.specs.Command.TheVariants.{Select}
use Rattle.sqlite.specs.Schema.{Schema}
use Rattle.sqlite.specs.Table.{Table}
use Rattle.sqlite.specs.Term.{Term, lit, col}
use Rattle.sqlite.specs.declared.types.Value.TheVariants.{Null, Int}
use Rattle.sqlite_value.specs.declared.keys.Key.{Key}
use Rattle.sqlite_ast.specs.declared.Expr.{Expr, out-Expr}
use Rattle.sqlite_ast.specs.declared.Expr.TheOpen.{Expr-F, Shown-F}
use Rattle.sqlite_ast.specs.declared.Shown.{Shown, out-Shown}
use Rattle.sqlite_ast.specs.declared.Source.{Source, out-Source}
use Rattle.sqlite_ast.specs.declared.Origin.TheVariants as origin
use Rattle.sqlite_ast.specs.declared.Core.{Core, out-Core}
use Rattle.sqlite_ast.specs.declared.Sort.{Sort, out-Sort}
use Rattle.sqlite_ast.specs.declared.Select as written_select
use Rattle.sqlite_schema.specs.declared.schema.Column.{Column}
use Rattle.sqlite_schema.specs.declared.program.Program.{Program}
use Rattle.sqlite_schema.specs.Names.{column_named, place_of}
use Rattle.sqlite_draft.specs.declared.query.Draft.{Draft}
use Rattle.sqlite_draft.specs.declared.join.Step.TheVariants.{Inner}
use Rattle.sqlite_resolve.specs.declared.state.State.{State}
use Rattle.sqlite_resolve.specs.declared.scope.Bound.{Bound}
use Rattle.sqlite_resolve.specs.declared.scope.Output.{Output}
use Rattle.sqlite_resolve.specs.declared.body.Body.{Body}
use Rattle.sqlite_resolve.specs.declared.body.Joined.{Joined}
use Rattle.sqlite_resolve.specs.declared.select.Clauses.{Clauses}
use Rattle.sqlite_resolve.specs.Scope.{Name, Context, declared, alias_of}
use Rattle.sqlite.specs.Collation.TheVariants.{Binary}
use Rattle.sqlite_sql.specs.Term.{reads_below}
use Rattle.wgr_sql.proofs.Expressions.{begun, spent, name_is, null_is}
use Rattle.sqlite_resolve.specs.Lowering.{Checked, take_slot, fresh, max_budget, nothing, alone}
use Rattle.sqlite_resolve.specs.Terms.{number, conjuncts}
use Rattle.sqlite_resolve.specs.Body as at_body
use Rattle.sqlite_resolve.specs.Expr.{lower, lower_to}
use Rattle.sqlite_resolve.specs.Order as at_order
use Rattle.sqlite_resolve.specs.Select.{parts, named, having, outermost, inside, assembled, paging, constant_or}
use Rattle.sqlite_resolve.specs.Program as at_program
use Rattle.sqlite_resolve.specs.Compile.{read}
use Rattle.wgr_sql.specs.Named.{Holds}
use Rattle.wgr_sql.proofs.NamedColumns.{over, bound_as, level_as, find_is, column_is}

module _ (schema : Schema) (name : List ℕ) (at : ℕ) (table : Table) (h : Holds schema name at table) where
  -- FROM: the table alone, in slot 1
  module _ (src : Source) (from : (out-Source src).origin ≡ origin.Table name) (unaliased : (out-Source src).alias ≡ None) (alone : (out-Source src).using ≡ []) where
    pub bounds_are : (s : State) → s.next ≡ 1 → at_body.bounds schema (src ∷ []) s ≡ Ok (bound_as schema name at table h name ∷ [], record s { next = 2 })
    unfolding at_body.bounds at_body.bound at_body.table_in take_slot
    bounds_are s first = rw (first, from, unaliased, alone, h.named)

    pub joins_are : (out-Source src).is_left ≡ false → (out-Source src).on ≡ None → (shown : List Output) (s : State)
        → at_body.joins lower (over schema name at table h name shown false) (bound_as schema name at table h name ∷ []) (src ∷ []) s ≡ Ok (record { steps = Inner table.tree ∷ []; filter = [] }, s)
    unfolding at_body.joins at_body.join at_body.shared at_body.inner_join at_body.tests
    joins_are inner none shown s = rw (none, alone, h.there, inner)

  -- a column of the result
  module _ (shown : List Output) (sums : Bool) (word : List ℕ) (k : ℕ) (c : Column) (is_named : column_named table word ≡ Some k) (is_column : slice_get table.columns k ≡ Some c) where
    pub lowers_name : (e : Expr) (depth : ℕ) (s : State) → out-Expr e ≡ Expr-F.Column None word → nat_lt 1 s.budget ≡ true
        → lower_to (suc depth) (over schema name at table h name shown sums) e s ≡ Ok (col 1 (place_of table k), spent s (declared table k c))
    lowers_name e depth s is room =
        name_is (over schema name at table h name shown sums) depth e s room word is (col 1 (place_of table k)) (declared table k c) (column_is schema name at table h name shown sums word k c is_named is_column (begun s))

    heading_is : (e : Expr) (text : Name) → out-Expr e ≡ Expr-F.Column None word → at_body.heading (over schema name at table h name shown sums) e text ≡ c.name
    unfolding at_body.heading at_body.declared
    heading_is e text is = rw (is, find_is schema name at table h name shown sums word k c is_named is_column, h.there, is_column)

    abbrev pub column_output : Output
    column_output = record { name = c.name; is_alias = false; is_column = true; term = col 1 (place_of table k); carried = declared table k c }

    pub shows_column : (tables : List Bound) (done : List Output) (sh : Shown) (e : Expr) (text : Name) (s : State) → out-Shown sh ≡ Shown-F.One e None text → out-Expr e ≡ Expr-F.Column None word → nat_lt 1 s.budget ≡ true
        → at_body.shown lower (over schema name at table h name shown sums) tables done sh s ≡ Ok (done ++ column_output ∷ [], spent s (declared table k c))
    unfolding at_body.shown at_body.is_column
    shows_column tables done sh e text s one is room = rw (one, lowers_name e 699 s is room, heading_is e text is, is)

    pub sorts_by : (e : Expr) (st : Sort) (done : List (Term × Key)) (s : State) → (out-Sort st).key ≡ e → (out-Sort st).descending ≡ false → (out-Sort st).nulls_first ≡ None → out-Expr e ≡ Expr-F.Column None word → nat_lt 1 s.budget ≡ true
        → alias_of word shown ≡ None → alone (declared table k c) ≡ Binary → reads_below 1 (col 1 (place_of table k)) ≡ false
        → at_order.sort lower (over schema name at table h name shown sums) shown done st s ≡ Ok (done ++ (col 1 (place_of table k), record { collation = Binary; descending = false }) ∷ [], spent s (declared table k c))
    unfolding at_order.sort at_order.peeled at_order.alias_in at_order.key at_order.is_numeral at_order.collation_of at_order.written_on at_order.placed
    sorts_by e st done s key rises plain is room unnamed by late = rw (key, is, is, unnamed, lowers_name e 699 s is room, is, late, by, plain, rises)

  pub shows_null : (shown : List Output) (sums : Bool) (tables : List Bound) (done : List Output) (sh : Shown) (e : Expr) (text : Name) (s : State) → out-Shown sh ≡ Shown-F.One e None text → out-Expr e ≡ Expr-F.Null → nat_lt 1 s.budget ≡ true
      → at_body.shown lower (over schema name at table h name shown sums) tables done sh s ≡ Ok (done ++ record { name = text; is_alias = false; is_column = false; term = lit Null; carried = nothing } ∷ [], spent s nothing)
  unfolding at_body.shown at_body.is_column at_body.heading
  shows_null shown sums tables done sh e text s one is room = rw (one, null_is (over schema name at table h name shown sums) 699 e s room is, is)

  -- WHERE
  module _ (core : Core) (src : Source) (from : (out-Core core).from ≡ src ∷ []) (shown : List Output) (s : State)
      (joined : at_body.joins lower (over schema name at table h name shown false) (bound_as schema name at table h name ∷ []) (src ∷ []) s ≡ Ok (record { steps = Inner table.tree ∷ []; filter = [] }, s)) where
    pub matches_all : (out-Core core).filter ≡ None → at_body.matching lower (outermost schema) (level_as schema name at table h name shown) core s ≡ Ok (record { steps = Inner table.tree ∷ []; filter = [] }, s)
    unfolding at_body.matching at_body.tests
    matches_all all = rw (from, all, joined)

    pub matches : (e : Expr) (t : Term) (s1 : State) → (out-Core core).filter ≡ Some e → lower (over schema name at table h name shown false) e s ≡ Ok (t, s1)
        → at_body.matching lower (outermost schema) (level_as schema name at table h name shown) core s ≡ Ok (record { steps = Inner table.tree ∷ []; filter = conjuncts t }, s1)
    unfolding at_body.matching at_body.tests
    matches e t s1 is lowered = rw (from, is, joined, lowered)

  pub body_is : (core : Core) (src : Source) (s s1 s2 s3 : State) (shown : List Output) (joined : Joined) → (out-Core core).from ≡ src ∷ []
      → at_body.bounds schema (src ∷ []) s ≡ Ok (bound_as schema name at table h name ∷ [], s1)
      → at_body.outputs lower (over schema name at table h name [] true) (bound_as schema name at table h name ∷ []) (out-Core core).shown s1 ≡ Ok (shown, s2)
      → at_body.matching lower (outermost schema) (level_as schema name at table h name shown) core s2 ≡ Ok (joined, s3)
      → at_body.body lower (outermost schema) core s ≡ Ok (record { level = level_as schema name at table h name shown; steps = joined.steps; filter = joined.filter }, s3)
  unfolding at_body.body at_body.result
  body_is core src s s1 s2 s3 shown joined from bounds outputs matching = rw (from, bounds, outputs, matching)

-- ---- the query around it

pub parts_are : (schema : Schema) (core : Core) (by_order : List Sort) (b : Body) (s1 s2 : State) (order : List (Term × Key)) → at_body.body lower (outermost schema) core (fresh 1 max_budget) ≡ Ok (b, s1) → (length s1.aggregates == 0) ≡ true
    → (out-Core core).group ≡ [] → (out-Core core).having ≡ None → at_order.sorts lower (inside schema b.level false) b.level.shown by_order s1 ≡ Ok (order, s2)
    → parts schema core by_order (fresh 1 max_budget) ≡ Ok (record { body = b; is_grouped = false; keys = []; collations = []; having = []; order = order }, s2)
unfolding parts at_order.keys having at_body.tests
parts_are schema core by_order b s1 s2 order body none ungrouped all sorted = rw (body, ungrouped, none, all, sorted)

pub named_is : (schema : Schema) (core : Core) (by_order : List Sort) (page : Term × Term) (r : Clauses) (s : State) (d : Draft) → parts schema core by_order (fresh 1 max_budget) ≡ Ok (r, s) → assembled (out-Core core).distinct page.0 page.1 r s ≡ Ok d
    → named schema core by_order page ≡ Ok (d, map (λ (o : Output). o.name) r.body.level.shown, map (λ (o : Output). o.carried.collation) r.body.level.shown)
unfolding named
named_is schema core by_order page r s d are is = rw (are, is)

abbrev pub no_limit : Term × Term
no_limit = (lit (Int (negsuc 0)), number 0)

pub query_is : (schema : Schema) (q : written_select.Select) (src : Source) (name : Name) (shown : at_program.Shown) → (written_select.out-Select q).with ≡ [] → (written_select.out-Select q).others ≡ []
    → (written_select.out-Select q).limit ≡ None → (written_select.out-Select q).offset ≡ None → (out-Core (written_select.out-Select q).first).from ≡ src ∷ [] → (out-Source src).origin ≡ origin.Table name
    → named schema (written_select.out-Select q).first (written_select.out-Select q).order no_limit ≡ Ok shown → at_program.query schema q ≡ Ok (shown, [])
unfolding at_program.query at_program.query_to at_program.level at_program.with at_program.whole at_program.alone at_program.single at_program.sources at_program.source at_program.viewing paging constant_or
query_is schema q src name shown plain single unlimited whole from table is = rw (plain, unlimited, whole, single, from, table, is)

pub read_is : (schema : Schema) (q : written_select.Select) (shown : at_program.Shown) (p : Program) → at_program.query schema q ≡ Ok (shown, []) → at_program.program schema [] shown.0 ≡ Ok p → read schema q ≡ Ok (Select p shown.1)
unfolding read
read_is schema q shown p is program = rw (is, program)

-- one column of the result, and those after it
pub outputs_cons : (cx : Context) (tables : List Bound) (done : List Output) (sh : Shown) (more : List Shown) (s s1 : State) (o : Output) (r : Checked (List Output × State)) → at_body.shown lower cx tables done sh s ≡ Ok (done ++ o ∷ [], s1)
    → at_body.outputs_from lower cx tables (done ++ o ∷ []) more s1 ≡ r → at_body.outputs_from lower cx tables done (sh ∷ more) s ≡ r
outputs_cons cx tables done sh more s s1 o r one rest = rw one rest

pub outputs_is : (cx : Context) (tables : List Bound) (all : List Shown) (s : State) (r : Checked (List Output × State)) → at_body.outputs_from lower cx tables [] all s ≡ r → at_body.outputs lower cx tables all s ≡ r
unfolding at_body.outputs
outputs_is cx tables all s r is = is

pub sorts_one : (cx : Context) (shown : List Output) (st : Sort) (s s1 : State) (by : List (Term × Key)) → at_order.sort lower cx shown [] st s ≡ Ok (by, s1) → at_order.sorts lower cx shown (st ∷ []) s ≡ Ok (by, s1)
unfolding at_order.sorts
sorts_one cx shown st s s1 by is = rw is

pub sorts_none : (cx : Context) (shown : List Output) (s : State) → at_order.sorts lower cx shown [] s ≡ Ok ([], s)
unfolding at_order.sorts
sorts_none cx shown s = refl
