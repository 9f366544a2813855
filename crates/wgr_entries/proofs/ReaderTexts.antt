-- What the statements on `reader` mean, wherever the table is.
use Rattle.std.proofs.Common.{◌≡◌, ℕ, List, true, false, [], ◌∷◌, codes, slice_get, Some, None, Ok, refl, ap, arith}
use Rattle.sqlite.specs.Command.TheVariants.{Delete, Insert, Select}
use Rattle.sqlite.specs.Source.TheVariants.{Values}
use Rattle.sqlite.specs.Schema.{Schema}
use Rattle.sqlite.specs.Table.{Table}
use Rattle.sqlite.specs.Term.{Term, lit, col}
use Rattle.sqlite.specs.Collation.TheVariants.{Binary}
use Rattle.sqlite.specs.Kind.TheVariants.{Blob}
use Rattle.sqlite.specs.declared.types.Value.TheVariants.{Null}
use Rattle.sqlite_sql.specs.declared.ops.CompareOp.TheVariants.{Eq}
use Rattle.sqlite_ast.specs.declared.Binary.TheVariants as binary
use Rattle.sqlite_ast.specs.declared.Core.{Core, out-Core}
use Rattle.sqlite_ast.specs.declared.Expr.{Expr, out-Expr}
use Rattle.sqlite_ast.specs.declared.Expr.TheOpen.{Expr-F, Shown-F}
use Rattle.sqlite_ast.specs.declared.Select as written_select
use Rattle.sqlite_ast.specs.declared.Shown.{Shown, out-Shown}
use Rattle.sqlite_ast.specs.declared.Sort.{Sort, out-Sort}
use Rattle.sqlite_ast.specs.declared.Source.{Source}
use Rattle.sqlite_draft.specs.declared.join.Step.TheVariants.{Inner}
use Rattle.sqlite_schema.specs.Names.{same_name}
use Rattle.sqlite_schema.specs.declared.schema.Column.{Column}
use Rattle.sqlite_tied.specs.Compute.{everything}
use Rattle.sqlite_resolve.specs.declared.state.State.{State}
use Rattle.sqlite_resolve.specs.declared.scope.Output.{Output}
use Rattle.sqlite_resolve.specs.Scope.{Name, declared}
use Rattle.sqlite_resolve.specs.Lowering.{alone, fresh, max_budget, nothing}
use Rattle.sqlite_resolve.specs.Expr.{lower}
use Rattle.sqlite_resolve.specs.Select.{inside}
use Rattle.sqlite_resolve.specs.Write.{simple}
use Rattle.sqlite_resolve.specs.Compile.{first, read}
use Rattle.wgr_sql.specs.Effects.{plain_query}
use Rattle.wgr_sql.specs.Named.{Holds}
use Rattle.wgr_sql.proofs.Comparisons.{accepts_is, column_typed, compared_is, compares, parameter_plain, program_is}
use Rattle.wgr_sql.proofs.Compiles.{Compiles, compiled_is, got, held, select_is}
use Rattle.wgr_sql.proofs.Deletes.{delete_is, deleted_is}
use Rattle.wgr_sql.proofs.Expressions.{begun, ended, spent}
use Rattle.wgr_sql.proofs.Inserts.{formats_are, insert_is}
use Rattle.wgr_sql.proofs.NamedColumns.{level_as, over}
use Rattle.wgr_sql.proofs.NamedSelects.{joins_are, matches, matches_all, outputs_cons, outputs_is, shows_column, shows_null, sorts_by, sorts_none, sorts_one}
use Rattle.wgr_sql.proofs.PlainSelects.{IsSimple, simple_read, start, tables}
use Rattle.wgr_sql.proofs.TextParts.{columns_in, expr_in, left_in, right_in, rows_in, select_in, test_in, text_in}
use Rattle.wgr_columns.specs.Layout.{column_of, reader_table_at}
use Rattle.wgr_columns.proofs.Statements.{equal_to, rising}

abbrev null_output : Name → Output
null_output text = record { name = text; is_alias = false; is_column = false; term = lit Null; carried = nothing }

abbrev digest : Column
digest = column_of (codes "digest") Blob true

abbrev digest_output : Output
digest_output = record { name = codes "digest"; is_alias = false; is_column = true; term = col 1 1; carried = record { collation = Some Binary; is_written = false } }

module _ (schema : Schema) (at tree : ℕ) (h : Holds schema (codes "reader") at (reader_table_at tree)) (q : written_select.Select) (core : Core) (src : Source) (simple : IsSimple (codes "reader") q core src) (a b : Shown) (x y : Expr) (t u : Name)
    (a_is : out-Shown a ≡ Shown-F.One x None t) (b_is : out-Shown b ≡ Shown-F.One y None u) (shown : (out-Core core).shown ≡ a ∷ b ∷ []) where
  abbrev name : List ℕ
  name = codes "reader"

  abbrev table : Table
  table = reader_table_at tree

  -- NULL, digest, where the digest is the parameter's
  module _ (x_is : out-Expr x ≡ Expr-F.Null) (y_is : out-Expr y ≡ Expr-F.Column None (codes "digest")) (w l r : Expr) (filter : (out-Core core).filter ≡ Some w) (w_is : out-Expr w ≡ Expr-F.Binary binary.Eq l r)
      (l_is : out-Expr l ≡ Expr-F.Column None (codes "digest")) (r_is : out-Expr r ≡ Expr-F.Parameter 1) (order : (written_select.out-Select q).order ≡ []) where
    abbrev seen1 : State
    seen1 = spent start nothing

    abbrev seen2 : State
    seen2 = spent seen1 (declared table 0 digest)

    abbrev seen3 : State
    seen3 = ended seen2 (spent (spent (begun seen2) (declared table 0 digest)) nothing)

    digest_equals : (outs : List Output) → lower (over schema name at table h name outs false) w seen2 ≡ Ok (equal_to 1 0, seen3)
    unfolding everything
    digest_equals outs =
        let both = compared_is (over schema name at table h name outs false) Eq Binary (col 1 1) (col 0 0) _ _ (column_typed schema name at table h name outs false 0 digest refl) (parameter_plain schema name at table h name outs false 0) refl refl in
        compares schema name at table h name outs false w l r binary.Eq Eq (codes "digest") 0 1 digest 698 seen2 w_is l_is r_is refl refl refl refl refl refl refl (λ t. ap (λ x. Ok (x, t)) both)

    pub digest_read : read schema q ≡ Ok (Select (record { lets = []; body = plain_query tree (equal_to 1 0 ∷ []) (lit Null ∷ col 1 1 ∷ []) [] }) (t ∷ codes "digest" ∷ []))
    unfolding same_name
    digest_read =
        let outs : List Output = null_output t ∷ digest_output ∷ [] in
        let cx = over schema name at table h name [] true in
        let ts = tables schema name at table h q core src simple in
        let outputs = outputs_is cx ts (a ∷ b ∷ []) start _
        (outputs_cons cx ts [] a (b ∷ []) start seen1 (null_output t) _ (shows_null schema name at table h [] true ts [] a x t start a_is x_is refl)
        (outputs_cons cx ts (null_output t ∷ []) b [] seen1 seen2 digest_output (Ok (outs, seen2)) (shows_column schema name at table h [] true (codes "digest") 0 digest refl refl ts (null_output t ∷ []) b y u seen1 b_is y_is refl) refl)) in
        let joined = joins_are schema name at table h src simple.table_is simple.alias simple.using simple.inner simple.on outs seen2 in
        simple_read schema name at table h q core src simple outs (equal_to 1 0 ∷ []) [] seen2 seen3 seen3 (rw shown outputs) (matches schema name at table h core src simple.from outs seen2 joined w (equal_to 1 0) seen3 filter (digest_equals outs)) refl refl refl
        (rw order (sorts_none (inside schema (level_as schema name at table h name outs) false) outs seen3)) refl refl

-- ---- all digests, in their order

abbrev pub digests_text : List ℕ
digests_text = codes "SELECT NULL, digest FROM reader ORDER BY digest"

module _ (schema : Schema) (at tree : ℕ) (h : Holds schema (codes "reader") at (reader_table_at tree)) (q : written_select.Select) (core : Core) (src : Source) (simple : IsSimple (codes "reader") q core src) (a b : Shown) (x y k : Expr) (t u : Name) (st : Sort)
    (a_is : out-Shown a ≡ Shown-F.One x None t) (b_is : out-Shown b ≡ Shown-F.One y None u) (shown : (out-Core core).shown ≡ a ∷ b ∷ []) (x_is : out-Expr x ≡ Expr-F.Null) (y_is : out-Expr y ≡ Expr-F.Column None (codes "digest"))
    (order : (written_select.out-Select q).order ≡ st ∷ []) (key : (out-Sort st).key ≡ k) (rises : (out-Sort st).descending ≡ false) (plain : (out-Sort st).nulls_first ≡ None) (k_is : out-Expr k ≡ Expr-F.Column None (codes "digest"))
    (all : (out-Core core).filter ≡ None) where
  digests_read : read schema q ≡ Ok (Select (record { lets = []; body = plain_query tree [] (lit Null ∷ col 1 1 ∷ []) (rising 1 ∷ []) }) (t ∷ codes "digest" ∷ []))
  unfolding same_name alone
  digests_read =
      let name = codes "reader" in
      let table = reader_table_at tree in
      let s1 = spent start nothing in
      let s2 = spent s1 (declared table 0 digest) in
      let s3 = spent s2 (declared table 0 digest) in
      let outs : List Output = null_output t ∷ digest_output ∷ [] in
      let cx = over schema name at table h name [] true in
      let ts = tables schema name at table h q core src simple in
      let outputs = outputs_is cx ts (a ∷ b ∷ []) start _
      (outputs_cons cx ts [] a (b ∷ []) start s1 (null_output t) _ (shows_null schema name at table h [] true ts [] a x t start a_is x_is refl)
      (outputs_cons cx ts (null_output t ∷ []) b [] s1 s2 digest_output (Ok (outs, s2)) (shows_column schema name at table h [] true (codes "digest") 0 digest refl refl ts (null_output t ∷ []) b y u s1 b_is y_is refl) refl)) in
      let joined = joins_are schema name at table h src simple.table_is simple.alias simple.using simple.inner simple.on outs s2 in
      let sorted = sorts_one (inside schema (level_as schema name at table h name outs) false) outs st s2 s3 (rising 1 ∷ []) (sorts_by schema name at table h outs false (codes "digest") 0 digest refl refl k st [] s2 key rises plain k_is refl refl refl refl) in
      simple_read schema name at table h q core src simple outs [] (rising 1 ∷ []) s2 s2 s3 (rw shown outputs) (matches_all schema name at table h core src simple.from outs s2 joined all) refl refl refl (rw order sorted) refl refl

-- ---- the texts

abbrev pub digest_text : List ℕ
digest_text = codes "SELECT NULL, digest FROM reader WHERE digest = ?1"

module _ (schema : Schema) (at tree : ℕ) (h : Holds schema (codes "reader") at (reader_table_at tree)) where
  pub digest_compiles : Compiles schema digest_text (Select (record { lets = []; body = plain_query tree (equal_to 1 0 ∷ []) (lit Null ∷ col 1 1 ∷ []) [] }) (codes "NULL" ∷ codes "digest" ∷ [])) 1
  unfolding everything got held
  digest_compiles =
      let p = got (first digest_text) refl in
      let q = held (select_in p.statement) refl in
      let core = (written_select.out-Select q).first in
      let src = held (slice_get (out-Core core).from 0) refl in
      let a = held (slice_get (out-Core core).shown 0) refl in
      let b = held (slice_get (out-Core core).shown 1) refl in
      let x = held (expr_in (out-Shown a)) refl in
      let y = held (expr_in (out-Shown b)) refl in
      let w = held (out-Core core).filter refl in
      let simple : IsSimple (codes "reader") q core src = record {
        first = refl;
        with = refl;
        others = refl;
        limit = refl;
        offset = refl;
        from = refl;
        group = refl;
        having = refl;
        distinct = refl;
        table_is = refl;
        alias = refl;
        using = refl;
        inner = refl;
        on = refl;
      } in
      record {
        parsed = p;
        is = select_is schema digest_text p q _ refl refl refl
            (digest_read schema at tree h q core src simple a b x y (text_in (out-Shown a)) (text_in (out-Shown b)) refl refl refl refl refl w (left_in w (out-Expr w)) (right_in w (out-Expr w)) refl refl refl refl refl);
        whole = omega arith;
        names = refl;
        text_is = refl;
      }

  pub digests_compile : Compiles schema digests_text (Select (record { lets = []; body = plain_query tree [] (lit Null ∷ col 1 1 ∷ []) (rising 1 ∷ []) }) (codes "NULL" ∷ codes "digest" ∷ [])) 0
  unfolding everything got held
  digests_compile =
      let p = got (first digests_text) refl in
      let q = held (select_in p.statement) refl in
      let core = (written_select.out-Select q).first in
      let src = held (slice_get (out-Core core).from 0) refl in
      let st = held (slice_get (written_select.out-Select q).order 0) refl in
      let a = held (slice_get (out-Core core).shown 0) refl in
      let b = held (slice_get (out-Core core).shown 1) refl in
      let x = held (expr_in (out-Shown a)) refl in
      let y = held (expr_in (out-Shown b)) refl in
      let simple : IsSimple (codes "reader") q core src = record {
        first = refl;
        with = refl;
        others = refl;
        limit = refl;
        offset = refl;
        from = refl;
        group = refl;
        having = refl;
        distinct = refl;
        table_is = refl;
        alias = refl;
        using = refl;
        inner = refl;
        on = refl;
      } in
      record {
        parsed = p;
        is = select_is schema digests_text p q _ refl refl refl
            (digests_read schema at tree h q core src simple a b x y (out-Sort st).key (text_in (out-Shown a)) (text_in (out-Shown b)) st refl refl refl refl refl refl refl refl refl refl refl);
        whole = omega arith;
        names = refl;
        text_is = refl;
      }

-- ---- INSERT and DELETE

abbrev pub insert_reader_text : List ℕ
insert_reader_text = codes "INSERT INTO reader (digest) VALUES (?1)"

abbrev pub reader_values : List Term
reader_values = lit Null ∷ col 0 0 ∷ []

abbrev pub drop_reader_text : List ℕ
drop_reader_text = codes "DELETE FROM reader WHERE digest = ?1"

module _ (schema : Schema) (at tree : ℕ) where
  pub insert_reader : Holds schema (codes "reader") at (reader_table_at tree) → Compiles schema insert_reader_text (Insert at (Values reader_values 2)) 1
  unfolding everything got
  insert_reader h =
      let p = got (first insert_reader_text) refl in
      record {
        parsed = p;
        is = compiled_is schema insert_reader_text p (Insert at (Values reader_values 2)) refl (formats_are schema (codes "reader") at (reader_table_at tree) h) refl
            (insert_is schema (codes "reader") at (reader_table_at tree) h 1 (columns_in p.statement) (rows_in p.statement) (Values reader_values 2) refl);
        whole = omega arith;
        names = refl;
        text_is = refl;
      }

  -- where the digest is the parameter's
  module _ (h : Holds schema (codes "reader") at (reader_table_at tree)) where
    digest_tested : (e a b : Expr) → out-Expr e ≡ Expr-F.Binary binary.Eq a b → out-Expr a ≡ Expr-F.Column None (codes "digest") → out-Expr b ≡ Expr-F.Parameter 1
        → (s : State) × (lower (over schema (codes "reader") at (reader_table_at tree) h (codes "reader") [] false) e (fresh 2 max_budget) ≡ Ok (equal_to 1 0, s)) × (s.steps ≡ [])
    unfolding everything
    digest_tested e a b is left right =
        let reader = reader_table_at tree in
        let name = codes "reader" in
        let cx = over schema name at reader h name [] false in
        let both = compared_is cx Eq Binary (col 1 1) (col 0 0) _ _ (column_typed schema name at reader h name [] false 0 _ refl) (parameter_plain schema name at reader h name [] false 0) refl refl in
        let c = column_of (codes "digest") Blob true in
        (_, compares schema name at reader h name [] false e a b binary.Eq Eq (codes "digest") 0 1 c 698 (fresh 2 max_budget) is left right refl refl refl refl refl refl refl (λ t. ap (λ x. Ok (x, t)) both), refl)

    pub drop_reader : Compiles schema drop_reader_text (Delete at (record { lets = []; body = plain_query tree (equal_to 1 0 ∷ []) (col 1 0 ∷ []) [] })) 1
    unfolding everything got held
    drop_reader =
        let p = got (first drop_reader_text) refl in
        let e = held (test_in p.statement) refl in
        let found = digest_tested e (left_in e (out-Expr e)) (right_in e (out-Expr e)) refl refl refl in
        let d = simple (Inner tree ∷ []) (equal_to 1 0 ∷ []) (col 1 0 ∷ []) in
        let name = codes "reader" in
        record {
          parsed = p;
          is = compiled_is schema drop_reader_text p _ refl refl refl
              (delete_is schema name at (reader_table_at tree) h (Some e) d _ (deleted_is schema name at (reader_table_at tree) h e (equal_to 1 0) found.0 found.1 found.2)
              (program_is schema d (accepts_is schema name at (reader_table_at tree) h (equal_to 1 0 ∷ []) (col 1 0 ∷ []) [] [] refl)));
          whole = omega arith;
          names = refl;
          text_is = refl;
        }
