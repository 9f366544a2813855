-- What the queries of tokens that only read show, wherever their table is.
use Rattle.std.proofs.Common.{◌≡◌, ◌+◌, ℕ, List, true, false, [], ◌∷◌, codes, filter, get_or, is_lt, slice_get, Some, None, Ok, IsPermutation, refl, sym, ap, subst, ◌∙◌, arith}
use Rattle.sqlite.specs.Command.TheVariants.{Select}
use Rattle.sqlite.specs.Collation.TheVariants.{Binary}
use Rattle.sqlite.specs.Kind.TheVariants.{Blob}
use Rattle.sqlite.specs.Listing.{understood}
use Rattle.sqlite.specs.Order.{Row}
use Rattle.sqlite.specs.Program.{overlay}
use Rattle.sqlite.specs.Schema.{Schema}
use Rattle.sqlite.specs.State.{State, Shown}
use Rattle.sqlite.specs.Term.{Term, col, eval_all, lit}
use Rattle.sqlite.specs.declared.types.Value.TheVariants.{Null}
use Rattle.sqlite.proofs.Callers.{IsPlain, reads_as}
use Rattle.sqlite_ast.specs.declared.Core.{Core, out-Core}
use Rattle.sqlite_ast.specs.declared.Expr.{Expr, out-Expr}
use Rattle.sqlite_ast.specs.declared.Expr.TheOpen.{Expr-F, Shown-F}
use Rattle.sqlite_ast.specs.declared.Select as written_select
use Rattle.sqlite_ast.specs.declared.Shown.{Shown as ShownItem, out-Shown}
use Rattle.sqlite_ast.specs.declared.Sort.{Sort, out-Sort}
use Rattle.sqlite_ast.specs.declared.Source.{Source}
use Rattle.sqlite_resolve.specs.Compile.{first, read}
use Rattle.sqlite_resolve.specs.Lowering.{alone, nothing}
use Rattle.sqlite_resolve.specs.Scope.{Name, declared, is_rowid}
use Rattle.sqlite_resolve.specs.Select.{inside}
use Rattle.sqlite_resolve.specs.declared.scope.Output.{Output}
use Rattle.sqlite_schema.specs.Names.{same_name}
use Rattle.sqlite_schema.specs.declared.schema.Column.{Column}
use Rattle.sqlite_tied.specs.Compute.{everything}
use Rattle.sqlite_typing.specs.Types.{accepts_program}
use Rattle.sqlite_value.specs.Order.{column, value_cmp}
use Rattle.sqlite_value.proofs.OrderLemmas.{then-Equal}
use Rattle.wgr_sql.specs.Causes.{AsksPlainly, IsAnswered}
use Rattle.wgr_sql.specs.Effects.{plain_query}
use Rattle.wgr_sql.specs.Named.{Holds, rows_in, rows_named}
use Rattle.wgr_sql.proofs.Answers.{answers}
use Rattle.wgr_sql.proofs.Comparisons.{accepts_is}
use Rattle.wgr_sql.proofs.Compiles.{Compiles, command_is, given, got, held, plain, select_is, understood_is, unlisted}
use Rattle.wgr_sql.proofs.Expressions.{spent}
use Rattle.wgr_sql.proofs.NamedColumns.{level_as, over}
use Rattle.wgr_sql.proofs.NamedLemmas.{holds, tree_is}
use Rattle.wgr_sql.proofs.NamedRowids.{shows_rowid, sorts_by_rowid}
use Rattle.wgr_sql.proofs.NamedSelects.{joins_are, matches_all, outputs_cons, outputs_is, shows_column, shows_null, sorts_by, sorts_one}
use Rattle.wgr_sql.proofs.PlainSelects.{IsSimple, simple_read, start, tables}
use Rattle.wgr_sql.proofs.TextParts.{expr_in, select_in, text_in}
use Rattle.wgr_columns.specs.Layout.{HasReader, column_of, first_free_tree, reader_table_at}
use Rattle.wgr_columns.proofs.Statements.{never_refused, rising}
use Rattle.wgr_checks.specs.ReaderRows.{reader_digest_values, reader_rowid_values}
use Rattle.wgr_checks.specs.TenantRows.{ListsSorted}

abbrev null_output : Name → Output
null_output text = record { name = text; is_alias = false; is_column = false; term = lit Null; carried = nothing }

abbrev rowid_output : Output
rowid_output = record { name = codes "rowid"; is_alias = false; is_column = true; term = col 1 0; carried = nothing }

abbrev digest : Column
digest = column_of (codes "digest") Blob true

abbrev digest_output : Output
digest_output = record { name = codes "digest"; is_alias = false; is_column = true; term = col 1 1; carried = record { collation = Some Binary; is_written = false } }

module _ (schema : Schema) (at tree : ℕ) (h : Holds schema (codes "reader") at (reader_table_at tree)) (q : written_select.Select) (core : Core) (src : Source) (simple : IsSimple (codes "reader") q core src) (a b : ShownItem) (x y k : Expr) (t u : Name) (st : Sort)
    (a_is : out-Shown a ≡ Shown-F.One x None t) (b_is : out-Shown b ≡ Shown-F.One y None u) (shown : (out-Core core).shown ≡ a ∷ b ∷ []) (order : (written_select.out-Select q).order ≡ st ∷ []) (key : (out-Sort st).key ≡ k) (rises : (out-Sort st).descending ≡ false)
    (plain : (out-Sort st).nulls_first ≡ None) (all : (out-Core core).filter ≡ None) where
  -- NULL, digest, in the order of digests
  digests_read : out-Expr x ≡ Expr-F.Null → out-Expr y ≡ Expr-F.Column None (codes "digest") → out-Expr k ≡ Expr-F.Column None (codes "digest")
      → read schema q ≡ Ok (Select (record { lets = []; body = plain_query tree [] (lit Null ∷ col 1 1 ∷ []) (rising 1 ∷ []) }) (t ∷ codes "digest" ∷ []))
  unfolding same_name alone
  digests_read x_is y_is k_is =
      let name = codes "reader" in
      let table = reader_table_at tree in
      let s1 = spent start nothing in
      let s2 = spent s1 (declared table 0 digest) in
      let s3 = spent s2 (declared table 0 digest) in
      let outs : List Output = null_output t ∷ digest_output ∷ [] in
      let cx = over schema name at table h name [] true in
      let ts = tables schema name at table h q core src simple in
      let outputs = outputs_is cx ts (a ∷ b ∷ []) start _
      (outputs_cons cx ts [] a (b ∷ []) start s1 (null_output t) _ (shows_null schema name at table h [] true ts [] a x t start a_is x_is refl)
      (outputs_cons cx ts (null_output t ∷ []) b [] s1 s2 digest_output (Ok (outs, s2)) (shows_column schema name at table h [] true (codes "digest") 0 digest refl refl ts (null_output t ∷ []) b y u s1 b_is y_is refl) refl)) in
      let joined = joins_are schema name at table h src simple.table_is simple.alias simple.using simple.inner simple.on outs s2 in
      let sorted = sorts_one (inside schema (level_as schema name at table h name outs) false) outs st s2 s3 (rising 1 ∷ []) (sorts_by schema name at table h outs false (codes "digest") 0 digest refl refl k st [] s2 key rises plain k_is refl refl refl refl) in
      simple_read schema name at table h q core src simple outs [] (rising 1 ∷ []) s2 s2 s3 (rw shown outputs) (matches_all schema name at table h core src simple.from outs s2 joined all) refl refl refl (rw order sorted) refl refl

  -- rowid, NULL, in the order of rowids
  rowids_read : out-Expr x ≡ Expr-F.Column None (codes "rowid") → out-Expr y ≡ Expr-F.Null → out-Expr k ≡ Expr-F.Column None (codes "rowid")
      → read schema q ≡ Ok (Select (record { lets = []; body = plain_query tree [] (col 1 0 ∷ lit Null ∷ []) (rising 0 ∷ []) }) (codes "rowid" ∷ u ∷ []))
  unfolding same_name alone is_rowid
  rowids_read x_is y_is k_is =
      let name = codes "reader" in
      let table = reader_table_at tree in
      let s1 = spent start nothing in
      let s2 = spent s1 nothing in
      let s3 = spent s2 nothing in
      let outs : List Output = rowid_output ∷ null_output u ∷ [] in
      let cx = over schema name at table h name [] true in
      let ts = tables schema name at table h q core src simple in
      let outputs = outputs_is cx ts (a ∷ b ∷ []) start _
      (outputs_cons cx ts [] a (b ∷ []) start s1 rowid_output _ (shows_rowid schema name at table h [] true (codes "rowid") refl refl refl ts [] a x t start a_is x_is refl)
      (outputs_cons cx ts (rowid_output ∷ []) b [] s1 s2 (null_output u) (Ok (outs, s2)) (shows_null schema name at table h [] true ts (rowid_output ∷ []) b y u s1 b_is y_is refl) refl)) in
      let joined = joins_are schema name at table h src simple.table_is simple.alias simple.using simple.inner simple.on outs s2 in
      let sorted = sorts_one (inside schema (level_as schema name at table h name outs) false) outs st s2 s3 (rising 0 ∷ []) (sorts_by_rowid schema name at table h outs false (codes "rowid") refl refl k st [] s2 key rises plain k_is refl refl) in
      simple_read schema name at table h q core src simple outs [] (rising 0 ∷ []) s2 s2 s3 (rw shown outputs) (matches_all schema name at table h core src simple.from outs s2 joined all) refl refl refl (rw order sorted) refl refl

-- ---- the texts

abbrev pub digests_text : List ℕ
digests_text = codes "SELECT NULL, digest FROM reader ORDER BY digest"

abbrev pub rowids_text : List ℕ
rowids_text = codes "SELECT rowid, NULL FROM reader ORDER BY rowid"

abbrev digest_places : List Term
digest_places = lit Null ∷ col 1 1 ∷ []

abbrev rowid_places : List Term
rowid_places = col 1 0 ∷ lit Null ∷ []

module _ (schema : Schema) (at tree : ℕ) (h : Holds schema (codes "reader") at (reader_table_at tree)) where
  digests_compile : Compiles schema digests_text (Select (record { lets = []; body = plain_query tree [] digest_places (rising 1 ∷ []) }) (codes "NULL" ∷ codes "digest" ∷ [])) 0
  unfolding everything got held
  digests_compile =
      let p = got (first digests_text) refl in
      let q = held (select_in p.statement) refl in
      let core = (written_select.out-Select q).first in
      let src = held (slice_get (out-Core core).from 0) refl in
      let st = held (slice_get (written_select.out-Select q).order 0) refl in
      let a = held (slice_get (out-Core core).shown 0) refl in
      let b = held (slice_get (out-Core core).shown 1) refl in
      let x = held (expr_in (out-Shown a)) refl in
      let y = held (expr_in (out-Shown b)) refl in
      let simple : IsSimple (codes "reader") q core src = record {
        first = refl;
        with = refl;
        others = refl;
        limit = refl;
        offset = refl;
        from = refl;
        group = refl;
        having = refl;
        distinct = refl;
        table_is = refl;
        alias = refl;
        using = refl;
        inner = refl;
        on = refl;
      } in
      record {
        parsed = p;
        is = select_is schema digests_text p q _ refl refl refl
            (digests_read schema at tree h q core src simple a b x y (out-Sort st).key (text_in (out-Shown a)) (text_in (out-Shown b)) st refl refl refl refl refl refl refl refl refl refl refl);
        whole = omega arith;
        names = refl;
        text_is = refl;
      }

  rowids_compile : Compiles schema rowids_text (Select (record { lets = []; body = plain_query tree [] rowid_places (rising 0 ∷ []) }) (codes "rowid" ∷ codes "NULL" ∷ [])) 0
  unfolding everything got held
  rowids_compile =
      let p = got (first rowids_text) refl in
      let q = held (select_in p.statement) refl in
      let core = (written_select.out-Select q).first in
      let src = held (slice_get (out-Core core).from 0) refl in
      let st = held (slice_get (written_select.out-Select q).order 0) refl in
      let a = held (slice_get (out-Core core).shown 0) refl in
      let b = held (slice_get (out-Core core).shown 1) refl in
      let x = held (expr_in (out-Shown a)) refl in
      let y = held (expr_in (out-Shown b)) refl in
      let simple : IsSimple (codes "reader") q core src = record {
        first = refl;
        with = refl;
        others = refl;
        limit = refl;
        offset = refl;
        from = refl;
        group = refl;
        having = refl;
        distinct = refl;
        table_is = refl;
        alias = refl;
        using = refl;
        inner = refl;
        on = refl;
      } in
      record {
        parsed = p;
        is = select_is schema rowids_text p q _ refl refl refl
            (rowids_read schema at tree h q core src simple a b x y (out-Sort st).key (text_in (out-Shown a)) (text_in (out-Shown b)) st refl refl refl refl refl refl refl refl refl refl refl);
        whole = omega arith;
        names = refl;
        text_is = refl;
      }

-- ---- what they show

reader_tree : (tree : ℕ) → (reader_table_at tree).tree ≡ tree
reader_tree tree = refl

reader_holds : (schema : Schema) (h : HasReader schema) → Holds schema (codes "reader") h.at (reader_table_at h.tree)
reader_holds schema h = holds first_free_tree (codes "reader") reader_table_at reader_tree schema h

all_kept : {X : Type 0} (xs : List X) → xs ≡ filter (λ x. true) xs
all_kept [] = refl
all_kept (x ∷ xs) = ap (λ l. x ∷ l) (all_kept xs)

-- SELECT places FROM reader ORDER BY one place
module _ (place : ℕ) (places : List Term) (names : List (List ℕ)) (text : List ℕ)
    (means : (schema : Schema) (h : HasReader schema) → Compiles schema text (Select (record { lets = []; body = plain_query h.tree [] places (rising place ∷ []) }) names) 0) where
  lists : (old new : State) → HasReader old.now.schema → (rows : List Row) → Shown text [] old new rows → ListsSorted (λ r. eval_all places ([] ∷ r ∷ [])) place (rows_named old.now (codes "reader")) rows
  lists old new h rows shown =
      let schema = old.now.schema in
      let meant = means schema h in
      let read = reads_as text [] old new schema refl _ (command_is schema text _ 0 meant) (plain schema text _ 0 meant) (unlisted schema text _ 0 meant) rows shown in
      let l = answers h.tree [] places (rising place ∷ []) old.now.trees [] rows read.answer in
      let table : rows_named old.now (codes "reader") ≡ old.now.trees h.tree = ap (rows_in old.now.trees) (tree_is first_free_tree (codes "reader") reader_table_at reader_tree schema h) in
      record {
        chosen = l.chosen;
        same = subst (λ t. IsPermutation t l.chosen) (sym (table ∙ all_kept (old.now.trees h.tree))) l.same;
        shown = l.shown;
        sorted = λ k d low high. sym (ap is_lt (then-Equal (value_cmp (column (get_or l.chosen (k + 1) d) place) (column (get_or l.chosen k d) place)))) ∙ l.sorted k d low high;
      }

  is_plain : (schema : Schema) → HasReader schema → IsPlain (understood schema text)
  is_plain schema h = plain schema text _ 0 (means schema h)

  is_answered : (schema : Schema) (h : HasReader schema) → accepts_program schema [] (plain_query h.tree [] places (rising place ∷ [])) [] ≡ true → IsAnswered schema text []
  is_answered schema h fine =
      let meant = means schema h in
      record {
        given = given schema text _ 0 meant [] refl;
        unlisted = unlisted schema text _ 0 meant;
        plain = subst (AsksPlainly schema []) (sym (understood_is schema text _ 0 meant)) (λ limit trees e refused. never_refused _ fine limit (overlay trees [] h.tree) refused);
      }

digests_mean : (schema : Schema) (h : HasReader schema) → Compiles schema digests_text (Select (record { lets = []; body = plain_query h.tree [] digest_places (rising 1 ∷ []) }) (codes "NULL" ∷ codes "digest" ∷ [])) 0
digests_mean schema h = digests_compile schema h.at h.tree (reader_holds schema h)

rowids_mean : (schema : Schema) (h : HasReader schema) → Compiles schema rowids_text (Select (record { lets = []; body = plain_query h.tree [] rowid_places (rising 0 ∷ []) }) (codes "rowid" ∷ codes "NULL" ∷ [])) 0
rowids_mean schema h = rowids_compile schema h.at h.tree (reader_holds schema h)

pub digests_listed : (old new : State) → HasReader old.now.schema → (rows : List Row) → Shown digests_text [] old new rows → ListsSorted reader_digest_values 1 (rows_named old.now (codes "reader")) rows
digests_listed old new h rows shown = lists 1 digest_places (codes "NULL" ∷ codes "digest" ∷ []) digests_text digests_mean old new h rows shown

pub rowids_listed : (old new : State) → HasReader old.now.schema → (rows : List Row) → Shown rowids_text [] old new rows → ListsSorted reader_rowid_values 0 (rows_named old.now (codes "reader")) rows
rowids_listed old new h rows shown = lists 0 rowid_places (codes "rowid" ∷ codes "NULL" ∷ []) rowids_text rowids_mean old new h rows shown

pub digests_plain : (schema : Schema) → HasReader schema → IsPlain (understood schema digests_text)
digests_plain = is_plain 1 digest_places (codes "NULL" ∷ codes "digest" ∷ []) digests_text digests_mean

pub rowids_plain : (schema : Schema) → HasReader schema → IsPlain (understood schema rowids_text)
rowids_plain = is_plain 0 rowid_places (codes "rowid" ∷ codes "NULL" ∷ []) rowids_text rowids_mean

pub digests_answered : (schema : Schema) → HasReader schema → IsAnswered schema digests_text []
digests_answered schema h =
    is_answered 1 digest_places (codes "NULL" ∷ codes "digest" ∷ []) digests_text digests_mean schema h
    (accepts_is schema (codes "reader") h.at (reader_table_at h.tree) (reader_holds schema h) [] digest_places (rising 1 ∷ []) [] refl)

pub rowids_answered : (schema : Schema) → HasReader schema → IsAnswered schema rowids_text []
rowids_answered schema h =
    is_answered 0 rowid_places (codes "rowid" ∷ codes "NULL" ∷ []) rowids_text rowids_mean schema h
    (accepts_is schema (codes "reader") h.at (reader_table_at h.tree) (reader_holds schema h) [] rowid_places (rising 0 ∷ []) [] refl)
