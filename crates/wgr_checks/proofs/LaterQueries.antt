-- What the query of second pools shows.
use Rattle.std.proofs.Common.{◌≡◌, ◌↔◌, ◌==◌, ℕ, Bool, true, false, IsTrue, List, [], ◌∷◌, codes, filter, length, slice_get, refl, sym, ap, subst, ◌∙◌, arith}
use Rattle.std.proofs.lemmas.List.Sorted.{length_permutation}
use Rattle.std.proofs.Math.ListN.{length-map}
use Rattle.std.proofs.lemmas.Bool.Decides.{nat_tests}
use Rattle.sqlite.specs.Order.{Row}
use Rattle.sqlite.specs.Command.TheVariants.{Select}
use Rattle.sqlite.specs.Program.{overlay}
use Rattle.sqlite.specs.Schema.{Schema}
use Rattle.sqlite.specs.State.{State, Shown}
use Rattle.sqlite.specs.Table.{Table}
use Rattle.sqlite.specs.Term.{col}
use Rattle.sqlite.specs.Listing.{understood}
use Rattle.sqlite.proofs.Callers.{IsPlain, reads_as}
use Rattle.sqlite_typing.specs.Types.{accepts_program}
use Rattle.sqlite_ast.specs.declared.Core.{out-Core}
use Rattle.sqlite_ast.specs.declared.Select as written_select
use Rattle.sqlite_ast.specs.declared.Shown.{out-Shown}
use Rattle.sqlite_resolve.specs.Compile.{first}
use Rattle.sqlite_tied.specs.Compute.{everything}
use Rattle.wgr_sql.specs.Causes.{AsksPlainly, IsAnswered}
use Rattle.wgr_sql.specs.Effects.{Lists, plain_query}
use Rattle.wgr_sql.specs.Named.{HasTable, Holds, rows_in, rows_named}
use Rattle.wgr_sql.proofs.Answers.{answers}
use Rattle.wgr_sql.proofs.ColumnSelects.{column_read}
use Rattle.wgr_sql.proofs.Comparisons.{accepts_is}
use Rattle.wgr_sql.proofs.Compiles.{Compiles, command_is, given, got, held, plain, select_is, understood_is, unlisted}
use Rattle.wgr_sql.proofs.NamedLemmas.{holds, tree_is}
use Rattle.wgr_sql.proofs.PlainSelects.{IsSimple}
use Rattle.wgr_sql.proofs.TextParts.{expr_in, select_in, text_in}
use Rattle.wgr_columns.specs.Layout.{HasSecond, column_of, first_free_tree, second_table_at}
use Rattle.wgr_columns.proofs.Statements.{never_refused}
use Rattle.sqlite.specs.Kind.TheVariants.{Integer}

abbrev pub seconds_text : List ℕ
seconds_text = codes "SELECT network FROM second"

module _ (schema : Schema) (at tree : ℕ) where
  pub seconds_compile : Holds schema (codes "second") at (second_table_at tree) → Compiles schema seconds_text (Select (record { lets = []; body = plain_query tree [] (col 1 0 ∷ []) [] }) (codes "network" ∷ [])) 0
  unfolding everything got held
  seconds_compile h =
      let p = got (first seconds_text) refl in
      let q = held (select_in p.statement) refl in
      let core = (written_select.out-Select q).first in
      let src = held (slice_get (out-Core core).from 0) refl in
      let a = held (slice_get (out-Core core).shown 0) refl in
      let x = held (expr_in (out-Shown a)) refl in
      let simple : IsSimple (codes "second") q core src = record {
        first = refl;
        with = refl;
        others = refl;
        limit = refl;
        offset = refl;
        from = refl;
        group = refl;
        having = refl;
        distinct = refl;
        table_is = refl;
        alias = refl;
        using = refl;
        inner = refl;
        on = refl;
      } in
      record {
        parsed = p;
        is = select_is schema seconds_text p q _ refl refl refl
            (column_read schema (codes "second") at (second_table_at tree) h q core src simple a x (text_in (out-Shown a)) refl refl refl refl (codes "network") 0 (column_of (codes "network") Integer false) refl refl refl refl);
        whole = omega arith;
        names = refl;
        text_is = refl;
      }

-- ---- what such a query shows of a table

all_kept : {X : Type 0} (xs : List X) → filter (λ x. true) xs ≡ xs
all_kept [] = refl
all_kept (x ∷ xs) = ap (λ l. x ∷ l) (all_kept xs)

empty_so : {X : Type 0} (xs : List X) → length xs ≡ 0 → xs ≡ []
empty_so [] none = refl
empty_so (x ∷ xs) none = absurd (let e : length (x ∷ xs) ≡ 0 = none in omega (arith, e))

empty_too : {X Y : Type 0} (xs : List X) (ys : List Y) → length xs ≡ length ys → xs ≡ [] → ys ≡ []
empty_too xs ys same none = empty_so ys (sym same ∙ ap length none)

pub empty_is : {X : Type 0} (xs : List X) (long : ℕ) (b : Bool) → b ≡ (long == 0) → long ≡ length xs → IsTrue b ↔ (xs ≡ [])
empty_is xs long b is same =
    ((λ told. empty_so xs (let e : (long == 0) ≡ true = sym is ∙ told in let z : long ≡ 0 = grind (arith, nat_tests) in sym same ∙ z)), (λ none. is ∙ (let z : long ≡ 0 = same ∙ ap length none in ap (λ n. n == 0) z)))

-- SELECT column FROM the table of this name, whose column is at this place
module _ (first_tree : ℕ) (name : List ℕ) (form : ℕ → Table) (tree_so : (tree : ℕ) → (form tree).tree ≡ tree) (place : ℕ) (names : List (List ℕ)) (text : List ℕ)
    (compiles : (schema : Schema) (h : HasTable first_tree name form schema) → Compiles schema text (Select (record { lets = []; body = plain_query h.tree [] (col 1 place ∷ []) [] }) names) 0) where
  -- it shows as many rows as the table has
  as_many : (old new : State) → HasTable first_tree name form old.now.schema → (rows : List Row) → Shown text [] old new rows → length rows ≡ length (rows_named old.now name)
  as_many old new h rows shown =
      let schema = old.now.schema in
      let means = compiles schema h in
      let read = reads_as text [] old new schema refl _ (command_is schema text _ 0 means) (plain schema text _ 0 means) (unlisted schema text _ 0 means) rows shown in
      let l : Lists [] (col 1 place ∷ []) [] [] (old.now.trees h.tree) rows = answers h.tree [] (col 1 place ∷ []) [] old.now.trees [] rows read.answer in
      ap length l.shown ∙ length-map l.chosen _ ∙ length_permutation _ _ l.same ∙ ap length (all_kept (old.now.trees h.tree)) ∙ sym (ap (λ o. length (rows_in old.now.trees o)) (tree_is first_tree name form tree_so schema h))

  pub none_shown : (old new : State) → HasTable first_tree name form old.now.schema → (rows : List Row) → Shown text [] old new rows → (rows ≡ []) ↔ (rows_named old.now name ≡ [])
  none_shown old new h rows shown =
      let same = as_many old new h rows shown in
      (empty_too rows (rows_named old.now name) same, empty_too (rows_named old.now name) rows (sym same))

  pub is_plain : (schema : Schema) → HasTable first_tree name form schema → IsPlain (understood schema text)
  is_plain schema h = plain schema text _ 0 (compiles schema h)

  pub is_answered : (schema : Schema) (h : HasTable first_tree name form schema) → accepts_program schema [] (plain_query h.tree [] (col 1 place ∷ []) []) [] ≡ true → IsAnswered schema text []
  is_answered schema h fine =
      let means = compiles schema h in
      record {
        given = given schema text _ 0 means [] refl;
        unlisted = unlisted schema text _ 0 means;
        plain = subst (AsksPlainly schema []) (sym (understood_is schema text _ 0 means)) (λ limit trees e refused. never_refused _ fine limit (overlay trees [] h.tree) refused);
      }

-- ---- second pools

second_tree : (tree : ℕ) → (second_table_at tree).tree ≡ tree
second_tree tree = refl

second_holds : (schema : Schema) (h : HasSecond schema) → Holds schema (codes "second") h.at (second_table_at h.tree)
second_holds schema h = holds first_free_tree (codes "second") second_table_at second_tree schema h

seconds_mean : (schema : Schema) (h : HasSecond schema) → Compiles schema seconds_text (Select (record { lets = []; body = plain_query h.tree [] (col 1 0 ∷ []) [] }) (codes "network" ∷ [])) 0
seconds_mean schema h = seconds_compile schema h.at h.tree (second_holds schema h)

pub no_seconds_shown : (old new : State) → HasSecond old.now.schema → (rows : List Row) → Shown seconds_text [] old new rows → (rows ≡ []) ↔ (rows_named old.now (codes "second") ≡ [])
no_seconds_shown = none_shown first_free_tree (codes "second") second_table_at second_tree 0 (codes "network" ∷ []) seconds_text seconds_mean

pub seconds_plain : (schema : Schema) → HasSecond schema → IsPlain (understood schema seconds_text)
seconds_plain = is_plain first_free_tree (codes "second") second_table_at second_tree 0 (codes "network" ∷ []) seconds_text seconds_mean

pub seconds_answered : (schema : Schema) → HasSecond schema → IsAnswered schema seconds_text []
seconds_answered schema h =
    is_answered first_free_tree (codes "second") second_table_at second_tree 0 (codes "network" ∷ []) seconds_text seconds_mean schema h
    (accepts_is schema (codes "second") h.at (second_table_at h.tree) (second_holds schema h) [] (col 1 0 ∷ []) [] [] refl)
