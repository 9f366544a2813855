-- What a unique index says of rows.
use Rattle.std.proofs.Common.{◌≡◌, ℕ, ℤ, List, [], ◌∷◌, Bool, true, false, not, ◌&&◌, refl, sym, ◌∙◌, inl, inr, true≢false, Ordering, Less, Equal, Greater}
use Rattle.std.specs.Ordering.{is_eq, is_ne}
use Rattle.std.proofs.lemmas.Bool.{and_parts, not-true, false_from_ne_true}
use Rattle.sqlite.specs.declared.types.Value.TheVariants.{Int}
use Rattle.sqlite.specs.Order.{Row}
use Rattle.sqlite_value.specs.Order.{value_cmp}
use Rattle.sqlite_value.specs.Keys.{plain, first_key}
use Rattle.sqlite_value.specs.Order.{column}
use Rattle.sqlite.specs.Table.{Table}
use Rattle.std.specs.List.{AllByRecursion}
use Rattle.sqlite.specs.Collation.TheVariants.{Binary}
use Rattle.sqlite.specs.Ops.{binary}
use Rattle.sqlite.specs.Tree.{Trees}
use Rattle.sqlite.specs.Effect.{IsDatabase}
use Rattle.sqlite_trees.specs.Tree.{rowid}
use Rattle.sqlite_rules.specs.Lists.{Has}
use Rattle.sqlite_rules.proofs.ListLemmas.{all_has, some_from}
use Rattle.sqlite_schema.specs.declared.schema.Constraint.TheVariants.{Unique}
use Rattle.sqlite_schema.specs.Rules.{agree, differ, equal, passes, clashes}
use Rattle.wgr_model.specs.Laws as model
use Rattle.wgr_columns.specs.Layout.{Others, schema_with, allowed_table_at}
use Rattle.wgr_sql.proofs.Values.{truth_of}

ne_of : (o : Ordering) → is_eq o ≡ false → is_ne o ≡ true
ne_of Less h = refl
ne_of Equal h = absurd cc
ne_of Greater h = refl

pub differ_ints : (m n : ℤ) → is_eq (value_cmp (Int m) (Int n)) ≡ false → differ (Int m) (Int n) ≡ true
unfolding binary
differ_ints m n h = truth_of _ ∙ ne_of _ h

pub from_model : {X : Type 0} (xs : List X) (x : X) → model.Has xs x → Has xs x
from_model [] x h = elim h [ ]
from_model (y ∷ xs) x (inl same) = inl (sym same)
from_model (y ∷ xs) x (inr later) = inr (from_model xs x later)

pub to_model : {X : Type 0} (xs : List X) (x : X) → Has xs x → model.Has xs x
to_model [] x h = elim h [ ]
to_model (y ∷ xs) x (inl same) = inl (sym same)
to_model (y ∷ xs) x (inr later) = inr (to_model xs x later)

abbrev pub four : List ℕ
four = 1 ∷ 2 ∷ 3 ∷ 4 ∷ []

pub agree_four : (a b : Row) → agree plain four a four b ≡ (equal Binary (column a 1) (column b 1) && (equal Binary (column a 2) (column b 2) && (equal Binary (column a 3) (column b 3) && (equal Binary (column a 4) (column b 4) && true))))
unfolding first_key
agree_four a b = refl

-- two rows of `allowed` with different rowids differ in the first four columns
pub allowed_apart : (others : Others) (trees : Trees) → IsDatabase (record { schema = schema_with others; trees = trees }) → (new other : Row) → Has (trees 10) new → Has (trees 10) other → differ (rowid other) (rowid new) ≡ true
    → agree plain four other four new ≡ false
allowed_apart others trees sound new other here there apart =
    let unique = all_has (λ r. passes Unique (schema_with others) trees (allowed_table_at 10) r ≡ true) (trees 10) new (all_has (λ (t : Table). AllByRecursion (λ r. passes Unique (schema_with others) trees t r ≡ true) (trees t.tree)) (schema_with others).tables (allowed_table_at 10) (sound.obeys.rules Unique) (inr (inr (inr (inr (inr (inl refl))))))) here in
    let none : clashes plain four (trees 10) new ≡ false = not-true _ (and_parts (not (clashes plain four (trees 10) new)) _ unique).0 in
    false_from_ne_true _ (λ same. true≢false (sym (some_from (λ o. agree plain four o four new && differ (rowid o) (rowid new)) (trees 10) other there (both _ _ same apart)) ∙ none))
  where
    both : (a b : Bool) → a ≡ true → b ≡ true → (a && b) ≡ true
    both true true p q = refl
    both true false p q = absurd cc
    both false b p q = absurd cc
