-- What a lookup by a TEXT column finds.
use Rattle.std.proofs.Common.{◌≡◌, ◌+◌, Ordering, Less, Equal, Greater, not, ℕ, bytes_eq, List, true, false, Some, slice_get, refl, sym, ap, subst, ◌∙◌}
use Rattle.std.specs.Ordering.{is_eq, is_ne}
use Rattle.std.proofs.lemmas.Map.Text.{is_eq-slice_cmp}
use Rattle.std.proofs.lemmas.Map.Lookups.{exact_bytes}
use Rattle.std.proofs.lemmas.Cmp.{tied_itself}
use Rattle.sqlite.specs.declared.types.Value.{Value}
use Rattle.sqlite.specs.declared.types.Value.TheVariants.{Null, Int, Real, Text, Blob}
use Rattle.sqlite_value.specs.Order.{Row, column, bytes, value_cmp}
use Rattle.sqlite_value.proofs.OrderLemmas.{value_cmp_total, value_cmp-Text}
use Rattle.sqlite_value.proofs.KeyLemmas.{class_tied}
use Rattle.sqlite.specs.Ops.{binary, is_true}
use Rattle.sqlite.specs.Collation.TheVariants.{Binary}
use Rattle.sqlite_sql.specs.declared.ops.BinaryOp.TheVariants.{Compare}
use Rattle.sqlite_sql.specs.declared.ops.CompareOp.TheVariants.{Eq, Ne}
use Rattle.sqlite.specs.Kind.TheVariants as kind
use Rattle.sqlite_schema.specs.declared.schema.Column.{Column}
use Rattle.sqlite_schema.specs.Rules.{is_of}
use Rattle.sqlite_schema.specs.Names.{is_key}
use Rattle.sqlite_sql.specs.Ops.{is_null}
use Rattle.sqlite.specs.Table.{Table}
use Rattle.sqlite.specs.Schema.{Schema}
use Rattle.sqlite.specs.Tree.{Trees}
use Rattle.sqlite.specs.Effect.{IsDatabase}
use Rattle.sqlite_rules.specs.Lists.{Has}
use Rattle.wgr_sql.proofs.Values.{is_equal, truth_of, suits_here, present_here}

tied_text : (a : Value) (d : List ℕ) → value_cmp a (Text d) ≡ Equal → a ≡ Text d
tied_text Null d h = absurd (let e = class_tied Null (Text d) h in cc)
tied_text (Int n) d h = absurd (let e = class_tied (Int n) (Text d) h in cc)
tied_text (Real x) d h = absurd (let e = class_tied (Real x) (Text d) h in cc)
tied_text (Text t) d h = ap Text (exact_bytes t d (sym (value_cmp-Text t d) ∙ h))
tied_text (Blob b) d h = absurd (let e = class_tied (Blob b) (Text d) h in cc)

-- column = ?, where a text is bound
pub equal_text : (a : Value) (d : List ℕ) → is_true (binary (Compare Eq Binary) a (Text d)) ≡ true → a ≡ Text d
unfolding binary
equal_text Null d h = absurd cc
equal_text (Int n) d h = tied_text (Int n) d (is_equal _ (sym (truth_of _) ∙ h))
equal_text (Real x) d h = tied_text (Real x) d (is_equal _ (sym (truth_of _) ∙ h))
equal_text (Text t) d h = tied_text (Text t) d (is_equal _ (sym (truth_of _) ∙ h))
equal_text (Blob b) d h = tied_text (Blob b) d (is_equal _ (sym (truth_of _) ∙ h))

pub text_itself : (d : List ℕ) → is_true (binary (Compare Eq Binary) (Text d) (Text d)) ≡ true
unfolding binary
text_itself d = truth_of _ ∙ ap is_eq (tied_itself value_cmp_total (Text d))

text_there : (v : Value) → is_of kind.Text v ≡ true → is_null v ≡ false → v ≡ Text (bytes v)
text_there Null h n = absurd cc
text_there (Int x) h n = absurd cc
text_there (Real x) h n = absurd cc
text_there (Text x) h n = refl
text_there (Blob x) h n = absurd cc

pub text_at : (schema : Schema) (db : Trees) (sound : IsDatabase (record { schema = schema; trees = db })) (table : Table) (listed : Has schema.tables table) (row : Row) (there : Has (db table.tree) row)
    (i : ℕ) (c : Column) (is_column : slice_get table.columns i ≡ Some c) (free : is_key table.key i ≡ false) (strict : c.is_strict ≡ true) (needed : c.not_null ≡ true) → c.kind ≡ kind.Text
    → column row (i + 1) ≡ Text (bytes (column row (i + 1)))
text_at schema db sound table listed row there i c is_column free strict needed is =
    text_there _ (subst (λ k. is_of k (column row (i + 1)) ≡ true) is (suits_here schema db sound table listed row there i c is_column free strict))
    (present_here schema db sound table listed row there i c is_column free strict needed)

pub equal_texts : (a b : List ℕ) → is_true (binary (Compare Eq Binary) (Text a) (Text b)) ≡ bytes_eq a b
unfolding binary
equal_texts a b = truth_of _ ∙ ap is_eq (value_cmp-Text a b) ∙ is_eq-slice_cmp a b

ne_is : (o : Ordering) → is_ne o ≡ not (is_eq o)
ne_is Less = refl
ne_is Equal = refl
ne_is Greater = refl

pub differ_texts : (a b : List ℕ) → is_true (binary (Compare Ne Binary) (Text a) (Text b)) ≡ not (bytes_eq a b)
unfolding binary
differ_texts a b = truth_of _ ∙ ne_is _ ∙ ap not (ap is_eq (value_cmp-Text a b) ∙ is_eq-slice_cmp a b)
