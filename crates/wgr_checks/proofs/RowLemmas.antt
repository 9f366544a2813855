-- What listed rows tell of a table's.
use Rattle.std.proofs.Common.{◌≡◌, ℕ, ℤ, pos, List, [], ◌∷◌, map, Bool, true, false, nat_eq, refl, sym, ap, ap₂, subst, ◌∙◌, arith}
use Rattle.std.specs.List.{AllByRecursion, IsDistinct}
use Rattle.std.specs.List.Sorted.{IsSorted}
use Rattle.std.specs.Ordering.{int_cmp, int_eq}
use Rattle.sqlite.specs.Order.{Row}
use Rattle.sqlite.specs.declared.types.Value.TheVariants.{Int}
use Rattle.sqlite_value.specs.Order.{column, value_cmp}
use Rattle.sqlite_value.proofs.OrderLemmas.{value_cmp-Int}
use Rattle.sqlite_trees.proofs.ListLemmas.{all-map, all_from_map}
use Rattle.sqlite_rules.specs.Edit.{id_in}
use Rattle.sqlite_rules.proofs.ListLemmas.{all_has, all_from}
use Rattle.wgr_columns.specs.Decode.{IsNumberAt, number_at}
use Rattle.wgr_columns.specs.Fields.{IsIntegerAt}
use Rattle.wgr_checks.specs.TenantRows.{ListsSorted}
use Rattle.wgr_checks.specs.TokenRows.{HaveOwnRowids}
use Rattle.wgr_checks.proofs.KeyLemmas.{each_there, each_back, apart_there, apart_back, keys_sorted}
use Rattle.wgr_checks.proofs.TokenLemmas.{int_flips}
use Rattle.wgr_checks.specs.OwnRows.{AreOwnRows}

abbrev pub Rowid : Row → ℤ
Rowid r = id_in (column r 0)

abbrev HasRowid : Row → Type 0
HasRowid r = IsIntegerAt r 0

by_rowid : (a b : Row) → HasRowid a → HasRowid b → value_cmp (column a 0) (column b 0) ≡ int_cmp (Rowid a) (Rowid b)
by_rowid a b p q = ap₂ value_cmp p q ∙ value_cmp-Int (Rowid a) (Rowid b)

-- The values that are listed, in the order of the rowids, tell whether a row is as it should be (P).
module _ (values : Row → Row) (P : Row → Type 0) (told : (r : Row) → P (values r) → P r) (tells : (r : Row) → P r → P (values r)) (shows : (r : Row) → column (values r) 0 ≡ column r 0)
    (table rows : List Row) (l : ListsSorted values 0 table rows) where
  has : (r : Row) → HasRowid (values r) → HasRowid r
  has r h = subst (λ v. v ≡ Int (id_in v)) (shows r) h

  hands : (r : Row) → HasRowid r → HasRowid (values r)
  hands r h = subst (λ v. v ≡ Int (id_in v)) (sym (shows r)) h

  same : (r : Row) → Rowid (values r) ≡ Rowid r
  same r = ap id_in (shows r)

  pub own_there : AreOwnRows P rows → AreOwnRows P table
  own_there own = record {
    each = each_there values 0 P (λ (r : Row). column r 0) value_cmp (λ a b. true) (λ a b. refl) told tells shows (λ a b p q. refl) table rows l own.each;
    own_rowids = record {
      each = each_there values 0 HasRowid Rowid int_cmp int_eq int_flips has hands same by_rowid table rows l own.own_rowids.each;
      rowids = apart_there values 0 HasRowid Rowid int_cmp int_eq int_flips has hands same by_rowid table rows l (map Rowid rows) refl own.own_rowids.rowids;
    };
  }

  pub own_back : AreOwnRows P table → AreOwnRows P rows
  own_back own = record {
    each = each_back values 0 P (λ (r : Row). column r 0) value_cmp (λ a b. true) (λ a b. refl) told tells shows (λ a b p q. refl) table rows l own.each;
    own_rowids = record {
      each = each_back values 0 HasRowid Rowid int_cmp int_eq int_flips has hands same by_rowid table rows l own.own_rowids.each;
      rowids = apart_back values 0 HasRowid Rowid int_cmp int_eq int_flips has hands same by_rowid table rows l (map Rowid rows) refl own.own_rowids.rowids;
    };
  }

  pub own_sorted : AreOwnRows P rows → IsSorted int_cmp (map Rowid rows)
  own_sorted own = keys_sorted values 0 HasRowid Rowid int_cmp int_eq int_flips has hands same by_rowid table rows l (map Rowid rows) refl own.own_rowids.each

-- ---- rowids that are natural

abbrev Id : Row → ℕ
Id r = number_at r 0

as_natural : (m n : ℕ) → int_eq (pos m) (pos n) ≡ nat_eq m n
as_natural m n = grind (arith)

apart_there_too : (ns : List ℕ) → IsDistinct int_eq (map pos ns) → IsDistinct nat_eq ns
unfolding IsDistinct
apart_there_too [] apart = tt
apart_there_too (n ∷ ns) apart = (
  subst (λ (f : ℕ → Bool). AllByRecursion (λ m. f m ≡ false) ns) (λ k m. as_natural n m k) (all_from_map (λ z. int_eq (pos n) z ≡ false) pos ns apart.0),
  apart_there_too ns apart.1,
)

apart_back_too : (ns : List ℕ) → IsDistinct nat_eq ns → IsDistinct int_eq (map pos ns)
unfolding IsDistinct
apart_back_too [] apart = tt
apart_back_too (n ∷ ns) apart = (
  all-map (λ z. int_eq (pos n) z ≡ false) pos ns (subst (λ (f : ℕ → Bool). AllByRecursion (λ m. f m ≡ false) ns) (λ k m. sym (as_natural n m) k) apart.0),
  apart_back_too ns apart.1,
)

rowids_are : (rows : List Row) → AllByRecursion (λ r. IsNumberAt r 0) rows → map Rowid rows ≡ map pos (map Id rows)
rowids_are [] all = refl
rowids_are (r ∷ rows) all = λ k. id_in (all.0 k) ∷ rowids_are rows all.1 k

module _ (rows : List Row) (natural : AllByRecursion (λ r. IsNumberAt r 0) rows) where
  pub ids_apart : HaveOwnRowids rows → IsDistinct nat_eq (map Id rows)
  ids_apart own = apart_there_too (map Id rows) (subst (IsDistinct int_eq) (rowids_are rows natural) own.rowids)

  pub own_ids : IsDistinct nat_eq (map Id rows) → HaveOwnRowids rows
  own_ids apart = record {
    each = all_from HasRowid rows (λ r here. let e = all_has (λ x. IsNumberAt x 0) rows r natural here in e ∙ sym (ap (λ v. Int (id_in v)) e));
    rowids = subst (IsDistinct int_eq) (sym (rowids_are rows natural)) (apart_back_too (map Id rows) apart);
  }
