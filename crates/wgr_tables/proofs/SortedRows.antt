-- Rows that a query shows in any order, once they are sorted in memory.
use Rattle.std.proofs.Common.{◌≡◌, ◌+◌, ◌<◌, ℕ, List, [], ◌∷◌, map, drop, get_or, length, is_lt, IsSortedByKey, IsPermutation, refl, sym, ap, ap₂, subst, ◌∙◌, arith}
use Rattle.std.specs.List.{AllByRecursion}
use Rattle.std.specs.List.Sorted.{IsSorted}
use Rattle.std.specs.Ordering.{nat_cmp}
use Rattle.std.proofs.lemmas.List.{get_or-map}
use Rattle.std.proofs.Math.ListN.{length-map}
use Rattle.sqlite.specs.Order.{Row}
use Rattle.sqlite_trees.proofs.ListLemmas.{all-permutation}
use Rattle.wgr_sql.proofs.Answers.{map-both}
use Rattle.wgr_columns.specs.Stored.{AreRising, AreStored}

-- the keys of rows that were sorted by them rise
pub sorted_rise : {T : Type 0} (key : T → ℕ) (read : Row → T) (rows : List Row) → IsSortedByKey (λ (r : Row). key (read r)) nat_cmp rows → AreRising key read rows
sorted_rise key read rows sorted = subst (IsSorted nat_cmp) (sym (map-both read key rows)) up
  where
    keys : Row → ℕ
    keys r = key (read r)

    up : IsSorted nat_cmp (map keys rows)
    up k d low high =
        let long : k + 1 < length rows = omega (arith, high, length-map rows keys) in
        let short : k < length rows = omega (arith, long) in
        ap₂ (λ a b. is_lt (nat_cmp a b)) (get_or-map keys rows (k + 1) [] d long) (get_or-map keys rows k [] d short) ∙ sorted k [] low long

-- rows are stored as what is read of them, in whatever order they stand
module _ {T : Type 0} (stored : T → Row) (read : Row → T) where
  abbrev as_read : Row → Row
  as_read r = stored (read r)

  to_each : (rows : List Row) → rows ≡ map as_read rows → AllByRecursion (λ r. r ≡ as_read r) rows
  to_each [] is = tt
  to_each (r ∷ rows) is = (ap (λ l. get_or l 0 r) is, to_each rows (ap (drop 1) is))

  of_each : (rows : List Row) → AllByRecursion (λ r. r ≡ as_read r) rows → rows ≡ map as_read rows
  of_each [] all = refl
  of_each (r ∷ rows) all = ap₂ (λ x xs. x ∷ xs) all.0 (of_each rows all.1)

  pub sorted_stored : (rows sorted : List Row) → IsPermutation rows sorted → AreStored stored read rows → AreStored stored read sorted
  sorted_stored rows sorted same are =
      of_each sorted (all-permutation (λ r. r ≡ as_read r) rows sorted same (to_each rows (are ∙ map-both read stored rows))) ∙ sym (map-both read stored sorted)
