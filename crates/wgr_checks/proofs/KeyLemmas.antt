-- What rows that are listed in the order of a key tell of their table.
use Rattle.std.proofs.Common.{◌≡◌, ◌+◌, ◌<◌, ℕ, List, [], ◌∷◌, map, length, get_or, Bool, Ordering, is_lt, IsPermutation, sym, ap, ap₂, subst, ◌∙◌, arith}
use Rattle.std.specs.List.{AllByRecursion, IsDistinct}
use Rattle.std.specs.List.Sorted.{IsSorted}
use Rattle.std.proofs.lemmas.List.{get_or-map}
use Rattle.std.proofs.lemmas.List.Sorted.{IsPermutation-map, IsPermutation-sym}
use Rattle.std.proofs.lemmas.Map.Keys.{IsDistinct-IsPermutation}
use Rattle.std.proofs.Math.ListN.{length-map}
use Rattle.sqlite.specs.Order.{Row}
use Rattle.sqlite_value.specs.Order.{column, value_cmp}
use Rattle.sqlite_trees.proofs.ListLemmas.{all-permutation, all-map, all_from_map}
use Rattle.wgr_sql.proofs.Answers.{map-both}
use Rattle.wgr_checks.specs.TenantRows.{ListsSorted}
use Rattle.wgr_checks.proofs.ListLemmas.{at_place}

all_alike : {X : Type 0} (P Q : X → Type 0) → ((x : X) → P x → Q x) → (xs : List X) → AllByRecursion P xs → AllByRecursion Q xs
all_alike P Q f [] all = tt
all_alike P Q f (x ∷ xs) all = (f x all.0, all_alike P Q f xs all.1)

-- The values that are listed tell whether a row is as it should be (P), and its key; the order of
-- the values at the place is that of the keys.
module _ {K : Type 0} (values : Row → Row) (at : ℕ) (P : Row → Type 0) (key : Row → K) (cmp : K → K → Ordering) (clash : K → K → Bool) (flips : (x y : K) → clash x y ≡ clash y x)
    (told : (r : Row) → P (values r) → P r) (tells : (r : Row) → P r → P (values r)) (shows : (r : Row) → key (values r) ≡ key r) (order : (a b : Row) → P a → P b → value_cmp (column a at) (column b at) ≡ cmp (key a) (key b))
    (table rows : List Row) (l : ListsSorted values at table rows) where
  all_chosen : AllByRecursion P rows → AllByRecursion P l.chosen
  all_chosen all = all_alike (λ r. P (values r)) P told l.chosen (all_from_map P values l.chosen (subst (AllByRecursion P) l.shown all))

  pub each_there : AllByRecursion P rows → AllByRecursion P table
  each_there all = all-permutation P l.chosen table (IsPermutation-sym _ _ l.same) (all_chosen all)

  pub each_back : AllByRecursion P table → AllByRecursion P rows
  each_back all = subst (AllByRecursion P) (sym l.shown) (all-map P values l.chosen (all_alike P (λ r. P (values r)) tells l.chosen (all-permutation P table l.chosen l.same all)))

  module _ (keys : List K) (are : keys ≡ map key rows) where
    of_chosen : keys ≡ map key l.chosen
    of_chosen = are ∙ ap (map key) l.shown ∙ map-both values key l.chosen ∙ (λ k. map (λ r. shows r k) l.chosen)

    pub keys_same : IsPermutation (map key table) keys
    keys_same = subst (IsPermutation (map key table)) (sym of_chosen) (IsPermutation-map key table l.chosen l.same)

    pub apart_there : IsDistinct clash keys → IsDistinct clash (map key table)
    apart_there apart = IsDistinct-IsPermutation clash flips keys (map key table) (IsPermutation-sym _ _ keys_same) apart

    pub apart_back : IsDistinct clash (map key table) → IsDistinct clash keys
    apart_back apart = IsDistinct-IsPermutation clash flips (map key table) keys keys_same apart

    pub keys_sorted : AllByRecursion P rows → IsSorted cmp keys
    keys_sorted all = subst (IsSorted cmp) (sym of_chosen) sorted
      where
        sorted : IsSorted cmp (map key l.chosen)
        sorted k d low high =
            let long : k + 1 < length l.chosen = omega (arith, high, length-map l.chosen key) in
            let short : k < length l.chosen = omega (arith, long) in
            let next = at_place P l.chosen [] (all_chosen all) (k + 1) long in
            let one = at_place P l.chosen [] (all_chosen all) k short in
            ap₂ (λ x y. is_lt (cmp x y)) (get_or-map key l.chosen (k + 1) [] d long) (get_or-map key l.chosen k [] d short)
            ∙ ap is_lt (sym (order (get_or l.chosen (k + 1) []) (get_or l.chosen k []) next one)) ∙ l.sorted k [] low long
