-- A number sought among sorted ones.
use Rattle.std.proofs.Common.{◌≡◌, ℕ, ◌<◌, inl, inr, Bool, true, false, ◌||◌, cond, nat_eq, List, [], ◌∷◌, ◌++◌, get_or, is_ok, Result, Ok, Err, refl, sym, ap, ◌∙◌, arith}
use Rattle.std.specs.List.{list_any}
use Rattle.std.specs.List.Sorted.{IsBinarySearchResult, IsNonDecreasing}
use Rattle.std.specs.Ordering.{nat_cmp}
use Rattle.std.proofs.lemmas.Bool.{cases_lt}
use Rattle.std.proofs.lemmas.Bool.Decides.{nat_tests}
use Rattle.std.proofs.lemmas.List.{get_or_default}
use Rattle.std.proofs.lemmas.List.Folds.{list_any_none, list_any-append}
use Rattle.std.proofs.lemmas.List.Sorted.{searched}
use Rattle.std.proofs.lemmas.Cmp.{nat_eq_equiv}
use Rattle.wgr_pool.proofs.Lists.{list_any-some}

same : (a b : ℕ) → a ≡ b → nat_eq b a ≡ true
same a b e = grind (arith, nat_tests)

lower : (a b : ℕ) → a < b → nat_eq b a ≡ false
lower a b l = grind (arith, nat_tests)

higher : (a b : ℕ) → b < a → nat_eq b a ≡ false
higher a b l = grind (arith, nat_tests)

pub found_is : (xs : List ℕ) (x : ℕ) (r : Result ℕ ℕ) → IsNonDecreasing xs → IsBinarySearchResult (λ y. nat_cmp y x) xs r → is_ok r ≡ list_any (nat_eq x) xs
found_is xs x (Ok i) up found =
    let at = searched xs x (Ok i) found (λ i j le l. up i j 0 le l) in
    sym (list_any-some (nat_eq x) xs i 0 at.0 (same (get_or xs i 0) x at.1))
found_is xs x (Err i) up found =
    let at = searched xs x (Err i) found (λ i j le l. up i j 0 le l) in
    sym (list_any_none (nat_eq x) xs (λ k d l. elim (cases_lt k i) [
      | inl before ↦ let e = get_or_default xs k d 0 l in let b = at.1 k before in lower (get_or xs k d) x (omega (arith, e, b))
      | inr after ↦ let e = get_or_default xs k d 0 l in let b = at.2 k after l in higher (get_or xs k d) x (omega (arith, e, b))
    ]))

-- one number more at the end
pub any_last : (xs : List ℕ) (x n : ℕ) → list_any (nat_eq n) (xs ++ x ∷ []) ≡ cond (nat_eq x n) true (list_any (nat_eq n) xs)
any_last xs x n =
    list_any-append (nat_eq n) xs (x ∷ []) ∙ turned (list_any (nat_eq n) xs) (nat_eq n x) ∙ ap (λ b. cond b true (list_any (nat_eq n) xs)) (nat_eq_equiv.symm n x)
  where
    turned : (a b : Bool) → (a || (b || false)) ≡ cond b true a
    turned true true = refl
    turned true false = refl
    turned false true = refl
    turned false false = refl
