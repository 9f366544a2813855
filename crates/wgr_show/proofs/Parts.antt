-- The part of a sorted list that one owner has.
use Rattle.std.proofs.Common.{◌≡◌, ℕ, zero, suc, ◌+◌, ◌-◌, ◌<◌, ◌≤◌, Bool, true, false, nat_eq, nat_lt, nat_le, List, [], ◌∷◌, length, get_or, take, drop, filter, is_lt, refl, sym, ap, ◌∙◌, subst, arith}
use Rattle.std.specs.List.{AllWithin}
use Rattle.std.specs.List.Sorted.{IsNonDecreasingBy, IsPartitionPoint, IsSortedByKey}
use Rattle.std.specs.Ordering.{nat_cmp, ordering_then}
use Rattle.std.specs.Cmp.Lexicographic.{slice_cmp}
use Rattle.std.specs.declared.cmp.Ordering.{Ordering}
use Rattle.std.proofs.lemmas.Bool.Decides.{nat_tests}
use Rattle.std.proofs.lemmas.List.{get_or-drop, length-drop}
use Rattle.std.proofs.lemmas.List.Sorted.{IsNonDecreasingBy-from_all_adjacent}
use Rattle.wgr_show.specs.Owned.{owned_cmp}

module _ {X : Type 0} (p : X → Bool) where
  -- what comes before the first that passes
  pub skip : (xs : List X) (i : ℕ) → i ≤ length xs → AllWithin (λ x. p x ≡ false) xs 0 i → filter p xs ≡ filter p (drop i xs)
  skip xs zero fits before = refl
  skip [] (suc i) fits before = absurd (omega (arith, fits))
  skip (x ∷ xs) (suc i) fits before =
      rw (before 0 x (omega arith) (omega arith)) (skip xs i (omega (arith, fits)) (λ k d low high. before (suc k) d (omega arith) (omega (arith, high))))

  -- those that pass come first
  pub keep : (xs : List X) (j : ℕ) → j ≤ length xs → AllWithin (λ x. p x ≡ true) xs 0 j → AllWithin (λ x. p x ≡ false) xs j (length xs) → filter p xs ≡ take j xs
  keep [] zero fits first after = refl
  keep [] (suc j) fits first after = absurd (omega (arith, fits))
  keep (x ∷ xs) zero fits first after =
      rw (after 0 x (omega arith) (omega arith)) (keep xs 0 (omega arith) (λ k d low high. absurd (omega (arith, high))) (λ k d low high. after (suc k) d (omega arith) (omega (arith, high))))
  keep (x ∷ xs) (suc j) fits first after =
      rw (first 0 x (omega arith) (omega arith)) (ap (λ ys. x ∷ ys) (keep xs j (omega (arith, fits)) (λ k d low high. first (suc k) d (omega arith) (omega (arith, high))) (λ k d low high. after (suc k) d (omega (arith, low)) (omega (arith, high)))))

below_is_other : (a id : ℕ) → nat_lt a id ≡ true → nat_eq a id ≡ false
below_is_other a id h = grind (arith, nat_tests)

above_is_other : (a id : ℕ) → nat_le a id ≡ false → nat_eq a id ≡ false
above_is_other a id h = grind (arith, nat_tests)

between_is_same : (a id : ℕ) → nat_lt a id ≡ false → nat_le a id ≡ true → nat_eq a id ≡ true
between_is_same a id low high = grind (arith, nat_tests)

-- between the first that isn't below the id and the first that is above it
module _ {X : Type 0} (n : X → ℕ) (id : ℕ) (xs rest : List X) (i : ℕ) (is : rest ≡ drop i xs) where
  abbrev is_own : X → Bool
  is_own x = nat_eq (n x) id

  not_below : AllWithin (λ x. nat_lt (n x) id ≡ false) xs i (length xs) → (k : ℕ) (d : X) → k < length rest → nat_lt (n (get_or rest k d)) id ≡ false
  not_below after k d inside =
      let more : k < length xs - i = subst (λ m. k < m) (ap length is ∙ length-drop i xs) inside in
      let there : nat_lt (n (get_or (drop i xs) k d)) id ≡ false = subst (λ x. nat_lt (n x) id ≡ false) (sym (get_or-drop i xs k d)) (after (i + k) d (omega arith) (omega (arith, more))) in
      subst (λ ys. nat_lt (n (get_or ys k d)) id ≡ false) (sym is) there

  pub part_of : (j : ℕ) → i ≤ length xs → j ≤ length rest
      → IsPartitionPoint (λ x. nat_lt (n x) id ≡ true) (λ x. nat_lt (n x) id ≡ false) xs i
      → IsPartitionPoint (λ x. nat_le (n x) id ≡ true) (λ x. nat_le (n x) id ≡ false) rest j
      → take j rest ≡ filter is_own xs
  part_of j fits short low high =
      let before : filter is_own xs ≡ filter is_own (drop i xs) = skip is_own xs i fits (λ k d from to. below_is_other _ id (low.0 k d from to)) in
      let kept : filter is_own rest ≡ take j rest = keep is_own rest j short
      (λ k d from to. between_is_same _ id (not_below low.1 k d (omega (arith, to, short))) (high.0 k d from to))
      (λ k d from to. above_is_other _ id (high.1 k d from to)) in
      sym (before ∙ ap (filter is_own) (sym is) ∙ kept)

not_less : (a b : ℕ) (o : Ordering) → is_lt (ordering_then (nat_cmp b a) o) ≡ false → a ≤ b
not_less a b o h = grind (arith, nat_tests)

-- what is in order by owner and label doesn't fall by owner
pub owners_rise : {X Y : Type 0} (f : Y → X) (owner : X → ℕ) (label : X → List ℕ) (ys : List Y) → IsSortedByKey f (owned_cmp owner label) ys → IsNonDecreasingBy (λ y. owner (f y)) ys
owners_rise f owner label ys up = IsNonDecreasingBy-from_all_adjacent (λ y. owner (f y)) ys (λ k d high.
    let one = f (get_or ys k d) in
    let next = f (get_or ys (k + 1) d) in
    not_less (owner one) (owner next) (slice_cmp nat_cmp (label next) (label one)) (up k d (omega arith) high))
