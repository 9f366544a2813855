-- Sorted lists by recursion, and the entries of one owner in a sorted list.
use Rattle.std.proofs.Common.{◌≡◌, ℕ, zero, suc, ◌+◌, ◌<◌, Bool, true, false, cond, List, [], ◌∷◌, length, get_or, filter, map, nat_eq, is_lt, Equal, refl, sym, ◌∙◌, subst, arith}
use Rattle.std.specs.List.{AllByRecursion}
use Rattle.std.specs.List.Sorted.{IsSortedBy}
use Rattle.std.specs.Cmp.{IsStrictWeakOrder}
use Rattle.std.specs.Cmp.Lexicographic.{slice_cmp}
use Rattle.std.specs.Ordering.{nat_cmp, ordering_then}
use Rattle.std.specs.declared.cmp.Ordering.{Ordering}
use Rattle.std.proofs.lemmas.Bool.Decides.{nat_tests}
use Rattle.std.proofs.lemmas.List.Sorted.{sorted_far}
use Rattle.wgr_show.specs.Owned.{owned_cmp}

-- no element is less than one before it
abbrev pub Rises : {X : Type 0} → (X → X → Bool) → List X → Type 0
Rises lt [] = Unit {0}
Rises lt (x ∷ xs) = AllByRecursion (λ y. lt y x ≡ false) xs × Rises lt xs

module _ {X : Type 0} (lt : X → X → Bool) where
  each : (x : X) (xs : List X) → ((k : ℕ) (d : X) → k < length xs → lt (get_or xs k d) x ≡ false) → AllByRecursion (λ y. lt y x ≡ false) xs
  each x [] h = tt
  each x (y ∷ ys) h = (h 0 y (omega arith), each x ys (λ k d high. h (suc k) d (omega (arith, high))))

  tail : (x : X) (xs : List X) → IsSortedBy lt (x ∷ xs) → IsSortedBy lt xs
  tail x xs up k d low high =
      let next : suc k + 1 ≡ suc (k + 1) = omega arith in
      subst (λ n. lt (get_or (x ∷ xs) n d) (get_or xs k d) ≡ false) next (up (suc k) d (omega arith) (omega (arith, high)))

  pub rises_from : IsStrictWeakOrder lt → (xs : List X) → IsSortedBy lt xs → Rises lt xs
  rises_from o [] up = tt
  rises_from o (x ∷ xs) up =
      (each x xs (λ k d high. sorted_far lt o (x ∷ xs) up 0 (suc k) d (omega arith) (omega (arith, high))), rises_from o xs (tail x xs up))

  pub sorted_from : (xs : List X) → Rises lt xs → IsSortedBy lt xs
  sorted_from [] r k d low high = absurd (omega (arith, high))
  sorted_from (x ∷ []) r k d low high = absurd (omega (arith, high))
  sorted_from (x ∷ y ∷ ys) r zero d low high = r.0.0
  sorted_from (x ∷ y ∷ ys) r (suc k) d low high =
      let next : suc (k + 1) ≡ suc k + 1 = omega arith in
      subst (λ n. lt (get_or (x ∷ y ∷ ys) n d) (get_or (y ∷ ys) k d) ≡ false) next (sorted_from (y ∷ ys) r.1 k d (omega arith) (omega (arith, high)))

same_owner : (a b id : ℕ) (o : Ordering) → nat_eq a id ≡ true → nat_eq b id ≡ true → is_lt (ordering_then (nat_cmp a b) o) ≡ is_lt o
same_owner a b id o at_a at_b =
    let tie : nat_cmp a b ≡ Equal = grind (arith, nat_tests) in
    rw tie refl

-- what one owner has, of what is in order
module _ {X Y : Type 0} (f : Y → X) (owner : X → ℕ) (label : X → List ℕ) (id : ℕ) where
  abbrev own : Y → Bool
  own y = nat_eq (owner (f y)) id

  abbrev is_below : Y → Y → Bool
  is_below a b = is_lt (owned_cmp owner label (f a) (f b))

  abbrev is_label_below : X → X → Bool
  is_label_below a b = is_lt (slice_cmp nat_cmp (label a) (label b))

  abbrev shown : List Y → List X
  shown ys = map f (filter own ys)

  above : (x : Y) → own x ≡ true → (ys : List Y) → AllByRecursion (λ y. is_below y x ≡ false) ys → AllByRecursion (λ b. is_label_below b (f x) ≡ false) (shown ys)
  above x own_x [] h = tt
  above x own_x (y ∷ ys) h =
      let rest = above x own_x ys h.1 in
      let cases : (b : Bool) → own y ≡ b → AllByRecursion (λ b. is_label_below b (f x) ≡ false) (map f (cond b (y ∷ filter own ys) (filter own ys))) = λ b. elim b as (λ b. own y ≡ b → AllByRecursion (λ b. is_label_below b (f x) ≡ false) (map f (cond b (y ∷ filter own ys) (filter own ys)))) [
        | true ↦ λ own_y. (sym (same_owner (owner (f y)) (owner (f x)) id (slice_cmp nat_cmp (label (f y)) (label (f x))) own_y own_x) ∙ h.0, rest)
        | false ↦ λ other. rest
      ] in
      cases (own y) refl

  pub rises_owned : (ys : List Y) → Rises is_below ys → Rises is_label_below (shown ys)
  rises_owned [] r = tt
  rises_owned (y ∷ ys) r =
      let rest = rises_owned ys r.1 in
      let cases : (b : Bool) → own y ≡ b → Rises is_label_below (map f (cond b (y ∷ filter own ys) (filter own ys))) = λ b. elim b as (λ b. own y ≡ b → Rises is_label_below (map f (cond b (y ∷ filter own ys) (filter own ys)))) [
        | true ↦ λ own_y. (above y own_y ys r.0, rest)
        | false ↦ λ other. rest
      ] in
      cases (own y) refl
