-- A part of a permutation is a permutation of that part.
use Rattle.std.proofs.Common.{ℕ, zero, suc, ◌<◌, Bool, true, false, cond, List, [], ◌∷◌, length, get_or, set, filter, arith}
use Rattle.std.specs.List.{swap}
use Rattle.std.specs.List.Sorted.{IsPermutation}
use Rattle.std.proofs.lemmas.List.Sorted.{IsPermutation-refl, IsPermutation-trans, IsPermutation-cons, IsPermutation-append_left, IsPermutation-append_comm, IsPermutation-keeps}

module _ {X : Type 0} (p : X → Bool) where
  abbrev Same : List X → List X → Type 0
  Same xs ys = IsPermutation (filter p xs) (filter p ys)

  skip : (x : X) (xs ys : List X) → Same xs ys → Same (x ∷ xs) (x ∷ ys)
  skip x xs ys h = elim (p x) as (λ b. IsPermutation (cond b (x ∷ filter p xs) (filter p xs)) (cond b (x ∷ filter p ys) (filter p ys))) [
    | true ↦ IsPermutation-cons x _ _ h
    | false ↦ h
  ]

  turn : (x y : X) (xs : List X) → Same (x ∷ y ∷ xs) (y ∷ x ∷ xs)
  turn x y xs =
      let rest = filter p xs in
      let with_y : Bool → List X = λ c. cond c (y ∷ rest) rest in
      let with_x : Bool → List X = λ b. cond b (x ∷ rest) rest in
      let at : (b c : Bool) → IsPermutation (cond b (x ∷ with_y c) (with_y c)) (cond c (y ∷ with_x b) (with_x b)) =
      λ b c. elim b as (λ b. IsPermutation (cond b (x ∷ with_y c) (with_y c)) (cond c (y ∷ with_x b) (with_x b))) [
        | true ↦ elim c as (λ c. IsPermutation (x ∷ with_y c) (cond c (y ∷ x ∷ rest) (x ∷ rest))) [
          | true ↦ IsPermutation-append_left rest (x ∷ y ∷ []) (y ∷ x ∷ []) (IsPermutation-append_comm (x ∷ []) (y ∷ []))
          | false ↦ IsPermutation-refl _
        ]
        | false ↦ elim c as (λ c. IsPermutation (with_y c) (cond c (y ∷ rest) rest)) [
          | true ↦ IsPermutation-refl _
          | false ↦ IsPermutation-refl _
        ]
      ] in
      at (p x) (p y)

  to_head : (l : List X) (j : ℕ) (x d : X) → j < length l → Same (x ∷ l) (get_or l j d ∷ set l j x)
  to_head [] j x d h = absurd (omega arith)
  to_head (y ∷ l) zero x d h = turn x y l
  to_head (y ∷ l) (suc j) x d h =
      IsPermutation-trans _ _ _ (turn x y l) (IsPermutation-trans _ _ _ (skip y (x ∷ l) (get_or l j d ∷ set l j x) (to_head l j x d (omega arith))) (turn y (get_or l j d) (set l j x)))

  exchanged : (l : List X) (i j : ℕ) (d : X) → i < length l → j < length l → Same l (set (set l i (get_or l j d)) j (get_or l i d))
  exchanged [] i j d low high = absurd (omega arith)
  exchanged (x ∷ l) zero zero d low high = IsPermutation-refl _
  exchanged (x ∷ l) zero (suc j) d low high = to_head l j x d (omega arith)
  exchanged (x ∷ l) (suc i) zero d low high = to_head l i x d (omega arith)
  exchanged (x ∷ l) (suc i) (suc j) d low high = skip x _ _ (exchanged l i j d (omega arith) (omega arith))

  swapped : (l : List X) (i j : ℕ) → i < length l → j < length l → Same l (swap l i j)
  swapped [] i j low high = IsPermutation-refl _
  swapped (x ∷ l) i j low high = exchanged (x ∷ l) i j x low high

  pub filter_permuted : (xs ys : List X) → IsPermutation xs ys → IsPermutation (filter p xs) (filter p ys)
  filter_permuted xs ys = IsPermutation-keeps xs (Same xs) (IsPermutation-refl _) (λ l i j low high h. IsPermutation-trans _ _ _ h (swapped l i j low high)) ys
