-- What is true of each element of a list.
use Rattle.std.proofs.Common.{◌≡◌, ◌+◌, ◌<◌, ℕ, suc, zero, List, [], ◌∷◌, ◌++◌, map, take, length, slice_index_or, sym, ap, ap₂, subst, ◌∙◌, inl, inr, arith}
use Rattle.std.proofs.lemmas.List.{take_more, map-append}
use Rattle.std.proofs.Math.Nat.{eq-or-lt_of_le}
use Rattle.std.specs.List.{AllByRecursion}

pub all_places : {X : Type 0} (P : X → Type 0) (xs : List X) (d : X) → ((k : ℕ) → k < length xs → P (slice_index_or xs k d)) → AllByRecursion P xs
all_places P [] d each = tt
all_places P (x ∷ xs) d each = (each 0 (omega arith), all_places P xs d (λ k low. each (suc k) (omega (arith, low))))

pub at_place : {X : Type 0} (P : X → Type 0) (xs : List X) (d : X) → AllByRecursion P xs → (k : ℕ) → k < length xs → P (slice_index_or xs k d)
at_place P [] d all k low = absurd (omega (arith, low))
at_place P (x ∷ xs) d all zero low = all.0
at_place P (x ∷ xs) d all (suc k) low = at_place P xs d all.1 k (omega (arith, low))

-- ---- a walk along a list

pub item_is : {X : Type 0} (xs : List X) (i : ℕ) (x d : X) → i < length xs → x ≡ slice_index_or xs i x → slice_index_or xs i d ≡ x
item_is [] i x d low is = absurd (omega (arith, low))
item_is (y ∷ xs) zero x d low is = sym is
item_is (y ∷ xs) (suc i) x d low is = item_is xs i x d (omega (arith, low)) is

pub one_more : {X : Type 0} (P : X → Type 0) (xs : List X) (at : ℕ) (x d : X) → at < length xs → x ≡ slice_index_or xs at x → P x → ((k : ℕ) → k < at → P (slice_index_or xs k d)) → (k : ℕ) → k < at + 1 → P (slice_index_or xs k d)
one_more P xs at x d low is here before k more = elim (eq-or-lt_of_le {n = k} {m = at} (omega (arith, more))) [
  | inl same ↦ subst (λ n. P (slice_index_or xs n d)) (sym same) (subst P (sym (item_is xs at x d low is)) here)
  | inr below ↦ before k below
]

pub one_longer : {X Y : Type 0} (f : X → Y) (xs : List X) (ys : List Y) (at : ℕ) (x : X) (y : Y) → at < length xs → x ≡ slice_index_or xs at x → y ≡ f x → ys ≡ map f (take at xs) → ys ++ y ∷ [] ≡ map f (take (at + 1) xs)
one_longer f xs ys at x y low is value so_far =
    ap₂ (λ l z. l ++ z ∷ []) so_far (value ∙ ap f (sym (item_is xs at x x low is))) ∙ sym (map-append f (take at xs) (slice_index_or xs at x ∷ [])) ∙ sym (ap (map f) (take_more xs at x low))
