-- Lists: pairs, filters and tests.
use Rattle.std.proofs.Common.{◌≡◌, ℕ, zero, suc, ◌+◌, ◌<◌, ◌≤◌, nat_lt, nat_le, inl, inr, Bool, true, false, ◌&&◌, ◌||◌, cond, List, [], ◌∷◌, ◌++◌, length, get_or, take, drop, drop-cons, add-one, refl, sym, ap, ◌∙◌, arith}
use Rattle.std.specs.List.{All, AllPairs, filter, list_any}
use Rattle.std.specs.List.Sorted.{IsPartitionPoint}
use Rattle.std.proofs.lemmas.Bool.Decides.{nat_tests}
use Rattle.wgr_pool.proofs.Bools.{decide}
use Rattle.std.proofs.lemmas.List.Elements.{All-cons, All-head, All-tail, All-filter}

pub AllPairs-head : {X : Type 0} (R : X → X → Type 0) (x : X) (xs : List X) → AllPairs R (x ∷ xs) → All (R x) xs
AllPairs-head R x xs pairs = λ k d h. pairs 0 (suc k) d (omega arith) (omega (arith, h))

pub AllPairs-tail : {X : Type 0} (R : X → X → Type 0) (x : X) (xs : List X) → AllPairs R (x ∷ xs) → AllPairs R xs
AllPairs-tail R x xs pairs = λ i j d l h. pairs (suc i) (suc j) d (omega (arith, l)) (omega (arith, h))

pub AllPairs-nil : {X : Type 0} (R : X → X → Type 0) → AllPairs R []
AllPairs-nil R = λ i j d l h. absurd (omega (arith, h))

pub AllPairs-cons : {X : Type 0} (R : X → X → Type 0) (x : X) (xs : List X) → All (R x) xs → AllPairs R xs → AllPairs R (x ∷ xs)
AllPairs-cons {X} R x xs first rest = cases
  where
    cases : (i j : ℕ) (d : X) → i < j → j < length (x ∷ xs) → R (get_or (x ∷ xs) i d) (get_or (x ∷ xs) j d)
    cases zero zero d l h = absurd (omega (arith, l))
    cases zero (suc j) d l h = first j d (omega (arith, h))
    cases (suc i) zero d l h = absurd (omega (arith, l))
    cases (suc i) (suc j) d l h = rest i j d (omega (arith, l)) (omega (arith, h))

pub AllPairs-filter : {X : Type 0} (R : X → X → Type 0) (p : X → Bool) (xs : List X) → AllPairs R xs → AllPairs R (filter p xs)
AllPairs-filter R p [] pairs = AllPairs-nil R
AllPairs-filter R p (x ∷ xs) pairs =
    let rest = AllPairs-filter R p xs (AllPairs-tail R x xs pairs) in
    let first = All-filter p (R x) xs (AllPairs-head R x xs pairs) in
    elim (p x) as (λ b. AllPairs R (cond b (x ∷ filter p xs) (filter p xs))) [ true ↦ AllPairs-cons R x (filter p xs) first rest | false ↦ rest ]

-- two tests that agree on the items of a list keep the same
pub filter_agree_on : {X : Type 0} (p q : X → Bool) (xs : List X) → All (λ x. p x ≡ q x) xs → filter p xs ≡ filter q xs
filter_agree_on p q [] same = refl
filter_agree_on p q (x ∷ xs) same =
    let rest = filter_agree_on p q xs (All-tail (λ x. p x ≡ q x) x xs same) in
    let here = All-head (λ x. p x ≡ q x) x xs same in
    ap (λ ys. cond (p x) (x ∷ ys) ys) rest ∙ ap (λ b. cond b (x ∷ filter q xs) (filter q xs)) here

pub filter_all : {X : Type 0} (xs : List X) → filter (λ x. true) xs ≡ xs
filter_all [] = refl
filter_all (x ∷ xs) = ap (λ ys. x ∷ ys) (filter_all xs)

pub list_any-none : {X : Type 0} (q : X → Bool) (xs : List X) → list_any q xs ≡ false → All (λ x. q x ≡ false) xs
list_any-none q [] h = λ k d l. absurd (omega (arith, l))
list_any-none q (x ∷ xs) h =
    elim (decide (q x)) [
      | inl t ↦ let bad : true ≡ false = ap (λ b. b || list_any q xs) (sym t) ∙ h in cc
      | inr f ↦ All-cons (λ x. q x ≡ false) x xs f (list_any-none q xs (ap (λ b. b || list_any q xs) (sym f) ∙ h))
    ]

pub list_any-filter_none : {X : Type 0} (q p : X → Bool) (xs : List X) → list_any q xs ≡ false → list_any q (filter p xs) ≡ false
list_any-filter_none q p [] h = refl
list_any-filter_none q p (x ∷ xs) h =
    let all = list_any-none q (x ∷ xs) h in
    let here = All-head (λ x. q x ≡ false) x xs all in
    let rest = list_any-filter_none q p xs (ap (λ b. b || list_any q xs) (sym here) ∙ h) in
    elim (p x) as (λ b. list_any q (cond b (x ∷ filter p xs) (filter p xs)) ≡ false) [ true ↦ ap (λ b. b || list_any q (filter p xs)) here ∙ rest | false ↦ rest ]

pub list_any-some : {X : Type 0} (q : X → Bool) (xs : List X) (i : ℕ) (d : X) → i < length xs → q (get_or xs i d) ≡ true → list_any q xs ≡ true
list_any-some q [] i d l h = absurd (omega (arith, l))
list_any-some q (x ∷ xs) zero d l h = ap (λ b. b || list_any q xs) h
list_any-some q (x ∷ xs) (suc i) d l h = elim (q x) as (λ b. (b || list_any q xs) ≡ true) [ true ↦ refl | false ↦ list_any-some q xs i d (omega (arith, l)) h ]

-- what stands before an item of a list whose pairs are related
pub AllPairs-before : {X : Type 0} (R : X → X → Type 0) (xs : List X) (y : X) (zs : List X) → AllPairs R (xs ++ y ∷ zs) → All (λ x. R x y) xs
AllPairs-before R [] y zs pairs = λ k d h. absurd (omega (arith, h))
AllPairs-before R (x ∷ xs) y zs pairs =
    All-cons (λ x. R x y) x xs (All-middle (R x) xs y zs (AllPairs-head R x (xs ++ y ∷ zs) pairs)) (AllPairs-before R xs y zs (AllPairs-tail R x (xs ++ y ∷ zs) pairs))
  where
    All-middle : {X : Type 0} (P : X → Type 0) (xs : List X) (y : X) (zs : List X) → All P (xs ++ y ∷ zs) → P y
    All-middle P [] y zs all = All-head P y zs all
    All-middle P (x ∷ xs) y zs all = All-middle P xs y zs (All-tail P x (xs ++ y ∷ zs) all)

pub filter_none : {X : Type 0} (p : X → Bool) (xs : List X) → All (λ x. p x ≡ false) xs → filter p xs ≡ []
filter_none p [] all = refl
filter_none p (x ∷ xs) all = ap (λ b. cond b (x ∷ filter p xs) (filter p xs)) (All-head (λ x. p x ≡ false) x xs all) ∙ filter_none p xs (All-tail (λ x. p x ≡ false) x xs all)

pub filter_each : {X : Type 0} (p : X → Bool) (xs : List X) → All (λ x. p x ≡ true) xs → filter p xs ≡ xs
filter_each p xs all = filter_agree_on p (λ x. true) xs all ∙ filter_all xs

-- what is left of a list where one more item is read
pub drop_next : {X : Type 0} (xs : List X) (i : ℕ) (x : X) → i < length xs → x ≡ get_or xs i x → drop i xs ≡ x ∷ drop (i + 1) xs
drop_next xs i x l is = rw add-one (drop-cons xs i x l ∙ ap (λ y. y ∷ drop (suc i) xs) (sym is))

-- what passes both tests, where the third tells both
pub filter_twice : {X : Type 0} (p q both : X → Bool) → ((x : X) → both x ≡ (p x && q x)) → (xs : List X) → filter both xs ≡ filter q (filter p xs)
filter_twice p q both same [] = refl
filter_twice p q both same (x ∷ xs) =
    let rest = filter_twice p q both same xs in
    elim (p x) as (λ b. both x ≡ (b && q x) → cond (both x) (x ∷ filter both xs) (filter both xs) ≡ filter q (cond b (x ∷ filter p xs) (filter p xs))) [
      | true ↦ (λ e. ap (λ b. cond b (x ∷ filter both xs) (filter both xs)) e ∙ ap (λ ys. cond (q x) (x ∷ ys) ys) rest)
      | false ↦ (λ e. ap (λ b. cond b (x ∷ filter both xs) (filter both xs)) e ∙ rest)
    ] (same x)

not_below : (n t : ℕ) → nat_lt n t ≡ false → nat_le t n ≡ true
not_below n t h = grind (arith, nat_tests)

below : (n t : ℕ) → nat_lt n t ≡ true → nat_le t n ≡ false
below n t h = grind (arith, nat_tests)

-- behind those whose number is below one are those whose number isn't
pub drop_below : {X : Type 0} (n : X → ℕ) (t : ℕ) (xs : List X) (i : ℕ) → IsPartitionPoint (λ x. nat_lt (n x) t ≡ true) (λ x. nat_lt (n x) t ≡ false) xs i → i ≤ length xs → drop i xs ≡ filter (λ x. nat_le t (n x)) xs
drop_below n t [] zero point fits = refl
drop_below n t [] (suc i) point fits = absurd (omega (arith, fits))
drop_below n t (x ∷ xs) zero point fits = sym (filter_each (λ y. nat_le t (n y)) (x ∷ xs) (λ k d l. not_below _ t (point.1 k d (omega arith) l)))
drop_below n t (x ∷ xs) (suc i) point fits =
    rw (below (n x) t (point.0 0 x (omega arith) (omega arith)))
    (drop_below n t xs i ((λ k d from to. point.0 (suc k) d (omega arith) (omega (arith, to))), (λ k d from to. point.1 (suc k) d (omega (arith, from)) (omega (arith, to)))) (omega (arith, fits)))

-- and before those whose number is above one are those whose number isn't
pub take_above : {X : Type 0} (n : X → ℕ) (t : ℕ) (xs : List X) (i : ℕ) → IsPartitionPoint (λ x. nat_le (n x) t ≡ true) (λ x. nat_le (n x) t ≡ false) xs i → i ≤ length xs → take i xs ≡ filter (λ x. nat_le (n x) t) xs
take_above n t [] zero point fits = refl
take_above n t [] (suc i) point fits = absurd (omega (arith, fits))
take_above n t (x ∷ xs) zero point fits = sym (filter_none (λ y. nat_le (n y) t) (x ∷ xs) (λ k d l. point.1 k d (omega arith) l))
take_above n t (x ∷ xs) (suc i) point fits =
    rw (point.0 0 x (omega arith) (omega arith))
    (ap (λ ys. x ∷ ys) (take_above n t xs i ((λ k d from to. point.0 (suc k) d (omega arith) (omega (arith, to))), (λ k d from to. point.1 (suc k) d (omega (arith, from)) (omega (arith, to)))) (omega (arith, fits))))
