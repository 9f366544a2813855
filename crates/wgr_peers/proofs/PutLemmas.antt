-- An item put in the place of another.
use Rattle.std.proofs.Common.{◌≡◌, ◌+◌, ◌<◌, ◌≤◌, inl, inr, Bool, true, false, ◌||◌, cond, List, [], ◌∷◌, length, get_or, map, refl, sym, ap, ◌∙◌, subst, arith}
use Rattle.std.specs.List.{All, AllPairs, list_any}
use Rattle.std.proofs.lemmas.List.{get_or-map, length-map}
use Rattle.std.proofs.lemmas.List.Elements.{All-head, All-tail}
use Rattle.wgr_peers.specs.Ordered.{put_in_order}
use Rattle.wgr_pool.proofs.Lists.{AllPairs-head, AllPairs-tail}
use Rattle.wgr_pool.proofs.Bools.{decide}

-- `x` in the place of each item that is the same
abbrev pub swapped : {X : Type 0} → (X → Bool) → X → X → X
swapped is_same x y = cond (is_same y) x y

-- no item is the same behind one that is
none_behind : {X : Type 0} (R : X → X → Type 0) (is_below is_same : X → Bool) (y : X) (ys : List X) → ((y : X) → is_same y ≡ true → is_below y ≡ false) → ((y z : X) → R y z → is_same z ≡ true → is_below y ≡ true)
    → is_same y ≡ true → All (R y) ys → All (λ z. is_same z ≡ false) ys
none_behind R is_below is_same y ys level lead same above = λ k d h. elim (decide (is_same (get_or ys k d))) [
  | inl also ↦ let bad : true ≡ false = sym (lead y (get_or ys k d) (above k d h) also) ∙ level y same in cc
  | inr apart ↦ apart
]

swapped_none : {X : Type 0} (is_same : X → Bool) (x : X) (ys : List X) → All (λ z. is_same z ≡ false) ys → map (swapped is_same x) ys ≡ ys
swapped_none is_same x [] none = refl
swapped_none is_same x (y ∷ ys) none =
    ap (λ b. cond b x y ∷ map (swapped is_same x) ys) (All-head (λ z. is_same z ≡ false) y ys none)
    ∙ ap (λ zs. y ∷ zs) (swapped_none is_same x ys (All-tail (λ z. is_same z ≡ false) y ys none))

-- what is before an item that is the same is below it
below_later : {X : Type 0} (R : X → X → Type 0) (is_below is_same : X → Bool) (y : X) (ys : List X) → ((y z : X) → R y z → is_same z ≡ true → is_below y ≡ true)
    → All (R y) ys → list_any is_same ys ≡ true → is_below y ≡ true
below_later R is_below is_same y [] lead above some = cc
below_later R is_below is_same y (z ∷ zs) lead above some = elim (decide (is_same z)) [
  | inl same ↦ lead y z (All-head (R y) z zs above) same
  | inr apart ↦ below_later R is_below is_same y zs lead (All-tail (R y) z zs above) (sym (ap (λ b. b || list_any is_same zs) apart) ∙ some)
]

-- where an item is the same, the new one takes its place
pub put_is_map : {X : Type 0} (R : X → X → Type 0) (is_below is_same : X → Bool) (xs : List X) (x : X) → AllPairs R xs
    → ((y : X) → is_same y ≡ true → is_below y ≡ false) → ((y z : X) → R y z → is_same z ≡ true → is_below y ≡ true)
    → list_any is_same xs ≡ true → put_in_order is_below is_same xs x ≡ map (swapped is_same x) xs
put_is_map R is_below is_same [] x pairs level lead some = cc
put_is_map R is_below is_same (y ∷ ys) x pairs level lead some =
    let above = AllPairs-head R y ys pairs in
    elim (decide (is_same y)) [
      | inl same ↦
          ap (λ b. cond b (y ∷ put_in_order is_below is_same ys x) (cond (is_same y) (x ∷ ys) (x ∷ y ∷ ys))) (level y same)
          ∙ ap (λ b. cond b (x ∷ ys) (x ∷ y ∷ ys)) same
          ∙ ap (λ zs. x ∷ zs) (sym (swapped_none is_same x ys (none_behind R is_below is_same y ys level lead same above)))
          ∙ sym (ap (λ b. cond b x y ∷ map (swapped is_same x) ys) same)
      | inr apart ↦
          let later = sym (ap (λ b. b || list_any is_same ys) apart) ∙ some in
          ap (λ b. cond b (y ∷ put_in_order is_below is_same ys x) (cond (is_same y) (x ∷ ys) (x ∷ y ∷ ys))) (below_later R is_below is_same y ys lead above later)
          ∙ ap (λ zs. y ∷ zs) (put_is_map R is_below is_same ys x (AllPairs-tail R y ys pairs) level lead later)
          ∙ sym (ap (λ b. cond b x y ∷ map (swapped is_same x) ys) apart)
    ]

-- one more item at most
pub length-put : {X : Type 0} (is_below is_same : X → Bool) (xs : List X) (x : X) → length (put_in_order is_below is_same xs x) ≤ length xs + 1
length-put is_below is_same [] x = omega arith
length-put is_below is_same (y ∷ ys) x =
    let rest = length-put is_below is_same ys x in
    elim (is_below y) as (λ b. length (cond b (y ∷ put_in_order is_below is_same ys x) (cond (is_same y) (x ∷ ys) (x ∷ y ∷ ys))) ≤ length (y ∷ ys) + 1) [
      | true ↦ omega (arith, rest)
      | false ↦ elim (is_same y) as (λ b. length (cond b (x ∷ ys) (x ∷ y ∷ ys)) ≤ length (y ∷ ys) + 1) [ true ↦ omega arith | false ↦ omega arith ]
    ]

-- the pairs of a list whose items are replaced one by one
pub map_pairs : {X Y : Type 0} (f : X → Y) (R : Y → Y → Type 0) (xs : List X) → AllPairs (λ x y. R (f x) (f y)) xs → AllPairs R (map f xs)
map_pairs f R [] pairs = λ i j d l h. absurd (omega (arith, h))
map_pairs f R (x ∷ xs) pairs = λ i j d l h.
    let m : j < length (x ∷ xs) = omega (arith, h, length-map (x ∷ xs) f) in
    subst (λ y. R y (get_or (map f (x ∷ xs)) j d)) (sym (get_or-map f (x ∷ xs) i x d (omega (arith, l, m))))
    (subst (λ y. R (f (get_or (x ∷ xs) i x)) y) (sym (get_or-map f (x ∷ xs) j x d m)) (pairs i j x l m))
