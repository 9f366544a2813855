-- An item put in its place.
use Rattle.std.proofs.Common.{◌≡◌, ℕ, zero, suc, ◌<◌, ◌≤◌, inl, inr, Bool, true, false, not, cond, List, [], ◌∷◌, ◌++◌, length, get_or, set, Ok, Err, refl, sym, ap, subst, ◌∙◌, arith}
use Rattle.std.specs.List.{All, AllPairs, filter, insert, remove}
use Rattle.std.specs.List.Sorted.{IsPartitionedBy, IsPartitionPoint}
use Rattle.std.proofs.lemmas.Bool.{cases_lt, cases_eq}
use Rattle.std.proofs.lemmas.List.Elements.{All-cons, All-head, All-tail}
use Rattle.wgr_peers.specs.Ordered.{put_in_order, IsPlace, EndsAt}
use Rattle.wgr_pool.proofs.Lists.{filter_each, AllPairs-cons, AllPairs-head, AllPairs-tail}
use Rattle.wgr_pool.proofs.Bools.{decide}

-- where all are below it, it comes last
pub put_above : {X : Type 0} (is_below is_same : X → Bool) (xs : List X) (x : X) → All (λ y. is_below y ≡ true) xs → put_in_order is_below is_same xs x ≡ xs ++ x ∷ []
put_above is_below is_same [] x all = refl
put_above is_below is_same (y ∷ ys) x all =
    ap (λ b. cond b (y ∷ put_in_order is_below is_same ys x) (cond (is_same y) (x ∷ ys) (x ∷ y ∷ ys))) (All-head (λ y. is_below y ≡ true) y ys all)
    ∙ ap (λ zs. y ∷ zs) (put_above is_below is_same ys x (All-tail (λ y. is_below y ≡ true) y ys all))

later : {X : Type 0} (is_below : X → Bool) (y : X) (ys : List X) (at : ℕ) → IsPlace is_below (y ∷ ys) (suc at) → IsPlace is_below ys at
later is_below y ys at place = record {
  within = omega (arith, place.within);
  before = λ k d h. place.before (suc k) d (omega (arith, h));
  after = λ k d h l. place.after (suc k) d (omega (arith, h)) (omega (arith, l));
}

-- it takes the place of the one that is the same
pub put_over : {X : Type 0} (is_below is_same : X → Bool) (xs : List X) (x : X) (at : ℕ) (d : X) → IsPlace is_below xs at → at < length xs → is_same (get_or xs at d) ≡ true → put_in_order is_below is_same xs x ≡ set xs at x
put_over is_below is_same [] x at d place l same = absurd (omega (arith, l))
put_over is_below is_same (y ∷ ys) x zero d place l same =
    ap (λ b. cond b (y ∷ put_in_order is_below is_same ys x) (cond (is_same y) (x ∷ ys) (x ∷ y ∷ ys))) (place.after zero d (omega arith) l)
    ∙ ap (λ b. cond b (x ∷ ys) (x ∷ y ∷ ys)) same
put_over is_below is_same (y ∷ ys) x (suc at) d place l same =
    ap (λ b. cond b (y ∷ put_in_order is_below is_same ys x) (cond (is_same y) (x ∷ ys) (x ∷ y ∷ ys))) (place.before zero d (omega arith))
    ∙ ap (λ zs. y ∷ zs) (put_over is_below is_same ys x at d (later is_below y ys at place) (omega (arith, l)) same)

-- where none is the same, it comes between
pub put_between : {X : Type 0} (is_below is_same : X → Bool) (xs : List X) (x : X) (at : ℕ) → IsPlace is_below xs at → ((d : X) → at < length xs → is_same (get_or xs at d) ≡ false) → put_in_order is_below is_same xs x ≡ insert xs at x
put_between is_below is_same [] x zero place apart = refl
put_between is_below is_same [] x (suc at) place apart = absurd (omega (arith, place.within))
put_between is_below is_same (y ∷ ys) x zero place apart =
    ap (λ b. cond b (y ∷ put_in_order is_below is_same ys x) (cond (is_same y) (x ∷ ys) (x ∷ y ∷ ys))) (place.after zero y (omega arith) (omega arith))
    ∙ ap (λ b. cond b (x ∷ ys) (x ∷ y ∷ ys)) (apart y (omega arith))
put_between is_below is_same (y ∷ ys) x (suc at) place apart =
    ap (λ b. cond b (y ∷ put_in_order is_below is_same ys x) (cond (is_same y) (x ∷ ys) (x ∷ y ∷ ys))) (place.before zero y (omega arith))
    ∙ ap (λ zs. y ∷ zs) (put_between is_below is_same ys x at (later is_below y ys at place) (λ d l. apart d (omega (arith, l))))

-- ---- what a search leads to

pub put_found : {X : Type 0} (is_below is_same : X → Bool) (xs : List X) (x : X) (at : ℕ) → EndsAt is_below is_same xs (Ok at) → put_in_order is_below is_same xs x ≡ set xs at x
put_found is_below is_same xs x at ends = put_over is_below is_same xs x at x ends.0 ends.1 (ends.2 x)

pub put_absent : {X : Type 0} (is_below is_same : X → Bool) (xs : List X) (x : X) (at : ℕ) → EndsAt is_below is_same xs (Err at) → put_in_order is_below is_same xs x ≡ insert xs at x
put_absent is_below is_same xs x at ends = put_between is_below is_same xs x at ends.0 ends.1

-- a test that passes each item before one that passes
pub partitioned : {X : Type 0} (R : X → X → Type 0) (is_below : X → Bool) (xs : List X) → AllPairs R xs → ((y z : X) → R y z → is_below z ≡ true → is_below y ≡ true) → IsPartitionedBy is_below xs
partitioned R is_below xs pairs down = λ i j d le within passes. elim (cases_lt i j) [
  | inl before ↦ down (get_or xs i d) (get_or xs j d) (pairs i j d before within) passes
  | inr from ↦ let same : j ≡ i = omega arith in subst (λ (k : ℕ). is_below (get_or xs k d) ≡ true) same passes
]

pub place_is : {X : Type 0} (is_below : X → Bool) (xs : List X) (at : ℕ) → at ≤ length xs → IsPartitionPoint (λ y. is_below y ≡ true) (λ y. is_below y ≡ false) xs at → IsPlace is_below xs at
place_is is_below xs at within point = record {
  within = within;
  before = λ k d h. point.0 k d (omega arith) h;
  after = λ k d h l. point.1 k d h l;
}

-- ---- the order is kept

pub put_all : {X : Type 0} (P : X → Type 0) (is_below is_same : X → Bool) (xs : List X) (x : X) → All P xs → P x → All P (put_in_order is_below is_same xs x)
put_all P is_below is_same [] x all here = All-cons P x [] here all
put_all P is_below is_same (y ∷ ys) x all here =
    let first = All-head P y ys all in
    let rest = All-tail P y ys all in
    elim (is_below y) as (λ b. All P (cond b (y ∷ put_in_order is_below is_same ys x) (cond (is_same y) (x ∷ ys) (x ∷ y ∷ ys)))) [
      | true ↦ All-cons P y (put_in_order is_below is_same ys x) first (put_all P is_below is_same ys x rest here)
      | false ↦ elim (is_same y) as (λ b. All P (cond b (x ∷ ys) (x ∷ y ∷ ys))) [
        | true ↦ All-cons P x ys here rest
        | false ↦ All-cons P x (y ∷ ys) here all
      ]
    ]

-- the tests place `x` by the order `R` of items that are `P`
pub record IsPlacedBy {X : Type 0} (R : X → X → Type 0) (P : X → Type 0) (is_below is_same : X → Bool) (x : X) : Type 0 where
  pub item : P x
  pub below : (y : X) → is_below y ≡ true → R y x
  pub above : (y : X) → P y → is_below y ≡ false → is_same y ≡ false → R x y
  pub same : (y z : X) → is_same y ≡ true → R y z → R x z
  pub joins : (y z : X) → R x y → R y z → R x z

pub put_pairs : {X : Type 0} (R : X → X → Type 0) (P : X → Type 0) (is_below is_same : X → Bool) (xs : List X) (x : X) → IsPlacedBy R P is_below is_same x → All P xs → AllPairs R xs → AllPairs R (put_in_order is_below is_same xs x)
put_pairs R P is_below is_same [] x by all pairs = AllPairs-cons R x [] (λ k d h. absurd (omega (arith, h))) pairs
put_pairs R P is_below is_same (y ∷ ys) x by all pairs =
    let first = AllPairs-head R y ys pairs in
    let rest = AllPairs-tail R y ys pairs in
    elim (decide (is_below y)) [
      | inl below ↦ subst (λ b. AllPairs R (cond b (y ∷ put_in_order is_below is_same ys x) (cond (is_same y) (x ∷ ys) (x ∷ y ∷ ys)))) (sym below)
          (AllPairs-cons R y (put_in_order is_below is_same ys x) (put_all (R y) is_below is_same ys x first (by.below y below)) (put_pairs R P is_below is_same ys x by (All-tail P y ys all) rest))
      | inr not_below ↦ subst (λ b. AllPairs R (cond b (y ∷ put_in_order is_below is_same ys x) (cond (is_same y) (x ∷ ys) (x ∷ y ∷ ys)))) (sym not_below)
          (elim (decide (is_same y)) [
            | inl same ↦ subst (λ b. AllPairs R (cond b (x ∷ ys) (x ∷ y ∷ ys))) (sym same) (AllPairs-cons R x ys (λ k d h. by.same y (get_or ys k d) same (first k d h)) rest)
            | inr apart ↦
                let next = by.above y (All-head P y ys all) not_below apart in
                subst (λ b. AllPairs R (cond b (x ∷ ys) (x ∷ y ∷ ys))) (sym apart) (AllPairs-cons R x (y ∷ ys) (All-cons (R x) y ys next (λ k d h. by.joins y (get_or ys k d) next (first k d h))) pairs)
          ])
    ]

-- ---- an item taken away

-- what a test leaves where it fails at one place alone
filter_but : {X : Type 0} (p : X → Bool) (xs : List X) (at : ℕ) (d : X) → at < length xs → p (get_or xs at d) ≡ false → ((k : ℕ) (d : X) → k < length xs → (k ≡ at → ⊥) → p (get_or xs k d) ≡ true) → filter p xs ≡ remove xs at
filter_but p [] at d l fails others = absurd (omega (arith, l))
filter_but p (y ∷ ys) zero d l fails others =
    ap (λ b. cond b (y ∷ filter p ys) (filter p ys)) fails ∙ filter_each p ys (λ k d h. others (suc k) d (omega (arith, h)) (λ e. absurd (omega (arith, e))))
filter_but p (y ∷ ys) (suc at) d l fails others =
    ap (λ b. cond b (y ∷ filter p ys) (filter p ys)) (others zero d (omega arith) (λ e. absurd (omega (arith, e))))
    ∙ ap (λ zs. y ∷ zs) (filter_but p ys at d (omega (arith, l)) fails (λ k d h apart. others (suc k) d (omega (arith, h)) (λ e. apart (omega (arith, e)))))

-- only the item at the place can be the same
pub only_there : {X : Type 0} (R : X → X → Type 0) (is_below is_same : X → Bool) (xs : List X) (at : ℕ) → AllPairs R xs → IsPlace is_below xs at
    → ((y : X) → is_same y ≡ true → is_below y ≡ false) → ((y z : X) → R y z → is_same z ≡ true → is_below y ≡ true)
    → (k : ℕ) (d : X) → k < length xs → (k ≡ at → ⊥) → not (is_same (get_or xs k d)) ≡ true
only_there R is_below is_same xs at pairs place level down k d h apart = elim (decide (is_same (get_or xs k d))) [
  | inl same ↦ elim (cases_lt k at) [
    | inl before ↦ let bad : true ≡ false = sym (place.before k d before) ∙ level (get_or xs k d) same in cc
    | inr from ↦
        let l : at < k = omega (arith, apart, from) in
        let bad : true ≡ false = sym (down (get_or xs at d) (get_or xs k d) (pairs at k d l h) same) ∙ place.after at d (omega arith) (omega (arith, l, h)) in cc
  ]
  | inr other ↦ ap not other
]

pub drop_found : {X : Type 0} (R : X → X → Type 0) (is_below is_same : X → Bool) (xs : List X) (at : ℕ) → AllPairs R xs → EndsAt is_below is_same xs (Ok at)
    → ((y : X) → is_same y ≡ true → is_below y ≡ false) → ((y z : X) → R y z → is_same z ≡ true → is_below y ≡ true)
    → filter (λ y. not (is_same y)) xs ≡ remove xs at
drop_found R is_below is_same [] at pairs ends level down = absurd (omega (arith, ends.1))
drop_found R is_below is_same (x ∷ xs) at pairs ends level down =
    filter_but (λ y. not (is_same y)) (x ∷ xs) at x ends.1 (ap not (ends.2 x)) (only_there R is_below is_same (x ∷ xs) at pairs ends.0 level down)

pub drop_absent : {X : Type 0} (R : X → X → Type 0) (is_below is_same : X → Bool) (xs : List X) (at : ℕ) → AllPairs R xs → EndsAt is_below is_same xs (Err at)
    → ((y : X) → is_same y ≡ true → is_below y ≡ false) → ((y z : X) → R y z → is_same z ≡ true → is_below y ≡ true)
    → filter (λ y. not (is_same y)) xs ≡ xs
drop_absent R is_below is_same xs at pairs ends level down =
    filter_each (λ y. not (is_same y)) xs (λ k d h. elim (cases_eq k at) [
      | inl here ↦ ap not (subst (λ (i : ℕ). is_same (get_or xs i d) ≡ false) (sym here) (ends.1 d (subst (λ (i : ℕ). i < length xs) here h)))
      | inr apart ↦ only_there R is_below is_same xs at pairs ends.0 level down k d h apart
    ])
