-- Lists in which each element is related to the next.
use Rattle.std.proofs.Common.{◌≡◌, ◌⊎◌, inl, inr, ℕ, zero, suc, ◌+◌, ◌-◌, ◌/◌, ◌<◌, ◌≤◌, ◌^◌, Bool, true, false, not, ◌&&◌, ◌||◌, nat_eq, nat_lt, List, [], ◌∷◌, length, get_or, Less, Equal, Greater, is_lt, refl, sym, ap, ap₂, subst, ◌∙◌, arith, true≢false}
use Rattle.std.specs.List.{AllAdjacentBelow, AllByRecursion, IsDistinct, list_any}
use Rattle.std.specs.List.Sorted.{IsSorted}
use Rattle.std.specs.Ordering.{nat_cmp, is_eq, ordering_then, ordering_reverse}
use Rattle.std.specs.declared.cmp.Ordering.{Ordering}
use Rattle.std.specs.Cmp.{IsTotalOrder}
use Rattle.std.specs.Cmp.Lexicographic.{slice_cmp, nat_list_cmp_total}
use Rattle.std.proofs.lemmas.Cmp.{on_total, then_total, nat_cmp_total}
use Rattle.std.proofs.lemmas.Map.Keys.{IsDistinct-from_apart, apart_from_distinct}
use Rattle.std.proofs.lemmas.Bool.Decides.{nat_tests}
use Rattle.std.proofs.Math.Nat.{eq-or-lt_of_le}
use Rattle.wgr_text.specs.declared.addr.Family.{Family}
use Rattle.wgr_text.specs.declared.addr.Family.TheVariants.{V4, V6}
use Rattle.wgr_text.specs.Prefix.{AddrValue, PrefixValue, IsAddr, IsPrefix, IsIn, IsSpanOf, block, width, rank, first_rank}
use Rattle.wgr_text.proofs.Spans.{span_of_prefix}
use Rattle.wgr_pool.specs.PrefixTests.{covers, has, same_family}
use Rattle.wgr_pool.proofs.Bools.{and_true, decide, or_cases, or_right}
use Rattle.wgr_model.specs.Register.{Bytes, is_same}
use Rattle.wgr_model.specs.Rows.{last_of, family_number}
use Rattle.wgr_model.specs.Consistent.{overlaps, same_endpoint, same_slot}
use Rattle.wgr_model.proofs.HolderLemmas.{in_both}
use Rattle.wgr_model.proofs.LookLemmas.{is_same_is}
use Rattle.std.proofs.lemmas.Nat.{pow_pos}
use Rattle.wgr_pool.proofs.PrefixLemmas.{nat_eq_is, nat_eq_self, same_family_is, same_family_self}
use Rattle.wgr_checks.specs.Sorted.{endpoint_cmp, slot_cmp, pool_cmp, AreAmong, IsBelow}

-- ---- a relation that chains

module _ {X : Type 0} (R : X → X → Type 0) (chains : (a b c : X) → R a b → R b c → R a c) where
  pub far : (xs : List X) → AllAdjacentBelow R xs (length xs) → (i gap : ℕ) (d : X) → i + gap + 1 < length xs → R (get_or xs i d) (get_or xs (i + gap + 1) d)
  far xs up i zero d high = subst (λ n. R (get_or xs i d) (get_or xs n d)) (let e : i + 1 ≡ i + 0 + 1 = omega arith in e) (up i d (omega (arith, high)))
  far xs up i (suc gap) d high =
      let last : i + gap + 1 + 1 ≡ i + suc gap + 1 = omega arith in
      let more : R (get_or xs (i + gap + 1) d) (get_or xs (i + suc gap + 1) d) = subst (λ n. R (get_or xs (i + gap + 1) d) (get_or xs n d)) last (up (i + gap + 1) d (omega (arith, high))) in
      chains _ _ _ (far xs up i gap d (omega (arith, high))) more

  -- each two are apart
  pub differ_by : (clash : X → X → Bool) → ((a b : X) → R a b → clash a b ≡ false) → (xs : List X) → AllAdjacentBelow R xs (length xs) → IsDistinct clash xs
  differ_by clash apart xs up = IsDistinct-from_apart clash xs (λ i j d low high.
      let place : i + (j - (i + 1)) + 1 ≡ j = omega (arith, low) in
      apart _ _ (subst (λ n. R (get_or xs i d) (get_or xs n d)) place (far xs up i (j - (i + 1)) d (omega (arith, place, high)))))

-- ---- one more

pub one_more : {X : Type 0} (R : X → X → Type 0) (xs : List X) (at : ℕ) → AllAdjacentBelow R xs at → ((d : X) → 1 ≤ at → R (get_or xs (at - 1) d) (get_or xs at d)) → 1 ≤ at → AllAdjacentBelow R xs (at + 1)
one_more R xs at up next some k d low = elim (eq-or-lt_of_le {n = k + 1} {m = at} (omega (arith, low))) [
  | inl same ↦ let e : at - 1 ≡ k = omega (arith, same) in subst (λ n. R (get_or xs k d) (get_or xs n d)) (sym same) (subst (λ n. R (get_or xs n d) (get_or xs at d)) e (next d some))
  | inr below ↦ up k d below
]

-- ---- a total order, and a test that tells its ties

less_or_tie : (o p : Ordering) → o ≡ ordering_reverse p → is_lt p ≡ false → (o ≡ Less) ⊎ (o ≡ Equal)
less_or_tie o Less e h = absurd cc
less_or_tie o Equal e h = inr e
less_or_tie o Greater e h = inl e

module _ {X : Type 0} {cmp : X → X → Ordering} (o : IsTotalOrder cmp) (clash : X → X → Bool) (tells : (a b : X) → clash a b ≡ is_eq (cmp a b)) where
  pub rising_differ : (xs : List X) → AllAdjacentBelow (λ a b. cmp a b ≡ Less) xs (length xs) → IsDistinct clash xs
  rising_differ xs up = differ_by (λ a b. cmp a b ≡ Less) o.trans clash (λ a b less. tells a b ∙ ap is_eq less) xs up

  -- of keys that do not fall and are apart, each is below the next
  pub differing_rise : (xs : List X) → IsSorted cmp xs → IsDistinct clash xs → (k : ℕ) (d : X) → k + 1 < length xs → cmp (get_or xs k d) (get_or xs (k + 1) d) ≡ Less
  differing_rise xs up apart k d high =
      let a = get_or xs k d in
      let b = get_or xs (k + 1) d in
      let other : clash a b ≡ false = apart_from_distinct clash xs k (k + 1) d apart (omega arith) high in
      elim (less_or_tie (cmp a b) (cmp b a) (o.antisymm a b) (up k d (omega arith) high)) [
        | inl less ↦ less
        | inr tie ↦ absurd (true≢false (sym (tells a b ∙ ap is_eq tie) ∙ other))
      ]

pub nat_tells : (a b : ℕ) → nat_eq a b ≡ is_eq (nat_cmp a b)
nat_tells a b = grind (arith, nat_tests)

pub text_tells : (a b : Bytes) → is_same a b ≡ is_eq (slice_cmp nat_cmp a b)
text_tells a b = sym (is_same_is a b)

eq_then : (o p : Ordering) → (is_eq o && is_eq p) ≡ is_eq (ordering_then o p)
eq_then Less p = refl
eq_then Equal p = refl
eq_then Greater p = refl

pub endpoint_tells : (a b : Bytes × ℕ) → same_endpoint a b ≡ is_eq (endpoint_cmp a b)
endpoint_tells a b = ap₂ (λ x y. x && y) (text_tells a.0 b.0) (nat_tells a.1 b.1) ∙ eq_then (slice_cmp nat_cmp a.0 b.0) (nat_cmp a.1 b.1)

pub endpoint_total : IsTotalOrder endpoint_cmp
endpoint_total = then_total (on_total (λ (p : Bytes × ℕ). p.0) nat_list_cmp_total) (on_total (λ (p : Bytes × ℕ). p.1) nat_cmp_total)

pub slot_tells : (a b : ℕ × Bytes) → same_slot a b ≡ is_eq (slot_cmp a b)
slot_tells a b = ap₂ (λ x y. x && y) (nat_tells a.0 b.0) (text_tells a.1 b.1) ∙ eq_then (nat_cmp a.0 b.0) (slice_cmp nat_cmp a.1 b.1)

pub slot_total : IsTotalOrder slot_cmp
slot_total = then_total (on_total (λ (p : ℕ × Bytes). p.0) nat_cmp_total) (on_total (λ (p : ℕ × Bytes). p.1) nat_list_cmp_total)

-- ---- pools

is_in : (p : PrefixValue) (a : AddrValue) → has p a ≡ true → IsIn p a
is_in p a h =
    let both = and_true (same_family p.address.family a.family) (nat_eq (a.number / block p.address.family p.length) (p.address.number / block p.address.family p.length)) h in
    (sym (same_family_is p.address.family a.family both.0), nat_eq_is (a.number / block p.address.family p.length) (p.address.number / block p.address.family p.length) both.1)

has_in : (p : PrefixValue) (a : AddrValue) → IsIn p a → has p a ≡ true
has_in p a is = ap₂ (λ x y. x && y) (ap (same_family p.address.family) is.0 ∙ same_family_self p.address.family)
    (ap (λ n. nat_eq n (p.address.number / block p.address.family p.length)) is.1 ∙ nat_eq_self (p.address.number / block p.address.family p.length))

covered : (p q : PrefixValue) → covers p q ≡ true → IsIn p q.address
covered p q h = is_in p q.address (and_true (not (nat_lt q.length p.length)) (has p q.address) h).1

last_from : (p : PrefixValue) → rank p.address ≤ rank (last_of p)
last_from p =
    let some : 1 ≤ block p.address.family p.length = pow_pos (width p.address.family - p.length) in
    omega (arith, some)

pub below_chains : (p q r : PrefixValue) → IsBelow p q → IsBelow q r → IsBelow p r
below_chains p q r h k = record { first = h.first; next = k.next; below = let mid = last_from q in omega (arith, h.below, k.below, mid) }

pub span_of : (p : PrefixValue) → IsPrefix p → IsAddr p.address → IsSpanOf p p.address (last_of p)
span_of p is fits = let some : 1 ≤ block p.address.family p.length = pow_pos (width p.address.family - p.length) in span_of_prefix p (last_of p) is fits refl (omega (arith, some))

-- no address of a pool that ends before another begins is one of the other's
pub below_apart : (p q : PrefixValue) → IsBelow p q → overlaps p q ≡ false
unfolding overlaps
below_apart p q h = elim (decide (covers p q || covers q p)) [
  | inr none ↦ none
  | inl some ↦ absurd (elim (or_cases (covers p q) (covers q p) some) [
    | inl e ↦
        let b = ((span_of p h.first.0 h.first.1).between q.address).0 (covered p q e) in
        let f : first_rank q.address.family ≡ first_rank p.address.family = ap first_rank b.0 in
        omega (arith, h.below, b.2, f)
    | inr e ↦
        let b = ((span_of q h.next.0 h.next.1).between p.address).0 (covered q p e) in
        let f : first_rank p.address.family ≡ first_rank q.address.family = ap first_rank b.0 in
        let l = last_from p in
        omega (arith, h.below, b.1, f, l)
  ])
]

-- pools in order that are apart: each ends before the next begins
not_less : (m n : ℕ) → is_lt (nat_cmp m n) ≡ false → n ≤ m
not_less m n h = grind (arith, nat_tests)

module _ (p q : PrefixValue) (is_p : IsPrefix p) (fits_p : IsAddr p.address) (is_q : IsPrefix q) (fits_q : IsAddr q.address) (apart : overlaps p q ≡ false) where
  beyond : q.address.family ≡ p.address.family → p.address.number ≤ q.address.number → (last_of p).number < q.address.number
  beyond same low = elim (decide (nat_lt (last_of p).number q.address.number)) [
    | inl small ↦ grind (arith, nat_tests, small)
    | inr large ↦
        let high : q.address.number ≤ (last_of p).number = grind (arith, nat_tests, large) in
        let inside : IsIn p q.address = ((span_of p is_p fits_p).between q.address).1 (same, low, high) in
        absurd (true≢false (sym (in_both p q q.address (has_in p q.address inside) (has_in q q.address (refl, refl))) ∙ apart))
  ]

  by_family : (f g : Family) → p.address.family ≡ f → q.address.family ≡ g → is_lt (ordering_then (nat_cmp (family_number g) (family_number f)) (nat_cmp q.address.number p.address.number)) ≡ false → first_rank f + (last_of p).number < first_rank g + q.address.number
  by_family V4 V4 fp fq up = let h = beyond (fq ∙ sym fp) (not_less q.address.number p.address.number up) in omega (arith, h)
  by_family V6 V6 fp fq up = let h = beyond (fq ∙ sym fp) (not_less q.address.number p.address.number up) in omega (arith, h)
  by_family V4 V6 fp fq up =
      let fits : (last_of p).number < 2 ^ width V4 = subst (λ f. (last_of p).number < 2 ^ width f) fp (span_of p is_p fits_p).last_in.0 in
      omega (arith, fits)
  by_family V6 V4 fp fq up = absurd cc

  pub ordered_below : is_lt (pool_cmp q p) ≡ false → rank (last_of p) < rank q.address
  ordered_below up = by_family p.address.family q.address.family refl refl up

pub below_differ : (a b : ℕ) → a < b → nat_eq a b ≡ false
below_differ a b h = grind (arith, nat_tests)

pub less_is : (a b : ℕ) → nat_cmp a b ≡ Less → a < b
less_is a b h = grind (arith, nat_tests)

-- the item at a place, whatever stands for none
pub at_place : {X : Type 0} (xs : List X) (i : ℕ) (x d : X) → i < length xs → x ≡ get_or xs i x → get_or xs i d ≡ x
at_place [] i x d low is = absurd (omega (arith, low))
at_place (y ∷ xs) zero x d low is = sym is
at_place (y ∷ xs) (suc i) x d low is = at_place xs i x d (omega (arith, low)) is

module _ {X : Type 0} {cmp : X → X → Ordering} (o : IsTotalOrder cmp) (clash : X → X → Bool) (tells : (a b : X) → clash a b ≡ is_eq (cmp a b)) (xs : List X) (up : IsSorted cmp xs) (apart : IsDistinct clash xs) (at : ℕ) where
  pub differing_at : (d : X) → 1 ≤ at → at < length xs → cmp (get_or xs (at - 1) d) (get_or xs at d) ≡ Less
  differing_at d low high =
      let e : at - 1 + 1 ≡ at = omega (arith, low) in
      subst (λ n. cmp (get_or xs (at - 1) d) (get_or xs n d) ≡ Less) e (differing_rise o clash tells xs up apart (at - 1) d (omega (arith, e, high)))

  pub differing_items : (a b : X) → 1 ≤ at → at < length xs → a ≡ get_or xs (at - 1) a → b ≡ get_or xs at b → cmp a b ≡ Less
  differing_items a b low high is_a is_b =
      ap₂ cmp (sym (at_place xs (at - 1) a a (omega (arith, high)) is_a)) (sym (at_place xs at b a high is_b)) ∙ differing_at a low high

pub apart_rise : (xs : List PrefixValue) → IsSorted pool_cmp xs → IsDistinct overlaps xs → (at : ℕ) (a b : PrefixValue) → 1 ≤ at → at < length xs → a ≡ get_or xs (at - 1) a → b ≡ get_or xs at b
    → IsPrefix a × IsAddr a.address → IsPrefix b × IsAddr b.address → rank (last_of a) < rank b.address
apart_rise xs up apart at a b low high is_a is_b va vb =
    let e : at - 1 + 1 ≡ at = omega (arith, low) in
    let one = at_place xs (at - 1) a a (omega (arith, high)) is_a in
    let two = at_place xs at b a high is_b in
    let other : overlaps a b ≡ false = ap₂ overlaps (sym one) (sym two) ∙ apart_from_distinct overlaps xs (at - 1) at a apart (omega (arith, low)) high in
    let order : is_lt (pool_cmp b a) ≡ false = ap₂ (λ x y. is_lt (pool_cmp x y)) (sym two) (sym one) ∙ subst (λ n. is_lt (pool_cmp (get_or xs n a) (get_or xs (at - 1) a)) ≡ false) e (up (at - 1) a (omega arith) (omega (arith, e, high))) in
    ordered_below a b va.0 va.1 vb.0 vb.1 other order

-- ---- a walk over two lists

pub sorted_le : (xs : List ℕ) → IsSorted nat_cmp xs → (i gap : ℕ) → i + gap < length xs → get_or xs i 0 ≤ get_or xs (i + gap) 0
sorted_le xs up i zero high = let e : i + 0 ≡ i = omega arith in subst (λ n. get_or xs i 0 ≤ get_or xs n 0) (sym e) (omega arith)
sorted_le xs up i (suc gap) high =
    let e : i + gap + 1 ≡ i + suc gap = omega arith in
    let before = sorted_le xs up i gap (omega (arith, high)) in
    let step : get_or xs (i + gap) 0 ≤ get_or xs (i + gap + 1) 0 = not_less _ _ (up (i + gap) 0 (omega arith) (omega (arith, high))) in
    subst (λ n. get_or xs i 0 ≤ get_or xs n 0) e (omega (arith, before, step))

pub rises_to : (xs : List ℕ) → IsSorted nat_cmp xs → (i j : ℕ) → i ≤ j → j < length xs → get_or xs i 0 ≤ get_or xs j 0
rises_to xs up i j low high = let e : i + (j - i) ≡ j = omega (arith, low) in subst (λ n. get_or xs i 0 ≤ get_or xs n 0) e (sorted_le xs up i (j - i) (omega (arith, e, high)))

pub any_at : (n : ℕ) (xs : List ℕ) (i : ℕ) → i < length xs → get_or xs i 0 ≡ n → list_any (λ x. nat_eq n x) xs ≡ true
any_at n [] i low is = absurd (omega (arith, low))
any_at n (x ∷ xs) zero low is = ap (λ b. b || list_any (λ x. nat_eq n x) xs) (let same : nat_eq n x ≡ true = grind (arith, nat_tests, is) in same)
any_at n (x ∷ xs) (suc i) low is = or_right (nat_eq n x) _ (any_at n xs i (omega (arith, low)) is)

pub place_of_any : (n : ℕ) (xs : List ℕ) → list_any (λ x. nat_eq n x) xs ≡ true → (i : ℕ) × (i < length xs) × (get_or xs i 0 ≡ n)
place_of_any n [] h = absurd cc
place_of_any n (x ∷ xs) h = elim (or_cases (nat_eq n x) (list_any (λ x. nat_eq n x) xs) h) [
  | inl here ↦ (0, (omega arith), sym (nat_eq_is n x here))
  | inr later ↦ let p = place_of_any n xs later in (suc p.0, (let l = p.1 in omega (arith, l)), p.2)
]

pub all_places : (P : ℕ → Type 0) (xs : List ℕ) → ((k : ℕ) → k < length xs → P (get_or xs k 0)) → AllByRecursion P xs
all_places P [] all = tt
all_places P (x ∷ xs) all = (all 0 (omega arith), all_places P xs (λ k low. all (suc k) (omega (arith, low))))

pub at_each : (P : ℕ → Type 0) (xs : List ℕ) → AllByRecursion P xs → (k : ℕ) → k < length xs → P (get_or xs k 0)
at_each P [] all k low = absurd (omega (arith, low))
at_each P (x ∷ xs) all zero low = all.0
at_each P (x ∷ xs) all (suc k) low = at_each P xs all.1 k (omega (arith, low))

pub one_of : (P : ℕ → Type 0) (n : ℕ) → ((k : ℕ) → k < n → P k) → P n → (k : ℕ) → k < n + 1 → P k
one_of P n all last k low = elim (eq-or-lt_of_le {n = k} {m = n} (omega (arith, low))) [ inl same ↦ subst P (sym same) last | inr below ↦ all k below ]

-- the walk stops at an owner only where it is none of the ids
pub not_among : (owners ids : List ℕ) (at next : ℕ) → at < length owners → IsSorted nat_cmp ids → AreAmong owners ids → ((k : ℕ) → k < next → get_or ids k 0 < get_or owners at 0)
    → (next < length ids → get_or owners at 0 < get_or ids next 0) → ⊥
not_among owners ids at next low up among passed rest =
    let m = place_of_any (get_or owners at 0) ids (at_each (λ owner. list_any (λ id. nat_eq owner id) ids ≡ true) owners among at low) in
    elim (decide (nat_lt m.0 next)) [
      | inl before ↦ let small : m.0 < next = grind (arith, nat_tests, before) in let less = passed m.0 small in let is = m.2 in omega (arith, less, is)
      | inr after ↦
          let big : next ≤ m.0 = grind (arith, nat_tests, after) in
          let l = m.1 in
          let less = rest (omega (arith, big, l)) in
          let more = rises_to ids up next m.0 big l in
          let is = m.2 in omega (arith, less, more, is)
    ]

pub above : (m n : ℕ) → (m < n → ⊥) → (m ≡ n → ⊥) → n < m
above m n not_less differ = elim (decide (nat_lt m n)) [
  | inl less ↦ absurd (not_less (grind (arith, nat_tests, less)))
  | inr other ↦ elim (decide (nat_eq m n)) [
    | inl same ↦ absurd (differ (nat_eq_is m n same))
    | inr apart ↦ grind (arith, nat_tests, other, apart)
  ]
]
