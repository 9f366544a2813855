-- The tests of pools, and the first of several that overlap.
use Rattle.std.proofs.Common.{◌≡◌, ℕ, ◌/◌, ◌%◌, ◌^◌, Bool, true, false, not, ◌&&◌, List, [], ◌∷◌, Some, Option, nat_eq, nat_lt, refl, sym, ap, ap₂, subst, ◌∙◌, arith, true≢false, inl, inr}
use Rattle.std.specs.Prelude.{if◌then◌else◌}
use Rattle.std.specs.Ordering.{nat_cmp, ordering_then, ordering_reverse, is_lt}
use Rattle.std.proofs.Common.{Less, Equal, Greater}
use Rattle.std.specs.declared.cmp.Ordering.{Ordering}
use Rattle.std.specs.Cmp.{IsTotalOrder}
use Rattle.std.specs.Cmp.Lexicographic.{slice_cmp, nat_list_cmp_total}
use Rattle.std.proofs.lemmas.Cmp.{on_total, then_total}
use Rattle.std.proofs.lemmas.Bool.Decides.{nat_tests}
use Rattle.wgr_text.specs.Prefix.{AddrValue, AreDisjoint, IsIn, PrefixValue, block, width}
use Rattle.wgr_text.specs.declared.addr.Family.{Family}
use Rattle.wgr_text.specs.declared.addr.Family.TheVariants.{V4, V6}
use Rattle.wgr_pool.proofs.Bools.{and_true, decide, or_cases}
use Rattle.wgr_pool.proofs.PrefixLemmas.{has_in, is_in, nat_eq_is, nat_eq_self, same_family_is, same_family_self}
use Rattle.wgr_pool.specs.Pool.{IsPool, IsPoolLength}
use Rattle.wgr_pool.specs.PrefixTests.{covers, has, same_family}
use Rattle.wgr_model.specs.Consistent.{is_pool, is_pool_length, overlaps}
use Rattle.wgr_model.specs.Laws.{FirstIsNamed, Has, IsFirst, OverlapsAreDecided, PoolsAreDecided}
use Rattle.wgr_model.specs.Register.{Bytes}
use Rattle.wgr_model.specs.Steps.{OrderRefusal, PoolOverlaps, comes_before, first_of, overlapping, pool_refusal}
use Rattle.wgr_model.proofs.HolderLemmas.{in_both}
use Rattle.wgr_model.proofs.KeptLemmas.{is_pool_sound}
use Rattle.wgr_model.proofs.LookLemmas.{none_some}

-- ---- pools

length_told : (f : Family) (length : ℕ) → IsPoolLength f length → is_pool_length f length ≡ true
length_told V4 length is = grind (arith, nat_tests, is.0, is.1)
length_told V6 length is = grind (arith, nat_tests, is.0, is.1)

pool_told : (p : PrefixValue) → IsPool p → is_pool p ≡ true
unfolding is_pool
pool_told p is =
    let fits : nat_lt p.address.number (2 ^ width p.address.family) ≡ true = grind (arith, nat_tests, is.0) in
    let masked : nat_eq (p.address.number % block p.address.family p.length) 0 ≡ true = ap (λ n. nat_eq n 0) is.1.1 in
    ap₂ (λ x y. x && y) (ap₂ (λ x y. x && y) fits masked) (length_told p.address.family p.length is.2)

pub pools_are_decided : PoolsAreDecided
pools_are_decided p = (is_pool_sound p, pool_told p)

-- ---- overlap

own_start : (p : PrefixValue) → IsIn p p.address
own_start p = (refl, refl)

-- one that covers another has the other's first address
covered : (p q : PrefixValue) → covers p q ≡ true → IsIn p q.address
covered p q h = is_in p q.address (and_true (not (nat_lt q.length p.length)) (has p q.address) h).1

not_disjoint : (p q : PrefixValue) → IsPool p → IsPool q → AreDisjoint p q → overlaps p q ≡ true → ⊥
unfolding overlaps
not_disjoint p q pp pq apart h = elim (or_cases (covers p q) (covers q p) h) [
  | inl e ↦ apart q.address pq.0 (covered p q e) (own_start q)
  | inr e ↦ apart p.address pp.0 (own_start p) (covered q p e)
]

pub overlaps_are_decided : OverlapsAreDecided
overlaps_are_decided p q pp pq = (
  (λ none a fits in_p in_q. true≢false (sym (in_both p q a (has_in p a in_p) (has_in q a in_q)) ∙ none)),
  (λ apart. elim (decide (overlaps p q)) [ inl e ↦ absurd (not_disjoint p q pp pq apart e) | inr e ↦ e ]),
)

-- ---- the first of several

unfoldable pub pair_cmp : Bytes × Bytes → Bytes × Bytes → Ordering
pair_cmp p q = ordering_then (slice_cmp nat_cmp p.0 q.0) (slice_cmp nat_cmp p.1 q.1)

pub pair_total : IsTotalOrder pair_cmp
unfolding pair_cmp
pair_total = then_total (on_total (λ p. p.0) nat_list_cmp_total) (on_total (λ p. p.1) nat_list_cmp_total)

is_before_pair : (p q : Bytes × Bytes) → comes_before p q ≡ is_lt (pair_cmp p q)
unfolding pair_cmp
is_before_pair p q = refl

less : (o : Ordering) → is_lt o ≡ true → o ≡ Less
less Less h = refl
less Equal h = absurd (true≢false (sym h))
less Greater h = absurd (true≢false (sym h))

itself : (p : Bytes × Bytes) → is_lt (pair_cmp p p) ≡ false
itself p = by_case (pair_cmp p p) (pair_total.antisymm p p) where
  by_case : (o : Ordering) → o ≡ ordering_reverse o → is_lt o ≡ false
  by_case Less e = absurd (true≢false (ap is_lt e))
  by_case Equal e = refl
  by_case Greater e = refl

-- what isn't before the middle one isn't before one that is at most it
not_before : (x m f : Bytes × Bytes) → is_lt (pair_cmp x m) ≡ false → is_lt (pair_cmp m f) ≡ false → is_lt (pair_cmp x f) ≡ false
not_before x m f a b = elim (decide (is_lt (pair_cmp x f))) [
  | inr e ↦ e
  | inl e ↦ by_case (pair_cmp m x) refl (less (pair_cmp x f) e)
] where
  by_case : (o : Ordering) → pair_cmp m x ≡ o → pair_cmp x f ≡ Less → is_lt (pair_cmp x f) ≡ false
  by_case Less h e = absurd (true≢false (sym (ap is_lt (pair_total.trans m x f h e)) ∙ b))
  by_case Equal h e = absurd (true≢false (sym (ap is_lt (pair_total.congr m x f h ∙ e)) ∙ b))
  by_case Greater h e = absurd (true≢false (sym (ap is_lt (pair_total.antisymm x m ∙ ap ordering_reverse h)) ∙ a))

pub has_first : (p : Bytes × Bytes) (qs : List (Bytes × Bytes)) → Has (p ∷ qs) (first_of p qs)
has_first p [] = inl refl
has_first p (q ∷ qs) = by_test (comes_before q p) (has_first q qs) (has_first p qs) where
  by_test : (b : Bool) → Has (q ∷ qs) (first_of q qs) → Has (p ∷ qs) (first_of p qs) → Has (p ∷ q ∷ qs) (first_of (if b then q else p) qs)
  by_test true one other = inr one
  by_test false (inl _) (inl e) = inl e
  by_test false (inl _) (inr e) = inr (inr e)
  by_test false (inr _) (inl e) = inl e
  by_test false (inr _) (inr e) = inr (inr e)

pub least_first : (p : Bytes × Bytes) (qs : List (Bytes × Bytes)) (x : Bytes × Bytes) → Has (p ∷ qs) x → is_lt (pair_cmp x (first_of p qs)) ≡ false
least_first p [] x (inl e) = ap (λ z. is_lt (pair_cmp z p)) (sym e) ∙ itself p
least_first p [] x (inr h) = elim h [ ]
least_first p (q ∷ qs) x h = by_test (comes_before q p) refl (least_first q qs) (least_first p qs) h where
  after : comes_before q p ≡ true → is_lt (pair_cmp p q) ≡ false
  after e = ap is_lt (pair_total.antisymm p q ∙ ap ordering_reverse (less (pair_cmp q p) (sym (is_before_pair q p) ∙ e)))

  by_test : (b : Bool) → comes_before q p ≡ b
      → ((y : Bytes × Bytes) → Has (q ∷ qs) y → is_lt (pair_cmp y (first_of q qs)) ≡ false)
      → ((y : Bytes × Bytes) → Has (p ∷ qs) y → is_lt (pair_cmp y (first_of p qs)) ≡ false)
      → Has (p ∷ q ∷ qs) x → is_lt (pair_cmp x (first_of (if b then q else p) qs)) ≡ false
  by_test true e at_q at_p (inl k) = ap (λ z. is_lt (pair_cmp z (first_of q qs))) (sym k) ∙ not_before p q (first_of q qs) (after e) (at_q q (inl refl))
  by_test true e at_q at_p (inr k) = at_q x k
  by_test false e at_q at_p (inl k) = at_p x (inl k)
  by_test false e at_q at_p (inr (inl k)) = ap (λ z. is_lt (pair_cmp z (first_of p qs))) (sym k) ∙ not_before q p (first_of p qs) (sym (is_before_pair q p) ∙ e) (at_p p (inl refl))
  by_test false e at_q at_p (inr (inr k)) = at_p x (inr k)

names_in : Option OrderRefusal → Bytes × Bytes
names_in (Some (PoolOverlaps tenant network)) = (tenant, network)
names_in _ = ([], [])

pub first_is_named : FirstIsNamed
unfolding names_in
first_is_named r pool tenant network e = by_list (overlapping r.tenants r.networks pool) e where
  by_list : (ps : List (Bytes × Bytes)) → pool_refusal ps ≡ Some (PoolOverlaps tenant network) → IsFirst ps (tenant, network)
  by_list [] h = absurd (none_some h)
  by_list (p ∷ ps) h =
      let is : first_of p ps ≡ (tenant, network) = ap names_in h in
      record {
        there = subst (Has (p ∷ ps)) is (has_first p ps);
        least = λ q k. subst (λ z. comes_before q z ≡ false) is (is_before_pair q (first_of p ps) ∙ least_first p ps q k);
      }
