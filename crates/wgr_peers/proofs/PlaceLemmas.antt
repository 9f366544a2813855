-- Peers are placed by their numbers, and routes by their prefixes.
use Rattle.std.proofs.Common.{◌≡◌, ℕ, ◌<◌, ◌⊎◌, inl, inr, true, false, ◌&&◌, ◌||◌, nat_eq, nat_lt, List, length, get_or, sym, ap, subst, ◌∙◌, arith}
use Rattle.std.proofs.lemmas.Bool.Decides.{nat_tests}
use Rattle.std.proofs.lemmas.Bool.{cases_order}
use Rattle.std.proofs.lemmas.List.{get_or_default}
use Rattle.wgr_text.specs.Prefix.{PrefixValue, IsAddr, rank}
use Rattle.wgr_peers.specs.declared.peer.Peer.{Peer}
use Rattle.wgr_pool.specs.PrefixTests.{same_prefix, is_before}
use Rattle.wgr_peers.specs.Peers.{IsNumberedBelow}
use Rattle.wgr_peers.specs.Routes.{Routes, ComesBefore, HasAddr}
use Rattle.wgr_peers.proofs.OrderedLemmas.{IsPlacedBy}
use Rattle.wgr_pool.proofs.PrefixLemmas.{same_prefix_is, nat_eq_is, nat_eq_self}
use Rattle.wgr_pool.proofs.WithinSpans.{same_within}

-- ---- peers

pub below_test : (m n : ℕ) → m < n → nat_lt m n ≡ true
below_test m n l = grind (arith, nat_tests)

is_below : (m n : ℕ) → nat_lt m n ≡ true → m < n
is_below m n h = grind (arith, nat_tests)

comes_above : (m n : ℕ) → nat_lt m n ≡ false → nat_eq m n ≡ false → n < m
comes_above m n a b = grind (arith, nat_tests)

pub peers_placed : (p : Peer) → IsPlacedBy IsNumberedBelow (λ q. Unit {0}) (λ q. nat_lt q.number p.number) (λ q. nat_eq q.number p.number) p
peers_placed p = record {
  item = tt;
  below = λ y h. is_below y.number p.number h;
  above = λ y here a b. comes_above y.number p.number a b;
  same = λ y z h l. subst (λ (n : ℕ). n < z.number) (nat_eq_is y.number p.number h) l;
  joins = λ y z l m. omega (arith, l, m);
}

pub peers_down : (n : ℕ) (y z : Peer) → IsNumberedBelow y z → nat_lt z.number n ≡ true → nat_lt y.number n ≡ true
peers_down n y z l h = below_test y.number n (omega (arith, l, is_below z.number n h))

-- the peer that stands at a place, read with any default
pub there : (peers : List Peer) (n at : ℕ) (d e : Peer) → at < length peers → (get_or peers at e).number ≡ n → nat_eq (get_or peers at d).number n ≡ true
there peers n at d e l h = equal (get_or peers at d).number n (ap (λ (p : Peer). p.number) (get_or_default peers at d e l) ∙ h)
  where
    equal : (a b : ℕ) → a ≡ b → nat_eq a b ≡ true
    equal a b e = grind (arith, nat_tests)

pub not_there : (peers : List Peer) (n at : ℕ) (d e : Peer) → at < length peers → ((get_or peers at e).number ≡ n → ⊥) → nat_eq (get_or peers at d).number n ≡ false
not_there peers n at d e l h = apart (get_or peers at d).number n (λ same. h (sym (ap (λ (p : Peer). p.number) (get_or_default peers at d e l)) ∙ same))
  where
    apart : (a b : ℕ) → (a ≡ b → ⊥) → nat_eq a b ≡ false
    apart a b e = grind (arith, nat_tests)

-- ---- prefixes

before_by : (a m b n : ℕ) → nat_lt a b || (nat_eq a b && nat_lt m n) ≡ true → (a < b) ⊎ ((a ≡ b) × (m < n))
before_by a m b n h = elim (cases_order a b) [
  | inl same ↦ let l : m < n = grind (arith, nat_tests) in inr (same, l)
  | inr apart ↦ elim apart [
    | inl less ↦ inl less
    | inr more ↦ let bad : true ≡ false = grind (arith, nat_tests) in cc
  ]
]

by_rank : (a m b n : ℕ) → a < b → nat_lt a b || (nat_eq a b && nat_lt m n) ≡ true
by_rank a m b n l = grind (arith, nat_tests)

by_length : (a m b n : ℕ) → a ≡ b → m < n → nat_lt a b || (nat_eq a b && nat_lt m n) ≡ true
by_length a m b n e l = grind (arith, nat_tests)

pub before_joins : (p q r : PrefixValue) → is_before p q ≡ true → is_before q r ≡ true → is_before p r ≡ true
before_joins p q r h i = elim (before_by (rank p.address) p.length (rank q.address) q.length h) [
  | inl less ↦ elim (before_by (rank q.address) q.length (rank r.address) r.length i) [
    | inl less' ↦ by_rank (rank p.address) p.length (rank r.address) r.length (omega (arith, less, less'))
    | inr same' ↦ by_rank (rank p.address) p.length (rank r.address) r.length (omega (arith, less, same'.0))
  ]
  | inr same ↦ elim (before_by (rank q.address) q.length (rank r.address) r.length i) [
    | inl less' ↦ by_rank (rank p.address) p.length (rank r.address) r.length (omega (arith, same.0, less'))
    | inr same' ↦ by_length (rank p.address) p.length (rank r.address) r.length (same.0 ∙ same'.0) (omega (arith, same.1, same'.1))
  ]
]

pub not_before_self : (p : PrefixValue) → is_before p p ≡ false
not_before_self p = neither (rank p.address) p.length
  where
    neither : (a m : ℕ) → nat_lt a a || (nat_eq a a && nat_lt m m) ≡ false
    neither a m = grind (arith, nat_tests)

-- of two prefixes one is before the other, or they are the same
one_before : (a m b n : ℕ) → nat_lt a b || (nat_eq a b && nat_lt m n) ≡ false → (nat_lt b a || (nat_eq b a && nat_lt n m) ≡ true) ⊎ ((a ≡ b) × (m ≡ n))
one_before a m b n h = elim (cases_order a b) [
  | inl same ↦ elim (cases_order m n) [
    | inl also ↦ inr (same, also)
    | inr apart ↦ elim apart [
      | inl less ↦ let bad : true ≡ false = sym (by_length a m b n same less) ∙ h in cc
      | inr more ↦ inl (by_length b n a m (sym same) more)
    ]
  ]
  | inr apart ↦ elim apart [
    | inl less ↦ let bad : true ≡ false = sym (by_rank a m b n less) ∙ h in cc
    | inr more ↦ inl (by_rank b n a m more)
  ]
]

same_by : (p q : PrefixValue) → IsAddr p.address → IsAddr q.address → rank p.address ≡ rank q.address → p.length ≡ q.length → same_prefix p q ≡ true
same_by p q fits fits' at len =
    let address = (same_within p.address q.address fits fits').1 (omega (arith, at), omega (arith, at)) in
    ap (λ b. b && nat_eq p.length q.length) address ∙ subst (λ (n : ℕ). nat_eq p.length n ≡ true) len (nat_eq_self p.length)

-- ---- routes

pub routes_placed : (p : PrefixValue) (n : ℕ) → IsAddr p.address → IsPlacedBy ComesBefore HasAddr (λ r. is_before r.0 p) (λ r. same_prefix r.0 p) (p, n)
routes_placed p n fits = record {
  item = fits;
  below = λ r h. h;
  above = λ r fits' h apart. elim (one_before (rank r.0.address) r.0.length (rank p.address) p.length h) [
    | inl later ↦ later
    | inr same ↦ let bad : true ≡ false = sym (same_by r.0 p fits' fits same.0 same.1) ∙ apart in cc
  ];
  same = λ r s h l. subst (λ (q : PrefixValue). is_before q s.0 ≡ true) (same_prefix_is r.0 p h) l;
  joins = λ r s h i. before_joins p r.0 s.0 h i;
}

pub routes_down : (p : PrefixValue) (r s : PrefixValue × ℕ) → ComesBefore r s → is_before s.0 p ≡ true → is_before r.0 p ≡ true
routes_down p r s h i = before_joins r.0 s.0 p h i

pub routes_level : (p : PrefixValue) (r : PrefixValue × ℕ) → same_prefix r.0 p ≡ true → is_before r.0 p ≡ false
routes_level p r h = subst (λ (q : PrefixValue). is_before q p ≡ false) (sym (same_prefix_is r.0 p h)) (not_before_self p)

pub routes_lead : (p : PrefixValue) (r s : PrefixValue × ℕ) → ComesBefore r s → same_prefix s.0 p ≡ true → is_before r.0 p ≡ true
routes_lead p r s h same = subst (λ (q : PrefixValue). is_before r.0 q ≡ true) (same_prefix_is s.0 p same) h

-- the route that stands at a place, read with any default
pub route_there : (routes : Routes) (p : PrefixValue) (at : ℕ) (d e : PrefixValue × ℕ) → at < length routes → same_prefix (get_or routes at e).0 p ≡ true → same_prefix (get_or routes at d).0 p ≡ true
route_there routes p at d e l h = subst (λ (r : PrefixValue × ℕ). same_prefix r.0 p ≡ true) (get_or_default routes at e d l) h

pub route_not_there : (routes : Routes) (p : PrefixValue) (at : ℕ) (d e : PrefixValue × ℕ) → at < length routes → same_prefix (get_or routes at e).0 p ≡ false → same_prefix (get_or routes at d).0 p ≡ false
route_not_there routes p at d e l h = subst (λ (r : PrefixValue × ℕ). same_prefix r.0 p ≡ false) (get_or_default routes at e d l) h
