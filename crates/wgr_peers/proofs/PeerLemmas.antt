-- The peer of a number, and the others.
use Rattle.std.proofs.Common.{◌≡◌, ℕ, ◌<◌, inl, inr, true, false, ◌&&◌, ◌||◌, cond, nat_eq, List, [], ◌∷◌, get_or, Some, is_some, refl, sym, ap, ◌∙◌, subst, arith, Bool, not}
use Rattle.std.proofs.lemmas.Cmp.{nat_eq_equiv, nat_list_eq_equiv}
use Rattle.std.specs.List.{All, AllPairs, list_any}
use Rattle.std.proofs.lemmas.Bool.Decides.{nat_tests}
use Rattle.std.proofs.lemmas.List.Elements.{All-cons, All-head, All-tail}
use Rattle.std.proofs.lemmas.List.Folds.{list_any_none}
use Rattle.wgr_text.specs.declared.addr.Family.{Family}
use Rattle.wgr_text.specs.declared.addr.Family.TheVariants.{V4, V6}
use Rattle.wgr_text.specs.Prefix.{AddrValue}
use Rattle.wgr_peers.specs.declared.peer.Peer.{Peer}
use Rattle.wgr_pool.specs.PrefixTests.{same_address, same_family}
use Rattle.wgr_peers.specs.Peers.{addresses, is_at, is_first, is_own, is_second, peer_of, same_key, without_peer, IsNumberedBelow, IsApart, AreApart, AreNumbered}
use Rattle.wgr_pool.proofs.Lists.{AllPairs-head, AllPairs-tail, filter_each, list_any-some}
use Rattle.wgr_pool.proofs.Bools.{decide, or_cases, or_false, or_left, or_right}
use Rattle.wgr_pool.proofs.PrefixLemmas.{nat_eq_is, same_address_is, same_address_self}

pub peer_is : (P : Peer → Type 0) (peers : List Peer) (i : ℕ) (p : Peer) → All P peers → peer_of peers i ≡ Some p → P p × (p.number ≡ i)
peer_is P [] i p all found = cc
peer_is P (q ∷ peers) i p all found = elim (decide (nat_eq q.number i)) [
  | inl here ↦
      let some : Some q ≡ Some p = sym (ap (λ b. cond b (Some q) (peer_of peers i)) here) ∙ found in
      let is : q ≡ p = cc in
      (subst P is (All-head P q peers all), ap (λ (p : Peer). p.number) (sym is) ∙ nat_eq_is q.number i here)
  | inr apart ↦ peer_is P peers i p (All-tail P q peers all) (sym (ap (λ b. cond b (Some q) (peer_of peers i)) apart) ∙ found)
]

pub peer_number : (peers : List Peer) (i : ℕ) (p : Peer) → peer_of peers i ≡ Some p → p.number ≡ i
peer_number peers i p h = (peer_is (λ q. Unit {0}) peers i p (λ k d l. tt) h).1

pub some_stands : (peers : List Peer) (i : ℕ) → is_some (peer_of peers i) ≡ true → list_any (λ p. nat_eq p.number i) peers ≡ true
some_stands [] i h = cc
some_stands (p ∷ peers) i h =
    elim (nat_eq p.number i) as (λ b. is_some (cond b (Some p) (peer_of peers i)) ≡ true → (b || list_any (λ (p : Peer). nat_eq p.number i) peers) ≡ true) [
      | true ↦ (λ h. refl)
      | false ↦ (λ h. some_stands peers i h)
    ] h

same_address_turn : (a b : AddrValue) → same_address a b ≡ same_address b a
same_address_turn a b =
    ap (λ s. s && nat_eq a.number b.number) (same_family_turn a.family b.family) ∙ ap (λ s. same_family b.family a.family && s) (nat_eq_turn a.number b.number)
  where
    same_family_turn : (f g : Family) → same_family f g ≡ same_family g f
    same_family_turn V4 V4 = refl
    same_family_turn V4 V6 = refl
    same_family_turn V6 V4 = refl
    same_family_turn V6 V6 = refl

    nat_eq_turn : (x y : ℕ) → nat_eq x y ≡ nat_eq y x
    nat_eq_turn x y = nat_eq_equiv.symm x y

-- ---- addresses of two peers

-- who is at an address that another peer has is at one of that peer's
at_same : (p : Peer) (a b : AddrValue) → same_address a b ≡ true → is_at p a ≡ true → is_at p b ≡ true
at_same p a b same at = subst (λ x. is_at p x ≡ true) (same_address_is a b same) at

-- two peers are apart where none of the second's addresses is the first's
abbrev apart_at_all : Peer → List AddrValue → Bool
apart_at_all q them = list_any (is_at q) them

meets : (q : Peer) (them : List AddrValue) (a : AddrValue) → list_any (λ b. same_address b a) them ≡ true → apart_at_all q them ≡ false → is_at q a ≡ false
meets q [] a h none = cc
meets q (b ∷ them) a h none =
    let parts = or_false (is_at q b) (apart_at_all q them) none in
    elim (or_cases (same_address b a) (list_any (λ c. same_address c a) them) h) [
      | inl here ↦ subst (λ x. is_at q x ≡ false) (same_address_is b a here) parts.0
      | inr there ↦ meets q them a there parts.1
    ]

-- no address is that of two peers that are apart
pub apart_at : (p q : Peer) (a : AddrValue) → IsApart p q → is_at p a ≡ true → is_at q a ≡ false
apart_at p q a is at = meets q (addresses p) a at is.1

-- and peers of which that holds are apart
pub apart_from : (p q : Peer) → same_key p.key q.key ≡ false → ((a : AddrValue) → is_at p a ≡ true → is_at q a ≡ false) → IsApart p q
apart_from p q keys none = (keys, list_any_none (is_at q) (addresses p) (λ k d l. none (get_or (addresses p) k d) (list_any-some (λ b. same_address b (get_or (addresses p) k d)) (addresses p) k d l (same_address_self (get_or (addresses p) k d)))))

pub apart_turn : (p q : Peer) → IsApart p q → IsApart q p
apart_turn p q is = apart_from q p (nat_list_eq_equiv.symm q.key.0 p.key.0 ∙ is.0) (λ a at. elim (decide (is_at p a)) [
  | inl too ↦ let bad : true ≡ false = sym at ∙ apart_at p q a is too in cc
  | inr other ↦ other
])

-- the first addresses of peers that are apart differ
pub apart_first : (p q : Peer) → IsApart p q → same_address p.address q.address ≡ false
apart_first p q is = elim (decide (same_address p.address q.address)) [
  | inl same ↦
      let bad : true ≡ false = sym (or_left (same_address q.address q.address) (is_second q q.address) (same_address_self q.address)) ∙ apart_at p q q.address is (or_left (same_address p.address q.address) (is_second p q.address) same) in cc
  | inr other ↦ other
]

-- each peer of another number is apart from the one at this number
pub others_apart : (peers : List Peer) (i : ℕ) (p : Peer) → AreApart peers → peer_of peers i ≡ Some p → All (λ e. nat_eq e.number i ≡ false → IsApart e p) peers
others_apart [] i p pairs found = cc
others_apart (q ∷ peers) i p pairs found =
    let first = AllPairs-head IsApart q peers pairs in
    elim (decide (nat_eq q.number i)) [
      | inl here ↦
          let some : Some q ≡ Some p = sym (ap (λ b. cond b (Some q) (peer_of peers i)) here) ∙ found in
          let is : q ≡ p = cc in
          All-cons (λ e. nat_eq e.number i ≡ false → IsApart e p) q peers (λ apart. let bad : true ≡ false = sym here ∙ apart in cc)
          (λ k d h other. subst (IsApart (get_or peers k d)) is (apart_turn q (get_or peers k d) (first k d h)))
      | inr apart ↦
          let later = sym (ap (λ b. cond b (Some q) (peer_of peers i)) apart) ∙ found in
          All-cons (λ e. nat_eq e.number i ≡ false → IsApart e p) q peers (λ other. (peer_is (IsApart q) peers i p first later).0)
          (others_apart peers i p (AllPairs-tail IsApart q peers pairs) later)
    ]

above_not : (m n : ℕ) → m < n → not (nat_eq n m) ≡ true
above_not m n l = grind (arith, nat_tests)

pub apart_too : (q r a : AddrValue) → same_address q r ≡ false → same_address q a ≡ true → same_address r a ≡ false
apart_too q r a apart same = elim (decide (same_address r a)) [
  | inr f ↦ f
  | inl t ↦
      let one = same_address_is q a same in
      let other = same_address_is r a t in
      let bad : true ≡ false = sym (same_address_self q) ∙ ap (same_address q) (one ∙ sym other) ∙ apart in cc
]

-- ---- tests that one peer passes at most

abbrev pub AtMostOne : (Peer → Bool) → List Peer → Type 0
AtMostOne q = AllPairs (λ x y. q x ≡ true → q y ≡ false)

-- an address is one peer's at most, and so is it as a first and as a second address
pub one_at : (peers : List Peer) (a : AddrValue) → AreApart peers → AtMostOne (λ p. is_at p a) peers
one_at peers a apart = λ i j d l h at. apart_at (get_or peers i d) (get_or peers j d) a (apart i j d l h) at

less_too : (test : Peer → AddrValue → Bool) → ((p : Peer) (a : AddrValue) → test p a ≡ true → is_at p a ≡ true) → (peers : List Peer) (a : AddrValue) → AreApart peers → AtMostOne (λ p. test p a) peers
less_too test less peers a apart = λ i j d l h at. elim (decide (test (get_or peers j d) a)) [
  | inl too ↦
      let bad : true ≡ false = sym (less (get_or peers j d) a too) ∙ one_at peers a apart i j d l h (less (get_or peers i d) a at) in cc
  | inr other ↦ other
]

pub one_first : (peers : List Peer) (a : AddrValue) → AreApart peers → AtMostOne (λ p. is_first p a) peers
one_first = less_too is_first (λ p a h. or_left (is_first p a) (is_second p a) h)

pub one_second : (peers : List Peer) (a : AddrValue) → AreApart peers → AtMostOne (λ p. is_second p a) peers
one_second = less_too is_second (λ p a h. or_right (is_first p a) (is_second p a) h)

-- whether one passes without the peer of a number: one of the others does
pub any_without : (q : Peer → Bool) (peers : List Peer) (number : ℕ) (p : Peer) → AreNumbered peers → AtMostOne q peers → peer_of peers number ≡ Some p
    → list_any q (without_peer peers number) ≡ cond (q p) false (list_any q peers)
any_without q [] number p numbered one h = cc
any_without q (r ∷ peers) number p numbered one h =
    by (nat_eq r.number number) refl h (λ rest. any_without q peers number p (AllPairs-tail IsNumberedBelow r peers numbered) (AllPairs-tail (λ x y. q x ≡ true → q y ≡ false) r peers one) rest)
  where
    others : All (λ y. q r ≡ true → q y ≡ false) peers
    others = AllPairs-head (λ x y. q x ≡ true → q y ≡ false) r peers one

    goal : Bool → Type 0
    goal b = list_any q (cond (not b) (r ∷ without_peer peers number) (without_peer peers number)) ≡ cond (q p) false (q r || list_any q peers)

    here : nat_eq r.number number ≡ true → r ≡ p → goal true
    here n e =
        let is : r.number ≡ number = grind (arith, nat_tests) in
        let kept : without_peer peers number ≡ peers = filter_each (λ (x : Peer). not (nat_eq x.number number)) peers (λ k d l. subst (λ m. not (nat_eq (get_or peers k d).number m) ≡ true) is (above_not r.number (get_or peers k d).number (AllPairs-head IsNumberedBelow r peers numbered k d l))) in
        ap (list_any q) kept ∙ mine (q r) refl ∙ ap (λ (x : Peer). cond (q x) false (q r || list_any q peers)) e
      where
        mine : (b : Bool) → q r ≡ b → list_any q peers ≡ cond (q r) false (q r || list_any q peers)
        mine true s = list_any_none q peers (λ k d l. others k d l s) ∙ sym (ap (λ b. cond b false (b || list_any q peers)) s)
        mine false s = sym (ap (λ b. cond b false (b || list_any q peers)) s)

    later : peer_of peers number ≡ Some p → list_any q (without_peer peers number) ≡ cond (q p) false (list_any q peers) → goal false
    later h rest = ap (λ b. q r || b) rest ∙ mine (q p) refl
      where
        mine : (b : Bool) → q p ≡ b → q r || cond (q p) false (list_any q peers) ≡ cond (q p) false (q r || list_any q peers)
        mine true s =
            let not_r : q r ≡ false = elim (decide (q r)) [
              | inl t ↦ let bad : true ≡ false = sym s ∙ (peer_is (λ y. q r ≡ true → q y ≡ false) peers number p others h).0 t in cc
              | inr f ↦ f
            ] in
            ap (λ b. q r || cond b false (list_any q peers)) s ∙ ap (λ b. b || false) not_r ∙ sym (ap (λ b. cond b false (q r || list_any q peers)) s)
        mine false s = ap (λ b. q r || cond b false (list_any q peers)) s ∙ sym (ap (λ b. cond b false (q r || list_any q peers)) s)

    by : (b : Bool) → nat_eq r.number number ≡ b → cond b (Some r) (peer_of peers number) ≡ Some p → (peer_of peers number ≡ Some p → list_any q (without_peer peers number) ≡ cond (q p) false (list_any q peers)) → goal b
    by true n h rest = here n (let e : r ≡ p = cc in e)
    by false n h rest = later h (rest h)

-- who owns an address without the peer: the others do
pub own_without : (peers : List Peer) (number : ℕ) (p : Peer) (a : AddrValue) → AreNumbered peers → AreApart peers → peer_of peers number ≡ Some p
    → is_own (without_peer peers number) a ≡ cond (is_at p a) false (is_own peers a)
own_without peers number p a numbered apart h = any_without (λ q. is_at q a) peers number p numbered (one_at peers a apart) h
