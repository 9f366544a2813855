-- Items in the order of their keys: no other arrangement of them rises.
use Rattle.std.proofs.Common.{◌≡◌, ℕ, zero, suc, ◌+◌, ◌<◌, ◌≤◌, ◌⊎◌, ◌↔◌, inl, inr, Bool, true, false, ◌&&◌, ◌||◌, nat_eq, nat_lt, List, [], ◌∷◌, Option, length, get_or, refl, sym, ap, subst, ◌∙◌, arith}
use Rattle.std.specs.Prelude.{Result, Some, None, Ok, Err, IfOk, IfSome, IsSome}
use Rattle.std.specs.List.{All, AllPairs, Contains}
use Rattle.std.specs.Cmp.{IsStrictWeakOrder}
use Rattle.std.specs.List.Sorted.{IsNonDecreasingBy, IsPermutation, IsSortedBy}
use Rattle.std.proofs.lemmas.Bool.Decides.{nat_tests}
use Rattle.std.proofs.lemmas.List.Sorted.{All-permutation, Contains-permutation, IsPermutation-sym, IsPermutation-trans}
use Rattle.std.proofs.lemmas.Result.{IfOk-weaker}
use Rattle.std.proofs.lemmas.Map.Keys.{apart_from_distinct, IsDistinct-from_apart, IsDistinct-IsPermutation}
use Rattle.wgr_text.specs.Prefix.{PrefixValue, rank}
use Rattle.wgr_pool.specs.PrefixTests.{is_before, same_prefix}
use Rattle.wgr_peers.specs.declared.peer.Peer.{Peer}
use Rattle.wgr_peers.specs.Peers.{AreNumbered, IsNumberedBelow}
use Rattle.wgr_peers.specs.Routes.{Routes, AreOrdered, ComesBefore, HasAddr}
use Rattle.wgr_core.specs.declared.parts.Parts.{Parts}
use Rattle.wgr_core.specs.Network.{NetworkValue, IsNetwork}
use Rattle.wgr_core.specs.Parts.{IsNetworkOf, KeepTheRules}
use Rattle.wgr_pool.proofs.Bools.{decide}
use Rattle.wgr_pool.proofs.Lists.{AllPairs-head, AllPairs-tail}
use Rattle.wgr_pool.proofs.PrefixLemmas.{same_prefix_is, same_prefix_self}
use Rattle.wgr_peers.proofs.PlaceLemmas.{before_joins, not_before_self, routes_placed}
use Rattle.wgr_peers.proofs.RouteLemmas.{not_same}
use Rattle.wgr_core.proofs.PartsLemmas.{pairs_from_adjacent}

-- ---- by any order

module _ {X : Type 0} (R : X → X → Type 0) (one_way : (x y : X) → R x y → R y x → ⊥) where
  in_tail : (y : X) (ys : List X) (z : X) → Contains (y ∷ ys) z → (y ≡ z) ⊎ Contains ys z
  in_tail y ys z (zero, l, e) = inl e
  in_tail y ys z (suc k, l, e) = inr (k, omega (arith, l), e)

  in_more : (y : X) (ys : List X) (z : X) → Contains ys z → Contains (y ∷ ys) z
  in_more y ys z (k, l, e) = (suc k, omega (arith, l), e)

  follows : (y : X) (ys : List X) (z : X) → AllPairs R (y ∷ ys) → Contains ys z → R y z
  follows y ys z rise (k, l, e) = subst (R y) e (AllPairs-head R y ys rise k z l)

  first_is : (x y : X) (xs ys : List X) → AllPairs R (x ∷ xs) → AllPairs R (y ∷ ys) → Contains (y ∷ ys) x → Contains (x ∷ xs) y → x ≡ y
  first_is x y xs ys rise rise' has has' = elim (in_tail y ys x has) [
    | inl same ↦ sym same
    | inr later ↦ elim (in_tail x xs y has') [
      | inl same ↦ same
      | inr later' ↦ absurd (one_way x y (follows x xs y rise later') (follows y ys x rise' later))
    ]
  ]

  -- what stands behind the first is behind it in the other list too
  rest_has : (x : X) (xs ys : List X) (z : X) → AllPairs R (x ∷ xs) → Contains (x ∷ ys) z → Contains xs z → Contains ys z
  rest_has x xs ys z rise has here = elim (in_tail x ys z has) [
    | inl same ↦ (let r = subst (λ (w : X). R w z) same (follows x xs z rise here) in absurd (one_way z z r r))
    | inr later ↦ later
  ]

  -- two lists that rise and have the same items are one
  pub one_order : (xs ys : List X) → AllPairs R xs → AllPairs R ys → ((z : X) → Contains xs z → Contains ys z) → ((z : X) → Contains ys z → Contains xs z) → xs ≡ ys
  one_order [] [] rise rise' to from = refl
  one_order [] (y ∷ ys) rise rise' to from = let none = from y (0, omega arith, refl) in absurd (omega (arith, none.1))
  one_order (x ∷ xs) [] rise rise' to from = let none = to x (0, omega arith, refl) in absurd (omega (arith, none.1))
  one_order (x ∷ xs) (y ∷ ys) rise rise' to from =
      let same = first_is x y xs ys rise rise' (to x (0, omega arith, refl)) (from y (0, omega arith, refl)) in
      let to' = λ (z : X) (here : Contains xs z). rest_has x xs ys z rise (subst (λ (w : X). Contains (w ∷ ys) z) (sym same) (to z (in_more x xs z here))) here in
      let from' = λ (z : X) (here : Contains ys z). rest_has y ys xs z rise' (subst (λ (w : X). Contains (w ∷ xs) z) same (from z (in_more y ys z here))) here in
      ap (λ (w : X). w ∷ xs) same ∙ ap (λ (ws : List X). y ∷ ws) (one_order xs ys (AllPairs-tail R x xs rise) (AllPairs-tail R y ys rise') to' from')

  pub one_arrangement : (xs ys : List X) → AllPairs R xs → AllPairs R ys → IsPermutation xs ys → xs ≡ ys
  one_arrangement xs ys rise rise' moved = one_order xs ys rise rise' (λ z. Contains-permutation xs ys z moved) (λ z. Contains-permutation ys xs z (IsPermutation-sym xs ys moved))

module _ {X : Type 0} (R : X → X → Type 0) (same : X → X → Bool) (flips : (x y : X) → same x y ≡ same y x) (strict : (x y : X) → R x y → same x y ≡ false) (joins : (x y z : X) → R x y → R y z → R x z) where
  -- an arrangement of items that rise, in which none falls, rises too
  pub rises : (P : X → Type 0) (W : X → X → Type 0) → ((x y : X) → P x → P y → W x y → same x y ≡ false → R x y) → (xs ys : List X) → AllPairs R xs → All P xs → IsPermutation xs ys
      → ((k : ℕ) (d : X) → k + 1 < length ys → W (get_or ys k d) (get_or ys (k + 1) d)) → AllPairs R ys
  rises P W total xs ys rise all moved next =
      let apart = IsDistinct-IsPermutation same flips xs ys moved (IsDistinct-from_apart same xs (λ i j d l h. strict _ _ (rise i j d l h))) in
      let kept = All-permutation P xs ys moved all in
      pairs_from_adjacent R ys joins (λ k d l. total _ _ (kept k d (omega (arith, l))) (kept (k + 1) d l) (next k d l) (apart_from_distinct same ys k (k + 1) d apart (omega arith) l))

-- ---- peers by number

nat_flips : (a b : ℕ) → nat_eq a b ≡ nat_eq b a
nat_flips a b = grind (arith, nat_tests)

below_apart : (a b : ℕ) → a < b → nat_eq a b ≡ false
below_apart a b l = grind (arith, nat_tests)

apart_below : (a b : ℕ) → a ≤ b → nat_eq a b ≡ false → a < b
apart_below a b l h = grind (arith, nat_tests)

-- peers that are arranged so that no number falls are those that rise, if any arrangement of them does
pub peers_arranged : (rising sorted : List Peer) → AreNumbered rising → IsPermutation rising sorted → IsNonDecreasingBy (λ p. p.number) sorted → sorted ≡ rising
peers_arranged rising sorted numbered moved up =
    let numbered' = rises IsNumberedBelow (λ (p : Peer) (q : Peer). nat_eq p.number q.number) (λ p q. nat_flips p.number q.number) (λ p q. below_apart p.number q.number) (λ p q r l l'. omega (arith, l, l'))
    (λ p. Unit {0}) (λ p q. p.number ≤ q.number) (λ p q t t' l. apart_below p.number q.number l) rising sorted numbered (λ k d h. tt) moved (λ k d l. up k (k + 1) d (omega arith) l) in
    sym (one_arrangement IsNumberedBelow (λ p q l l'. omega (arith, l, l')) rising sorted numbered numbered' moved)

-- ---- routes by prefix

prefix_flips : (p q : PrefixValue) → same_prefix p q ≡ same_prefix q p
prefix_flips p q = elim (decide (same_prefix p q)) [
  | inl same ↦ let is = same_prefix_is p q same in same ∙ sym (subst (λ (r : PrefixValue). same_prefix r p ≡ true) is (same_prefix_self p))
  | inr apart ↦ elim (decide (same_prefix q p)) [
    | inl same ↦
        let is = same_prefix_is q p same in
        let bad : true ≡ false = sym (subst (λ (r : PrefixValue). same_prefix r q ≡ true) is (same_prefix_self q)) ∙ apart in cc
    | inr apart' ↦ apart ∙ sym apart'
  ]
]

before_once : (p q : PrefixValue) → is_before p q ≡ true → is_before q p ≡ true → ⊥
before_once p q l g = let bad : true ≡ false = sym (before_joins p q p l g) ∙ not_before_self p in cc

-- routes that are arranged so that none falls are those that rise, if any arrangement of them does
pub routes_arranged : (rising sorted : Routes) → AreOrdered rising → All HasAddr rising → IsPermutation rising sorted → IsSortedBy (λ r s. is_before r.0 s.0) sorted → sorted ≡ rising
routes_arranged rising sorted ordered fit moved up =
    let ordered' = rises ComesBefore (λ (r : PrefixValue × ℕ) (s : PrefixValue × ℕ). same_prefix r.0 s.0) (λ r s. prefix_flips r.0 s.0) (λ r s. not_same s.0 r) (λ r s t l l'. before_joins r.0 s.0 t.0 l l')
    HasAddr (λ r s. is_before s.0 r.0 ≡ false) (λ r s fits fits' l apart. (routes_placed r.0 0 fits).above s fits' l (prefix_flips s.0 r.0 ∙ apart)) rising sorted ordered fit moved (λ k d l. up k d (omega arith) l) in
    sym (one_arrangement ComesBefore (λ r s. before_once r.0 s.0) rising sorted ordered ordered' moved)

-- where routes rise, none falls
pub none_falls : (routes : Routes) → AreOrdered routes → IsSortedBy (λ r s. is_before r.0 s.0) routes
none_falls routes ordered = λ k d from l. not_back (get_or routes k d).0 (get_or routes (k + 1) d).0 (ordered k (k + 1) d (omega arith) l)
  where
    not_back : (p q : PrefixValue) → is_before p q ≡ true → is_before q p ≡ false
    not_back p q l = elim (decide (is_before q p)) [ inl back ↦ absurd (before_once p q l back) | inr other ↦ other ]

-- the order of prefixes is one by which a list can be sorted
pub prefixes_sort : IsStrictWeakOrder (λ (r : PrefixValue × ℕ) (s : PrefixValue × ℕ). is_before r.0 s.0)
prefixes_sort = record {
  one_way = λ r s l. one_way (rank r.0.address) r.0.length (rank s.0.address) s.0.length l;
  chain = λ r s t l l'. chain (rank r.0.address) r.0.length (rank s.0.address) s.0.length (rank t.0.address) t.0.length l l';
}
  where
    one_way : (a m b n : ℕ) → nat_lt a b || (nat_eq a b && nat_lt m n) ≡ true → nat_lt b a || (nat_eq b a && nat_lt n m) ≡ false
    one_way a m b n l = grind (arith, nat_tests)

    chain : (a m b n c o : ℕ) → nat_lt a b || (nat_eq a b && nat_lt m n) ≡ false → nat_lt b c || (nat_eq b c && nat_lt n o) ≡ false → nat_lt a c || (nat_eq a c && nat_lt m o) ≡ false
    chain a m b n c o l l' = grind (arith, nat_tests)

-- ---- parts

-- the network of the parts with these peers and these routes
abbrev arranged : Parts → List Peer → Routes → NetworkValue
arranged parts peers routes = record {
  pool = parts.pool;
  host = parts.host;
  port = parts.port;
  server = parts.server;
  capacity = parts.capacity;
  next = parts.next;
  peers = peers;
  routes = routes;
}

settings_are : (parts : Parts) (n : NetworkValue) → IsNetworkOf parts n → arranged parts n.peers n.routes ≡ n
settings_are parts n of =
    ap (λ x. record (arranged parts n.peers n.routes) { pool = x }) (sym of.pool)
    ∙ ap (λ x. record (arranged parts n.peers n.routes) { pool = n.pool; host = x }) (sym of.host)
    ∙ ap (λ x. record (arranged parts n.peers n.routes) { pool = n.pool; host = n.host; port = x }) (sym of.port)
    ∙ ap (λ x. record n { server = x; capacity = parts.capacity; next = parts.next }) (sym of.server)
    ∙ ap (λ x. record n { capacity = x; next = parts.next }) (sym of.capacity)
    ∙ ap (λ x. record n { next = x }) (sym of.next)

-- a network of the parts has these peers and routes, where none of them falls
network_arranged : (parts : Parts) (peers : List Peer) (routes : Routes) (n : NetworkValue) → IsPermutation parts.peers.items peers → IsNonDecreasingBy (λ p. p.number) peers
    → IsPermutation parts.routes.items routes → IsSortedBy (λ r s. is_before r.0 s.0) routes → IsNetworkOf parts n → IsNetwork n → arranged parts peers routes ≡ n
network_arranged parts peers routes n moved up moved' up' of is =
    let fit : All HasAddr n.routes = λ k d l. (is.routes k d l).masked.0 in
    let same = peers_arranged n.peers peers of.peers.1 (IsPermutation-trans n.peers parts.peers.items peers (IsPermutation-sym parts.peers.items n.peers of.peers.0) moved) up in
    let same' = routes_arranged n.routes routes of.routes.1 fit (IsPermutation-trans n.routes parts.routes.items routes (IsPermutation-sym parts.routes.items n.routes of.routes.0) moved') up' in
    ap (λ (ps : List Peer). arranged parts ps routes) same ∙ ap (λ (rs : Routes). arranged parts n.peers rs) same' ∙ settings_are parts n of

-- no other network is one of the parts
pub one_network : (parts : Parts) (n m : NetworkValue) → IsNetworkOf parts n → IsNetworkOf parts m → n ≡ m
one_network parts n m of of' =
    let peers = one_arrangement IsNumberedBelow (λ p q l l'. omega (arith, l, l')) n.peers m.peers of.peers.1 of'.peers.1 (IsPermutation-trans n.peers parts.peers.items m.peers (IsPermutation-sym parts.peers.items n.peers of.peers.0) of'.peers.0) in
    let routes = one_arrangement ComesBefore (λ r s. before_once r.0 s.0) n.routes m.routes of.routes.1 of'.routes.1 (IsPermutation-trans n.routes parts.routes.items m.routes (IsPermutation-sym parts.routes.items n.routes of.routes.0) of'.routes.0) in
    sym (settings_are parts n of) ∙ ap (λ (ps : List Peer). arranged parts ps n.routes) peers ∙ ap (λ (rs : Routes). arranged parts m.peers rs) routes ∙ settings_are parts m of'

-- what is made of the parts, with their peers and routes put in order, is a network of them
pub made_of : {E : Type 0} (parts : Parts) (peers : List Peer) (routes : Routes) (r : Result (Option NetworkValue) E) → IsPermutation parts.peers.items peers → IsPermutation parts.routes.items routes
    → IfOk r (λ made. IfSome made (λ n. n ≡ arranged parts peers routes)) → IfOk r (λ made. IsSome made ↔ IsNetwork (arranged parts peers routes)) → IfOk r (λ made. IfSome made (λ n. IsNetworkOf parts n))
made_of parts peers routes (Err e) moved moved' made exact = tt
made_of parts peers routes (Ok None) moved moved' made exact = tt
made_of parts peers routes (Ok (Some n)) moved moved' made exact =
    let is = exact.0 refl in
    subst (IsNetworkOf parts) (sym made) (record { pool = refl; host = refl; port = refl; server = refl; capacity = refl; next = refl; peers = (moved, is.numbered); routes = (moved', is.ordered) })

-- so the parts keep the rules just where these do
pub made_exactly : {E : Type 0} (parts : Parts) (peers : List Peer) (routes : Routes) (r : Result (Option NetworkValue) E) → IsPermutation parts.peers.items peers → IsNonDecreasingBy (λ p. p.number) peers
    → IsPermutation parts.routes.items routes → IsSortedBy (λ r s. is_before r.0 s.0) routes → IfOk r (λ made. IsSome made ↔ IsNetwork (arranged parts peers routes)) → IfOk r (λ made. IsSome made ↔ KeepTheRules parts)
made_exactly parts peers routes r moved up moved' up' exact =
    IfOk-weaker r (λ made. IsSome made ↔ IsNetwork (arranged parts peers routes)) (λ made. IsSome made ↔ KeepTheRules parts) (λ made iff. (
      (λ h.
          let is = iff.0 h in
          (arranged parts peers routes, record { pool = refl; host = refl; port = refl; server = refl; capacity = refl; next = refl; peers = (moved, is.numbered); routes = (moved', is.ordered) }, is)),
      (λ kept. iff.1 (subst IsNetwork (sym (network_arranged parts peers routes kept.0 moved up moved' up' kept.1 kept.2)) kept.2)),
    )) exact
