-- Lists in the order of their keys, as finite maps: where all look-ups agree, the lists are one.
use Rattle.std.proofs.Common.{◌≡◌, ℕ, ◌<◌, inl, inr, Bool, true, false, ◌&&◌, ◌||◌, cond, nat_eq, nat_lt, List, [], ◌∷◌, Option, Some, None, refl, sym, ap, ◌∙◌, subst, arith}
use Rattle.std.specs.List.{All, AllPairs}
use Rattle.std.proofs.lemmas.Bool.Decides.{nat_tests}
use Rattle.std.proofs.lemmas.List.Elements.{All-head, All-tail}
use Rattle.wgr_text.specs.Prefix.{PrefixValue, rank}
use Rattle.wgr_peers.specs.declared.peer.Peer.{Peer}
use Rattle.wgr_pool.specs.PrefixTests.{same_prefix, is_before}
use Rattle.wgr_peers.specs.Peers.{peer_of, AreNumbered}
use Rattle.wgr_peers.specs.Routes.{Routes, route_of, AreOrdered}
use Rattle.wgr_pool.proofs.Lists.{AllPairs-head, AllPairs-tail}
use Rattle.wgr_pool.proofs.Bools.{decide}
use Rattle.wgr_pool.proofs.PrefixLemmas.{nat_eq_is, nat_eq_self, same_prefix_is, same_prefix_self}

module _ {X K V : Type 0} (key : X → K) (value : X → V) (same : K → K → Bool) (R : K → K → Type 0)
    (same_is : (a b : K) → same a b ≡ true → a ≡ b) (same_self : (a : K) → same a a ≡ true)
    (one_way : (a b : K) → R a b → R b a → ⊥) (item_is : (x y : X) → key x ≡ key y → value x ≡ value y → x ≡ y) where
  abbrev look : List X → K → Option V
  look [] k = None
  look (x ∷ xs) k = cond (same (key x) k) (Some (value x)) (look xs k)

  -- what is found behind a key comes after it
  found_after : (k j : K) (v : V) (xs : List X) → All (λ x. R k (key x)) xs → look xs j ≡ Some v → R k j
  found_after k j v [] all found = cc
  found_after k j v (x ∷ xs) all found = elim (decide (same (key x) j)) [
    | inl here ↦ subst (R k) (same_is (key x) j here) (All-head (λ x. R k (key x)) x xs all)
    | inr apart ↦ found_after k j v xs (All-tail (λ x. R k (key x)) x xs all) (sym (ap (λ b. cond b (Some (value x)) (look xs j)) apart) ∙ found)
  ]

  -- a key is not found behind itself
  not_after : (k : K) (xs : List X) → All (λ x. R k (key x)) xs → look xs k ≡ None
  not_after k [] all = refl
  not_after k (x ∷ xs) all =
      let apart : same (key x) k ≡ false = elim (decide (same (key x) k)) [
        | inl here ↦ let r = subst (R k) (same_is (key x) k here) (All-head (λ x. R k (key x)) x xs all) in absurd (one_way k k r r)
        | inr f ↦ f
      ] in
      ap (λ b. cond b (Some (value x)) (look xs k)) apart ∙ not_after k xs (All-tail (λ x. R k (key x)) x xs all)

  heads : (x y : X) (xs ys : List X) → All (λ z. R (key x) (key z)) xs → All (λ z. R (key y) (key z)) ys → ((k : K) → look (x ∷ xs) k ≡ look (y ∷ ys) k) → x ≡ y
  heads x y xs ys below_x below_y agree =
      let at_x : look (y ∷ ys) (key x) ≡ Some (value x) = sym (agree (key x)) ∙ ap (λ b. cond b (Some (value x)) (look xs (key x))) (same_self (key x)) in
      let at_y : look (x ∷ xs) (key y) ≡ Some (value y) = agree (key y) ∙ ap (λ b. cond b (Some (value y)) (look ys (key y))) (same_self (key y)) in
      elim (decide (same (key y) (key x))) [
        | inl here ↦
            let keys = same_is (key y) (key x) here in
            let values : Some (value y) ≡ Some (value x) = sym (ap (λ b. cond b (Some (value y)) (look ys (key x))) here) ∙ at_x in
            sym (item_is y x keys cc)
        | inr apart ↦
            let after_y = found_after (key y) (key x) (value x) ys below_y (sym (ap (λ b. cond b (Some (value y)) (look ys (key x))) apart) ∙ at_x) in
            elim (decide (same (key x) (key y))) [
              | inl here ↦ let keys = same_is (key x) (key y) here in let r = subst (λ k. R (key y) k) keys after_y in absurd (one_way (key y) (key y) r r)
              | inr apart' ↦
                  let after_x = found_after (key x) (key y) (value y) xs below_x (sym (ap (λ b. cond b (Some (value x)) (look xs (key y))) apart') ∙ at_y) in
                  absurd (one_way (key x) (key y) after_x after_y)
            ]
      ]

  pub same_lists : (xs ys : List X) → AllPairs (λ x y. R (key x) (key y)) xs → AllPairs (λ x y. R (key x) (key y)) ys → ((k : K) → look xs k ≡ look ys k) → xs ≡ ys
  same_lists [] [] order order' agree = refl
  same_lists [] (y ∷ ys) order order' agree =
      let bad : None ≡ Some (value y) = agree (key y) ∙ ap (λ b. cond b (Some (value y)) (look ys (key y))) (same_self (key y)) in cc
  same_lists (x ∷ xs) [] order order' agree =
      let bad : Some (value x) ≡ None = sym (ap (λ b. cond b (Some (value x)) (look xs (key x))) (same_self (key x))) ∙ agree (key x) in cc
  same_lists (x ∷ xs) (y ∷ ys) order order' agree =
      let below_x = AllPairs-head (λ x y. R (key x) (key y)) x xs order in
      let below_y = AllPairs-head (λ x y. R (key x) (key y)) y ys order' in
      let one = heads x y xs ys below_x below_y agree in
      let tails : (k : K) → look xs k ≡ look ys k = λ k. elim (decide (same (key x) k)) [
        | inl here ↦
            let k_is = same_is (key x) k here in
            let left : look xs k ≡ None = subst (λ k. look xs k ≡ None) k_is (not_after (key x) xs below_x) in
            let right : look ys k ≡ None = subst (λ k. look ys k ≡ None) (sym (ap key one) ∙ k_is) (not_after (key y) ys below_y) in
            left ∙ sym right
        | inr apart ↦
            let apart' : same (key y) k ≡ false = sym (ap (λ z. same (key z) k) one) ∙ apart in
            sym (ap (λ b. cond b (Some (value x)) (look xs k)) apart) ∙ agree k ∙ ap (λ b. cond b (Some (value y)) (look ys k)) apart'
      ] in
      ap (λ z. z ∷ xs) one ∙ ap (λ zs. y ∷ zs) (same_lists xs ys (AllPairs-tail (λ x y. R (key x) (key y)) x xs order) (AllPairs-tail (λ x y. R (key x) (key y)) y ys order') tails)

-- ---- peers by number

below_once : (a b : ℕ) → a < b → b < a → ⊥
below_once a b l g = omega (arith, l, g)

peer_look : (peers : List Peer) (n : ℕ) → peer_of peers n ≡ look (λ p. p.number) (λ p. p) nat_eq (λ a b. a < b) nat_eq_is nat_eq_self below_once (λ x y k v. v) peers n
peer_look [] n = refl
peer_look (p ∷ peers) n = ap (λ (o : Option Peer). cond (nat_eq p.number n) (Some p) o) (peer_look peers n)

pub same_peers : (xs ys : List Peer) → AreNumbered xs → AreNumbered ys → ((n : ℕ) → peer_of xs n ≡ peer_of ys n) → xs ≡ ys
same_peers xs ys order order' agree =
    same_lists (λ p. p.number) (λ p. p) nat_eq (λ a b. a < b) nat_eq_is nat_eq_self below_once (λ x y k v. v) xs ys order order' (λ n. sym (peer_look xs n) ∙ agree n ∙ peer_look ys n)

-- ---- routes by prefix

before_once : (p q : PrefixValue) → is_before p q ≡ true → is_before q p ≡ true → ⊥
before_once p q l g = by_numbers (rank p.address) (rank q.address) p.length q.length l g
  where
    by_numbers : (a b k j : ℕ) → (nat_lt a b || (nat_eq a b && nat_lt k j)) ≡ true → (nat_lt b a || (nat_eq b a && nat_lt j k)) ≡ true → ⊥
    by_numbers a b k j l g = grind (arith, nat_tests)

route_is : (x y : PrefixValue × ℕ) → x.0 ≡ y.0 → x.1 ≡ y.1 → x ≡ y
route_is x y p i = ap (λ (q : PrefixValue). (q, x.1)) p ∙ ap (λ (j : ℕ). (y.0, j)) i

route_look : (routes : Routes) (p : PrefixValue) → route_of routes p ≡ look (λ (r : PrefixValue × ℕ). r.0) (λ r. r.1) same_prefix (λ p q. is_before p q ≡ true) same_prefix_is same_prefix_self before_once route_is routes p
route_look [] p = refl
route_look (r ∷ routes) p = ap (λ (o : Option ℕ). cond (same_prefix r.0 p) (Some r.1) o) (route_look routes p)

pub same_routes : (xs ys : Routes) → AreOrdered xs → AreOrdered ys → ((p : PrefixValue) → route_of xs p ≡ route_of ys p) → xs ≡ ys
same_routes xs ys order order' agree =
    same_lists (λ (r : PrefixValue × ℕ). r.0) (λ r. r.1) same_prefix (λ p q. is_before p q ≡ true) same_prefix_is same_prefix_self before_once route_is xs ys order order' (λ p. sym (route_look xs p) ∙ agree p ∙ route_look ys p)
