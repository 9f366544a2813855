-- Routes found by their prefix, kept by their number, and changed.
use Rattle.std.proofs.Common.{◌≡◌, ℕ, zero, suc, ◌<◌, inl, inr, Bool, true, false, not, ◌&&◌, cond, nat_eq, List, [], ◌∷◌, length, get_or, Some, None, Ok, Err, refl, sym, ap, subst, ◌∙◌, arith}
use Rattle.std.specs.List.{All, AllPairs, filter}
use Rattle.std.proofs.lemmas.List.Elements.{All-cons, All-head, All-tail, All-filter, filter_passes}
use Rattle.wgr_text.specs.Prefix.{PrefixValue}
use Rattle.wgr_peers.specs.Ordered.{put_in_order, EndsAt}
use Rattle.wgr_pool.specs.PrefixTests.{same_prefix, is_before}
use Rattle.wgr_peers.specs.Routes.{Routes, ComesBefore, AreOrdered, assign_route, route_of, without_route}
use Rattle.wgr_pool.proofs.Bools.{decide, not_true}
use Rattle.wgr_pool.proofs.Lists.{AllPairs-head, AllPairs-tail, filter_twice}
use Rattle.wgr_peers.proofs.OrderedLemmas.{drop_absent}
use Rattle.wgr_peers.proofs.PlaceLemmas.{routes_down, routes_lead, routes_level}
use Rattle.wgr_pool.proofs.PrefixLemmas.{nat_eq_self}

-- ---- the route of a prefix

pub not_same : (p : PrefixValue) (r : PrefixValue × ℕ) → is_before r.0 p ≡ true → same_prefix r.0 p ≡ false
not_same p r before = elim (decide (same_prefix r.0 p)) [
  | inl same ↦ let bad : true ≡ false = sym before ∙ routes_level p r same in cc
  | inr apart ↦ apart
]

route_at : (routes : Routes) (p : PrefixValue) (at : ℕ) (d : PrefixValue × ℕ) → ((k : ℕ) (d : PrefixValue × ℕ) → k < at → is_before (get_or routes k d).0 p ≡ true) → at < length routes → same_prefix (get_or routes at d).0 p ≡ true
    → route_of routes p ≡ Some (get_or routes at d).1
route_at [] p at d before l same = absurd (omega (arith, l))
route_at (r ∷ routes) p zero d before l same = ap (λ b. cond b (Some r.1) (route_of routes p)) same
route_at (r ∷ routes) p (suc at) d before l same =
    ap (λ b. cond b (Some r.1) (route_of routes p)) (not_same p r (before zero d (omega arith)))
    ∙ route_at routes p at d (λ k d h. before (suc k) d (omega (arith, h))) (omega (arith, l)) same

pub route_found : (routes : Routes) (p : PrefixValue) (at : ℕ) (d : PrefixValue × ℕ) → EndsAt (λ r. is_before r.0 p) (λ r. same_prefix r.0 p) routes (Ok at) → route_of routes p ≡ Some (get_or routes at d).1
route_found routes p at d ends = route_at routes p at d ends.0.before ends.1 (ends.2 d)

pub route_none : (routes : Routes) (p : PrefixValue) → All (λ r. not (same_prefix r.0 p) ≡ true) routes → route_of routes p ≡ None
route_none [] p all = refl
route_none (r ∷ routes) p all =
    ap (λ b. cond b (Some r.1) (route_of routes p)) (not_true (same_prefix r.0 p) (All-head (λ r. not (same_prefix r.0 p) ≡ true) r routes all))
    ∙ route_none routes p (All-tail (λ r. not (same_prefix r.0 p) ≡ true) r routes all)

pub route_absent : (routes : Routes) (p : PrefixValue) (at : ℕ) → AreOrdered routes → EndsAt (λ r. is_before r.0 p) (λ r. same_prefix r.0 p) routes (Err at) → route_of routes p ≡ None
route_absent routes p at ordered ends =
    let same = drop_absent ComesBefore (λ r. is_before r.0 p) (λ r. same_prefix r.0 p) routes at ordered ends (routes_level p) (routes_lead p) in
    route_none routes p (subst (All (λ r. not (same_prefix r.0 p) ≡ true)) same (filter_passes (λ (r : PrefixValue × ℕ). not (same_prefix r.0 p)) routes))

-- ---- the routes to one peer, where one of its routes comes or goes

put_first : {X : Type 0} (is_below is_same : X → Bool) (xs : List X) (x : X) → All (λ y. is_below y ≡ false) xs → All (λ y. is_same y ≡ false) xs → put_in_order is_below is_same xs x ≡ x ∷ xs
put_first is_below is_same [] x above apart = refl
put_first is_below is_same (y ∷ ys) x above apart =
    ap (λ b. cond b (y ∷ put_in_order is_below is_same ys x) (cond (is_same y) (x ∷ ys) (x ∷ y ∷ ys))) (All-head (λ y. is_below y ≡ false) y ys above)
    ∙ ap (λ b. cond b (x ∷ ys) (x ∷ y ∷ ys)) (All-head (λ y. is_same y ≡ false) y ys apart)

-- what fails where an item before fails by it
fails_after : {X : Type 0} (R : X → X → Type 0) (is_below test : X → Bool) (y : X) (ys : List X) → All (R y) ys → ((y z : X) → R y z → test z ≡ true → is_below y ≡ true) → is_below y ≡ false → All (λ z. test z ≡ false) ys
fails_after R is_below test y ys first down h = λ k d l. elim (decide (test (get_or ys k d))) [
  | inl t ↦ let bad : true ≡ false = sym (down y (get_or ys k d) (first k d l) t) ∙ h in cc
  | inr f ↦ f
]

pub filter_put : {X : Type 0} (R : X → X → Type 0) (is_below is_same q : X → Bool) (xs : List X) (x : X) → q x ≡ true → AllPairs R xs
    → ((y z : X) → R y z → is_below z ≡ true → is_below y ≡ true) → ((y z : X) → R y z → is_same z ≡ true → is_below y ≡ true)
    → filter q (put_in_order is_below is_same xs x) ≡ put_in_order is_below is_same (filter q xs) x
filter_put R is_below is_same q [] x kept pairs down lead = ap (λ b. cond b (x ∷ []) []) kept
filter_put R is_below is_same q (y ∷ ys) x kept pairs down lead =
    let first = AllPairs-head R y ys pairs in
    let put = put_in_order is_below is_same ys x in
    let later = put_in_order is_below is_same (filter q ys) x in
    elim (decide (is_below y)) [
      | inl h ↦
          ap (λ b. filter q (cond b (y ∷ put) (cond (is_same y) (x ∷ ys) (x ∷ y ∷ ys)))) h
          ∙ ap (λ zs. cond (q y) (y ∷ zs) zs) (filter_put R is_below is_same q ys x kept (AllPairs-tail R y ys pairs) down lead)
          ∙ (elim (q y) as (λ b. cond b (y ∷ later) later ≡ put_in_order is_below is_same (cond b (y ∷ filter q ys) (filter q ys)) x) [
            | true ↦ sym (ap (λ b. cond b (y ∷ later) (cond (is_same y) (x ∷ filter q ys) (x ∷ y ∷ filter q ys))) h)
            | false ↦ refl
          ])
      | inr h ↦
          let above = fails_after R is_below is_below y ys first down h in
          let apart = fails_after R is_below is_same y ys first lead h in
          let above' = All-filter q (λ z. is_below z ≡ false) ys above in
          let apart' = All-filter q (λ z. is_same z ≡ false) ys apart in
          ap (λ b. filter q (cond b (y ∷ put) (cond (is_same y) (x ∷ ys) (x ∷ y ∷ ys)))) h
          ∙ (elim (decide (is_same y)) [
            | inl s ↦
                ap (λ b. filter q (cond b (x ∷ ys) (x ∷ y ∷ ys))) s
                ∙ ap (λ b. cond b (x ∷ filter q ys) (filter q ys)) kept
                ∙ (elim (q y) as (λ b. x ∷ filter q ys ≡ put_in_order is_below is_same (cond b (y ∷ filter q ys) (filter q ys)) x) [
                  | true ↦ sym (ap (λ b. cond b (y ∷ later) (cond (is_same y) (x ∷ filter q ys) (x ∷ y ∷ filter q ys))) h ∙ ap (λ b. cond b (x ∷ filter q ys) (x ∷ y ∷ filter q ys)) s)
                  | false ↦ sym (put_first is_below is_same (filter q ys) x above' apart')
                ])
            | inr s ↦
                ap (λ b. filter q (cond b (x ∷ ys) (x ∷ y ∷ ys))) s
                ∙ ap (λ b. cond b (x ∷ filter q (y ∷ ys)) (filter q (y ∷ ys))) kept
                ∙ sym (put_first is_below is_same (filter q (y ∷ ys)) x
                (All-filter q (λ z. is_below z ≡ false) (y ∷ ys) (All-cons (λ z. is_below z ≡ false) y ys h above))
                (All-filter q (λ z. is_same z ≡ false) (y ∷ ys) (All-cons (λ z. is_same z ≡ false) y ys s apart)))
          ])
    ]

pub filter_assign : (routes : Routes) (p : PrefixValue) (number : ℕ) → AreOrdered routes
    → filter (λ r. nat_eq r.1 number) (assign_route routes p number) ≡ assign_route (filter (λ r. nat_eq r.1 number) routes) p number
filter_assign routes p number ordered =
    filter_put ComesBefore (λ r. is_before r.0 p) (λ r. same_prefix r.0 p) (λ r. nat_eq r.1 number) routes (p, number) (nat_eq_self number) ordered (routes_down p) (routes_lead p)

pub filter_without : (routes : Routes) (p : PrefixValue) (number : ℕ) → filter (λ r. nat_eq r.1 number) (without_route routes p) ≡ without_route (filter (λ r. nat_eq r.1 number) routes) p
filter_without routes p number =
    let to = λ (r : PrefixValue × ℕ). nat_eq r.1 number in
    let other = λ (r : PrefixValue × ℕ). not (same_prefix r.0 p) in
    sym (filter_twice other to (λ r. other r && to r) (λ r. refl) routes) ∙ filter_twice to other (λ r. other r && to r) (λ r. turned (other r) (to r)) routes
  where
    turned : (a b : Bool) → (a && b) ≡ (b && a)
    turned true true = refl
    turned true false = refl
    turned false true = refl
    turned false false = refl
