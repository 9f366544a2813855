-- Slots of routes: one more at the end, and the routes that they hold.
use Rattle.std.proofs.Common.{◌≡◌, ℕ, zero, suc, ◌+◌, ◌-◌, ◌<◌, ◌≤◌, inl, inr, Bool, true, false, not, cond, List, [], ◌∷◌, ◌++◌, length, get_or, take, length-take-le, Option, Some, None, Ok, Err, is_some, refl, sym, ap, subst, ◌∙◌, arith}
use Rattle.std.specs.Prelude.{IsSome}
use Rattle.std.specs.List.{All, filter}
use Rattle.std.proofs.lemmas.Bool.{cases_lt}
use Rattle.std.proofs.lemmas.List.{get_or-take, get_or_default}
use Rattle.std.proofs.lemmas.List.Elements.{All-push, All-filter, filter_passes}
use Rattle.std.proofs.lemmas.List.Quantifiers.{all_pairs_push}
use Rattle.wgr_text.specs.Prefix.{PrefixValue}
use Rattle.wgr_peers.specs.Ordered.{EndsAt}
use Rattle.wgr_pool.specs.PrefixTests.{is_before, same_prefix}
use Rattle.wgr_peers.specs.Routes.{Routes, ComesBefore, AreOrdered, assign_route, route_of}
use Rattle.wgr_peers.specs.RouteSlots.{AreSlots, IsMasked}
use Rattle.wgr_pool.proofs.Bools.{decide}
use Rattle.wgr_pool.proofs.Lists.{AllPairs-head, AllPairs-tail, AllPairs-filter, filter_none}
use Rattle.wgr_peers.proofs.OrderedLemmas.{drop_absent, put_above, put_all, put_pairs}
use Rattle.wgr_peers.proofs.CollectLemmas.{take_next}
use Rattle.wgr_peers.proofs.PlaceLemmas.{before_joins, routes_level, routes_lead, routes_placed, routes_down}
use Rattle.wgr_peers.proofs.RouteLemmas.{not_same, route_none, filter_put}

-- one more after the last
pub slots_push : (slots : Routes) (last slot : PrefixValue × ℕ) → AreSlots slots → IsMasked slot → 0 < length slots → ((d : PrefixValue × ℕ) → last ≡ get_or slots (length slots - 1) d) → is_before last.0 slot.0 ≡ true → AreSlots (slots ++ slot ∷ [])
slots_push slots last slot are masked some at before = record {
  ordered = all_pairs_push ComesBefore slots slot are.ordered (λ k d l. elim (cases_lt k (length slots - 1)) [
    | inl earlier ↦
        let up : is_before (get_or slots k d).0 last.0 ≡ true = subst (λ (r : PrefixValue × ℕ). is_before (get_or slots k d).0 r.0 ≡ true) (sym (at d)) (are.ordered k (length slots - 1) d earlier (omega (arith, some))) in
        before_joins (get_or slots k d).0 last.0 slot.0 up before
    | inr from ↦
        let here : length slots - 1 ≡ k = omega (arith, from, l) in
        subst (λ (r : PrefixValue × ℕ). is_before r.0 slot.0 ≡ true) (at d ∙ ap (λ (i : ℕ). get_or slots i d) here) before
  ]);
  masked = All-push IsMasked slots slot are.masked masked;
}

-- the first
pub slots_first : (slots : Routes) (slot : PrefixValue × ℕ) → length slots ≡ 0 → AreSlots slots → IsMasked slot → AreSlots (slots ++ slot ∷ [])
slots_first slots slot none are masked = record {
  ordered = all_pairs_push ComesBefore slots slot are.ordered (λ k d l. absurd (omega (arith, l, none)));
  masked = All-push IsMasked slots slot are.masked masked;
}

-- what is left of slots are slots
pub slots_filter : (q : PrefixValue × ℕ → Bool) (slots : Routes) → AreSlots slots → AreSlots (filter q slots)
slots_filter q slots are = record {
  ordered = AllPairs-filter ComesBefore q slots are.ordered;
  masked = All-filter q IsMasked slots are.masked;
}

-- ---- the routes in some of the slots

-- no route behind one that does not come before the prefix leads from it
none_behind : (r : PrefixValue × ℕ) (routes : Routes) (p : PrefixValue) → All (ComesBefore r) routes → is_before r.0 p ≡ false → All (λ s. not (same_prefix s.0 p) ≡ true) routes
none_behind r routes p above not_before = λ k d l. elim (decide (same_prefix (get_or routes k d).0 p)) [
  | inl same ↦ let bad : true ≡ false = sym (routes_lead p r (get_or routes k d) (above k d l) same) ∙ not_before in cc
  | inr apart ↦ ap not apart
]

slot_at : (q : PrefixValue × ℕ → Bool) (slots : Routes) (p : PrefixValue) (at : ℕ) (d : PrefixValue × ℕ) → AreOrdered slots → ((k : ℕ) (d : PrefixValue × ℕ) → k < at → is_before (get_or slots k d).0 p ≡ true) → at < length slots → same_prefix (get_or slots at d).0 p ≡ true
    → route_of (filter q slots) p ≡ cond (q (get_or slots at d)) (Some (get_or slots at d).1) None
slot_at q [] p at d ordered before l same = absurd (omega (arith, l))
slot_at q (r ∷ slots) p zero d ordered before l same =
    let behind = none_behind r slots p (AllPairs-head ComesBefore r slots ordered) (routes_level p r same) in
    let none = route_none (filter q slots) p (All-filter q (λ s. not (same_prefix s.0 p) ≡ true) slots behind) in
    elim (q r) as (λ b. route_of (cond b (r ∷ filter q slots) (filter q slots)) p ≡ cond b (Some r.1) None) [
      | true ↦ ap (λ b. cond b (Some r.1) (route_of (filter q slots) p)) same
      | false ↦ none
    ]
slot_at q (r ∷ slots) p (suc at) d ordered before l same =
    let apart = not_same p r (before zero d (omega arith)) in
    let rest = slot_at q slots p at d (AllPairs-tail ComesBefore r slots ordered) (λ k d h. before (suc k) d (omega (arith, h))) (omega (arith, l)) same in
    (elim (q r) as (λ b. route_of (cond b (r ∷ filter q slots) (filter q slots)) p ≡ route_of (filter q slots) p) [
      | true ↦ ap (λ b. cond b (Some r.1) (route_of (filter q slots) p)) apart
      | false ↦ refl
    ]) ∙ rest

-- where the prefix has a slot, its route is that of the slot, if the slot is one of these
pub slot_found : (q : PrefixValue × ℕ → Bool) (slots : Routes) (p : PrefixValue) (at : ℕ) (d : PrefixValue × ℕ) → AreOrdered slots → EndsAt (λ r. is_before r.0 p) (λ r. same_prefix r.0 p) slots (Ok at)
    → route_of (filter q slots) p ≡ cond (q (get_or slots at d)) (Some (get_or slots at d).1) None
slot_found q slots p at d ordered ends = slot_at q slots p at d ordered ends.0.before ends.1 (ends.2 d)

pub slot_absent : (q : PrefixValue × ℕ → Bool) (slots : Routes) (p : PrefixValue) (at : ℕ) → AreOrdered slots → EndsAt (λ r. is_before r.0 p) (λ r. same_prefix r.0 p) slots (Err at) → route_of (filter q slots) p ≡ None
slot_absent q slots p at ordered ends =
    let other = λ (r : PrefixValue × ℕ). not (same_prefix r.0 p) in
    let same = drop_absent ComesBefore (λ r. is_before r.0 p) (λ r. same_prefix r.0 p) slots at ordered ends (routes_level p) (routes_lead p) in
    route_none (filter q slots) p (All-filter q (λ r. other r ≡ true) slots (subst (All (λ r. other r ≡ true)) same (filter_passes other slots)))

-- ---- a route that comes

-- it is put among the routes as among the slots
pub filled_put : (q : PrefixValue × ℕ → Bool) (slots : Routes) (p : PrefixValue) (number : ℕ) → AreOrdered slots → q (p, number) ≡ true → filter q (assign_route slots p number) ≡ assign_route (filter q slots) p number
filled_put q slots p number ordered kept = filter_put ComesBefore (λ r. is_before r.0 p) (λ r. same_prefix r.0 p) q slots (p, number) kept ordered (routes_down p) (routes_lead p)

pub slots_put : (slots : Routes) (p : PrefixValue) (number : ℕ) → AreSlots slots → IsMasked (p, number) → AreSlots (assign_route slots p number)
slots_put slots p number are masked = record {
  ordered = put_pairs ComesBefore IsMasked (λ r. is_before r.0 p) (λ r. same_prefix r.0 p) slots (p, number)
      (let placed = routes_placed p number masked.0 in record { item = masked; below = placed.below; above = λ r m. placed.above r m.0; same = placed.same; joins = placed.joins }) are.masked are.ordered;
  masked = put_all IsMasked (λ r. is_before r.0 p) (λ r. same_prefix r.0 p) slots (p, number) are.masked masked;
}

-- one route more where the prefix led nowhere, and else as many
pub length_assign : (routes : Routes) (p : PrefixValue) (number : ℕ) → AreOrdered routes → length (assign_route routes p number) ≡ length routes + cond (is_some (route_of routes p)) 0 1
length_assign [] p number ordered = refl
length_assign (r ∷ routes) p number ordered = elim (decide (is_before r.0 p)) [
  | inl before ↦
      let rest = length_assign routes p number (AllPairs-tail ComesBefore r routes ordered) in
      let apart = ap (λ b. cond b (Some r.1) (route_of routes p)) (not_same p r before) in
      ap (λ b. length (cond b (r ∷ assign_route routes p number) (cond (same_prefix r.0 p) ((p, number) ∷ routes) ((p, number) ∷ r ∷ routes)))) before
      ∙ ap suc rest
      ∙ carried (length routes) (cond (is_some (route_of routes p)) 0 1)
      ∙ ap (λ o. length (r ∷ routes) + cond (is_some o) 0 1) (sym apart)
  | inr not_before ↦
      ap (λ b. length (cond b (r ∷ assign_route routes p number) (cond (same_prefix r.0 p) ((p, number) ∷ routes) ((p, number) ∷ r ∷ routes)))) not_before
      ∙ (elim (decide (same_prefix r.0 p)) [
        | inl same ↦
            ap (λ b. length (cond b ((p, number) ∷ routes) ((p, number) ∷ r ∷ routes))) same
            ∙ none_more (suc (length routes))
            ∙ sym (ap (λ b. length (r ∷ routes) + cond (is_some (cond b (Some r.1) (route_of routes p))) 0 1) same)
        | inr apart ↦
            let none = route_none routes p (none_behind r routes p (AllPairs-head ComesBefore r routes ordered) not_before) in
            ap (λ b. length (cond b ((p, number) ∷ routes) ((p, number) ∷ r ∷ routes))) apart
            ∙ one_more (suc (length routes))
            ∙ sym (ap (λ b. length (r ∷ routes) + cond (is_some (cond b (Some r.1) (route_of routes p))) 0 1) apart ∙ ap (λ o. length (r ∷ routes) + cond (is_some o) 0 1) none)
      ])
]
  where
    carried : (m n : ℕ) → suc (m + n) ≡ suc m + n
    carried m n = omega arith

    none_more : (n : ℕ) → n ≡ n + 0
    none_more n = omega arith

    one_more : (n : ℕ) → suc n ≡ n + 1
    one_more n = omega arith

-- as many routes in the slots as the look-up before told
pub filled_length : (q : PrefixValue × ℕ → Bool) (slots new : Routes) (p : PrefixValue) (number : ℕ) (found : Option ℕ) → AreOrdered slots → q (p, number) ≡ true → new ≡ assign_route slots p number → found ≡ route_of (filter q slots) p
    → length (filter q new) ≡ length (filter q slots) + cond (is_some found) 0 1
filled_length q slots new p number found ordered kept put is =
    ap (λ (xs : Routes). length (filter q xs)) put
    ∙ ap length (filled_put q slots p number ordered kept)
    ∙ length_assign (filter q slots) p number (AllPairs-filter ComesBefore q slots ordered)
    ∙ ap (λ o. length (filter q slots) + cond (is_some o) 0 1) (sym is)

pub filter_shorter : {X : Type 0} (q : X → Bool) (xs : List X) → length (filter q xs) ≤ length xs
filter_shorter q [] = omega arith
filter_shorter q (x ∷ xs) =
    let rest = filter_shorter q xs in
    elim (q x) as (λ b. length (cond b (x ∷ filter q xs) (filter q xs)) ≤ length (x ∷ xs)) [ true ↦ omega (arith, rest) | false ↦ omega (arith, rest) ]

-- where each number is a vacant slot's there are no routes
pub none_filled : (q : PrefixValue × ℕ → Bool) (slots : Routes) → All (λ s. s.1 ≡ 0) slots → ((p : PrefixValue) → q (p, 0) ≡ false) → filter q slots ≡ []
none_filled q slots zeros fails = filter_none q slots (λ k d l. ap (λ n. q ((get_or slots k d).0, n)) (zeros k d l) ∙ fails (get_or slots k d).0)

-- the next of the routes comes after those before it
pub assign_next : (routes : Routes) (i : ℕ) (route : PrefixValue × ℕ) → AreOrdered routes → i < length routes → route ≡ get_or routes i route → assign_route (take i routes) route.0 route.1 ≡ take (i + 1) routes
assign_next routes i route ordered within is =
    let before : All (λ r. is_before r.0 route.0 ≡ true) (take i routes) = (λ k d l.
    let earlier : k < i = omega (arith, l, length-take-le i routes (omega (arith, within))) in
    let here = subst (λ (r : PrefixValue × ℕ). is_before (get_or routes k d).0 r.0 ≡ true) (get_or_default routes i d route within ∙ sym is) (ordered k i d earlier within) in
    subst (λ (r : PrefixValue × ℕ). is_before r.0 route.0 ≡ true) (sym (get_or-take i routes k d earlier)) here) in
    put_above (λ r. is_before r.0 route.0) (λ r. same_prefix r.0 route.0) (take i routes) route before
    ∙ sym (take_next routes i route within is)

-- a prefix that leads somewhere among some of the slots does among all
pub some_filled : (q : PrefixValue × ℕ → Bool) (slots : Routes) (p : PrefixValue) → IsSome (route_of (filter q slots) p) → IsSome (route_of slots p)
some_filled q [] p some = some
some_filled q (r ∷ slots) p some = by (q r) (same_prefix r.0 p) refl (some_filled q slots p) some
  where
    by : (b c : Bool) → same_prefix r.0 p ≡ c → (IsSome (route_of (filter q slots) p) → IsSome (route_of slots p)) → IsSome (route_of (cond b (r ∷ filter q slots) (filter q slots)) p) → IsSome (cond c (Some r.1) (route_of slots p))
    by b true same rest some = refl
    by true false same rest some = rest (subst (λ c. IsSome (cond c (Some r.1) (route_of (filter q slots) p))) same some)
    by false false same rest some = rest some
