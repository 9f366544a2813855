-- two lists of spans in one order
use Rattle.std.proofs.Common.{◌≡◌, ℕ, suc, ◌+◌, ◌-◌, ◌^◌, ◌<◌, ◌≤◌, ◌⊎◌, ◌↔◌, inl, inr, Bool, true, false, ◌&&◌, ◌||◌, nat_lt, if◌then◌else◌, List, [], ◌∷◌, length, slice_index_or, Option, Some, None, MatchOption, subst, sym, ap, ◌∙◌, arith, refl}
use Rattle.std.specs.List.{All, AllPairs}
use Rattle.std.proofs.lemmas.Bool.Decides.{nat_tests}
use Rattle.std.proofs.lemmas.Nat.{pow_pos}
use Rattle.wgr_text.specs.declared.prefix.Span.{Span}
use Rattle.wgr_text.specs.Prefix.{AddrValue, PrefixValue, IsAddr, IsPrefix, block, width, rank, first_rank}
use Rattle.wgr_text.proofs.Spans.{is_in_iff, prefix_ends}
use Rattle.wgr_pool.specs.PrefixTests.{has, covers, is_before}
use Rattle.wgr_pool.specs.Pool.{IsPool}
use Rattle.wgr_pool.specs.Allot.{lowest_where}
use Rattle.wgr_pool.specs.Spans.{IsWithin, IsHeld, RisesFrom, Takes, IsFull, IsLowestFree}
use Rattle.wgr_pool.specs.HeldSpans.{span_of, is_routed, route_spans, put_span, merged, from_first}
use Rattle.wgr_pool.proofs.Ranges.{between_family}
use Rattle.wgr_pool.proofs.Bools.{decide}
use Rattle.wgr_pool.proofs.Bridge.{has_iff, lowest_is, full_is}

-- spans that begin no lower than a place begin from there on
pub rises_from : (floor low : ℕ) (spans : List Span) → low ≤ floor → RisesFrom floor spans → RisesFrom low spans
rises_from floor low [] l r = tt
rises_from floor low (s ∷ spans) l r = (omega (arith, l, r.0), r.1)

pub nat_lt_is : (a b : ℕ) → nat_lt a b ≡ true → a < b
nat_lt_is a b e = grind (arith, nat_tests)

pub nat_lt_not : (a b : ℕ) → nat_lt a b ≡ false → b ≤ a
nat_lt_not a b e = grind (arith, nat_tests)

pub rises_put : (floor : ℕ) (s : Span) (spans : List Span) → floor ≤ rank s.lo → RisesFrom floor spans → RisesFrom floor (put_span s spans)
rises_put floor s [] l r = (l, tt)
rises_put floor s (t ∷ spans) l r =
    elim (decide (nat_lt (rank t.lo) (rank s.lo))) [
      | inl e ↦ subst (λ b. RisesFrom floor (if b then t ∷ put_span s spans else s ∷ t ∷ spans)) (sym e) (r.0, rises_put (rank t.lo) s spans (let m = nat_lt_is _ _ e in omega (arith, m)) r.1)
      | inr e ↦ subst (λ b. RisesFrom floor (if b then t ∷ put_span s spans else s ∷ t ∷ spans)) (sym e) (l, (nat_lt_not _ _ e, r.1))
    ]

pub rises_merged : (floor : ℕ) (xs ys : List Span) → RisesFrom floor xs → RisesFrom floor ys → RisesFrom floor (merged xs ys)
rises_merged floor [] ys r t = t
rises_merged floor (x ∷ xs) ys r t = rises_put floor x (merged xs ys) r.0 (rises_merged floor xs ys (rises_from (rank x.lo) floor xs r.0 r.1) t)

nat_lt_false : (a b : ℕ) → b ≤ a → nat_lt a b ≡ false
nat_lt_false a b l = grind (arith, nat_tests)

nat_lt_true : (a b : ℕ) → a < b → nat_lt a b ≡ true
nat_lt_true a b l = grind (arith, nat_tests)

put_first : (s : Span) (spans : List Span) → RisesFrom (rank s.lo) spans → put_span s spans ≡ s ∷ spans
put_first s [] r = refl
put_first s (t ∷ spans) r = ap (λ b. if b then t ∷ put_span s spans else s ∷ t ∷ spans) (nat_lt_false (rank t.lo) (rank s.lo) r.0)

-- the first span of the one comes first where the other begins no lower
pub merged_left : (x : Span) (xs ys : List Span) → RisesFrom (rank x.lo) xs → RisesFrom (rank x.lo) ys → merged (x ∷ xs) ys ≡ x ∷ merged xs ys
merged_left x xs ys r t = put_first x (merged xs ys) (rises_merged (rank x.lo) xs ys r t)

-- and that of the other where the one begins above it
pub merged_right : (floor : ℕ) (xs : List Span) (y : Span) (ys : List Span) → RisesFrom floor xs → rank y.lo < floor → merged xs (y ∷ ys) ≡ y ∷ merged xs ys
merged_right floor [] y ys r l = refl
merged_right floor (x ∷ xs) y ys r l =
    let below : rank y.lo < rank x.lo = omega (arith, l, r.0) in
    ap (put_span x) (merged_right (rank x.lo) xs y ys r.1 below)
    ∙ ap (λ b. if b then y ∷ put_span x (merged xs ys) else x ∷ y ∷ merged xs ys) (nat_lt_true _ _ below)

pub held_put : (s : Span) (spans : List Span) (a : AddrValue) → IsHeld (put_span s spans) a ↔ (IsWithin s a ⊎ IsHeld spans a)
held_put s [] a = ((λ h. h), (λ h. h))
held_put s (t ∷ spans) a =
    let more = held_put s spans a in
    elim (decide (nat_lt (rank t.lo) (rank s.lo))) [
      | inl e ↦ subst (λ b. IsHeld (if b then t ∷ put_span s spans else s ∷ t ∷ spans) a ↔ (IsWithin s a ⊎ IsHeld (t ∷ spans) a)) (sym e) (
        elim [ inl h ↦ inr (inl h) | inr h ↦ elim (more.0 h) [ inl i ↦ inl i | inr i ↦ inr (inr i) ] ],
        elim [ inl h ↦ inr (more.1 (inl h)) | inr h ↦ elim h [ inl i ↦ inl i | inr i ↦ inr (more.1 (inr i)) ] ],
      )
      | inr e ↦ subst (λ b. IsHeld (if b then t ∷ put_span s spans else s ∷ t ∷ spans) a ↔ (IsWithin s a ⊎ IsHeld (t ∷ spans) a)) (sym e) ((λ h. h), (λ h. h))
    ]

pub held_merged : (xs ys : List Span) (a : AddrValue) → IsHeld (merged xs ys) a ↔ (IsHeld xs a ⊎ IsHeld ys a)
held_merged [] ys a = ((λ h. inr h), elim [ inl h ↦ absurd h | inr h ↦ h ])
held_merged (x ∷ xs) ys a =
    let first = held_put x (merged xs ys) a in
    let more = held_merged xs ys a in (
      (λ h. elim (first.0 h) [ inl i ↦ inl (inl i) | inr i ↦ elim (more.0 i) [ inl j ↦ inl (inr j) | inr j ↦ inr j ] ]),
      (λ h. elim h [ inl i ↦ elim i [ inl j ↦ first.1 (inl j) | inr j ↦ first.1 (inr (more.1 (inl j))) ] | inr i ↦ first.1 (inr (more.1 (inr i))) ]),
    )

-- a route in a pool of addresses has addresses
pub covers_fits : (pool p : PrefixValue) → IsPrefix pool → IsAddr pool.address → covers pool p ≡ true → IsAddr p.address
covers_fits pool p is fits e =
    let inside = (has_iff pool p.address).0 (grind arith) in
    let w = (is_in_iff pool is p.address).0 inside in
    let ends = prefix_ends pool is fits in
    let same = ap (λ f. 2 ^ width f) w.0 in
    omega (arith, w.2, ends, same)

pub has_span : (p : PrefixValue) (a : AddrValue) → IsPrefix p → IsAddr p.address → IsAddr a → (has p a ≡ true) ↔ IsWithin (span_of p) a
has_span p a is fits a_fits =
    let i = is_in_iff p is a in
    let ends = prefix_ends p is fits in
    let some = pow_pos (width p.address.family - p.length) in (
      (λ h. let w = i.0 ((has_iff p a).0 h) in let r = ap first_rank w.0 in (omega (arith, w.1, r), omega (arith, w.2, r))),
      (λ h.
          let f = between_family a.family p.address.family a.number p.address.number (p.address.number + block p.address.family p.length - 1) a_fits h.0 h.1 (omega (arith, ends, some)) in
          let r = ap first_rank f in
          (has_iff p a).1 (i.1 (f, omega (arith, h.0, r), omega (arith, h.1, r, some)))),
    )

either_right : (a b : Bool) → b ≡ true → (a || b) ≡ true
either_right true b e = refl
either_right false b e = e

either_of : (a b : Bool) → (a || b) ≡ true → (a ≡ true) ⊎ (b ≡ true)
either_of true b e = inl refl
either_of false b e = inr e

-- an address is in the routes' spans if a route in the pool has it
pub routed : (pool : PrefixValue) (routes : List (PrefixValue × ℕ)) (a : AddrValue) → IsPrefix pool → IsAddr pool.address → All (λ r. IsPrefix r.0) routes → IsAddr a → IsHeld (route_spans pool routes) a ↔ (is_routed pool routes a ≡ true)
routed pool [] a is fits prefixes a_fits = ((λ h. absurd h), (λ e. cc))
routed pool (r ∷ routes) a is fits prefixes a_fits =
    let more = routed pool routes a is fits (λ k d l. prefixes (suc k) d (omega (arith, l))) a_fits in
    elim (decide (covers pool r.0)) [
      | inl e ↦
          let first = has_span r.0 a (prefixes 0 r (omega arith)) (covers_fits pool r.0 is fits e) a_fits in
          let test : is_routed pool (r ∷ routes) a ≡ (has r.0 a || is_routed pool routes a) = ap (λ b. (b && has r.0 a) || is_routed pool routes a) e in
          subst (λ b. IsHeld (if b then span_of r.0 ∷ route_spans pool routes else route_spans pool routes) a ↔ (is_routed pool (r ∷ routes) a ≡ true)) (sym e) (
            elim [ inl w ↦ test ∙ ap (λ b. b || is_routed pool routes a) (first.1 w) | inr h ↦ test ∙ either_right (has r.0 a) _ (more.0 h) ],
            (λ t. elim (either_of (has r.0 a) (is_routed pool routes a) (sym test ∙ t)) [ inl w ↦ inl (first.0 w) | inr h ↦ inr (more.1 h) ]),
          )
      | inr e ↦
          let test : is_routed pool (r ∷ routes) a ≡ is_routed pool routes a = ap (λ b. (b && has r.0 a) || is_routed pool routes a) e in
          subst (λ b. IsHeld (if b then span_of r.0 ∷ route_spans pool routes else route_spans pool routes) a ↔ (is_routed pool (r ∷ routes) a ≡ true)) (sym e)
          ((λ h. test ∙ more.0 h), (λ t. more.1 (sym test ∙ t)))
    ]

pub before_rank : (p q : PrefixValue) → is_before p q ≡ true → rank p.address ≤ rank q.address
before_rank p q e = grind (arith, nat_tests)

-- the routes' spans begin in the order of the routes
pub rises_routes : (floor : ℕ) (pool : PrefixValue) (routes : List (PrefixValue × ℕ)) → AllPairs (λ r s. is_before r.0 s.0 ≡ true) routes → ((k : ℕ) (d : PrefixValue × ℕ) → k < length routes → floor ≤ rank (slice_index_or routes k d).0.address) → RisesFrom floor (route_spans pool routes)
rises_routes floor pool [] sorted from = tt
rises_routes floor pool (r ∷ routes) sorted from =
    let later : AllPairs (λ r s. is_before r.0 s.0 ≡ true) routes = λ i j d l h. sorted (suc i) (suc j) d (omega (arith, l)) (omega (arith, h)) in
    elim (decide (covers pool r.0)) [
      | inl e ↦ subst (λ b. RisesFrom floor (if b then span_of r.0 ∷ route_spans pool routes else route_spans pool routes)) (sym e)
          (from 0 r (omega arith), rises_routes (rank r.0.address) pool routes later (λ k d l. before_rank _ _ (sorted 0 (suc k) d (omega arith) (omega (arith, l)))))
      | inr e ↦ subst (λ b. RisesFrom floor (if b then span_of r.0 ∷ route_spans pool routes else route_spans pool routes)) (sym e)
          (rises_routes floor pool routes later (λ k d l. from (suc k) d (omega (arith, l))))
    ]

-- what was taken is all that was to come
pub taken_all : (old new : List Span) (given : Option Span) → Takes old given new → from_first given new ≡ old
taken_all old new None t = sym t.0
taken_all old new (Some s) t = sym t

-- a run that no route begins before is the first of all
pub takes_run : (floor : ℕ) (runs : List Span) (x : Span) (xs ys : List Span) → RisesFrom floor runs → runs ≡ x ∷ xs → RisesFrom (rank x.lo) ys → merged runs ys ≡ x ∷ merged xs ys
takes_run floor runs x xs ys r e t =
    let order = subst (RisesFrom floor) e r in
    ap (λ zs. merged zs ys) e ∙ merged_left x xs ys order.1 t

-- and so is a route's span that no run begins before
pub takes_route : (runs : List Span) (waiting given : Option Span) (y : Span) (old new : List Span) → waiting ≡ Some y → RisesFrom (rank y.lo + 1) runs → Takes old given new → merged runs (from_first waiting old) ≡ y ∷ merged runs (from_first given new)
takes_route runs waiting given y old new e r t =
    ap (λ o. merged runs (from_first o old)) e
    ∙ ap (λ ys. merged runs (y ∷ ys)) (sym (taken_all old new given t))
    ∙ merged_right (rank y.lo + 1) runs y (from_first given new) r (omega arith)

pub fewer : (xs ys : List Span) (x : Span) → xs ≡ x ∷ ys → length ys < length xs
fewer xs ys x e = let l = ap length e in omega (arith, l)

-- what is taken is what the merged spans have
pub taken_is : (pool : PrefixValue) (taken : AddrValue → Bool) (set runs ys : List Span) (routes : List (PrefixValue × ℕ)) → runs ≡ set → ys ≡ route_spans pool routes → IsPool pool → All (λ r. IsPrefix r.0) routes → ((b : AddrValue) → IsAddr b → (taken b ≡ true) ↔ (IsHeld set b ⊎ (is_routed pool routes b ≡ true))) → (b : AddrValue) → IsAddr b → (taken b ≡ true) ↔ IsHeld (merged runs ys) b
taken_is pool taken set runs ys routes same_runs same_routes is prefixes test b fits =
    let t = test b fits in
    let m = held_merged runs ys b in
    let r = routed pool routes b is.1 is.0 prefixes fits in (
      (λ h. elim (t.0 h) [ inl i ↦ m.1 (inl (subst (λ xs. IsHeld xs b) (sym same_runs) i)) | inr i ↦ m.1 (inr (subst (λ xs. IsHeld xs b) (sym same_routes) (r.1 i))) ]),
      (λ h. elim (m.0 h) [ inl i ↦ t.1 (inl (subst (λ xs. IsHeld xs b) same_runs i)) | inr i ↦ t.1 (inr (r.0 (subst (λ xs. IsHeld xs b) same_routes i))) ]),
    )

pub found_is : (pool : PrefixValue) (taken : AddrValue → Bool) (spans : List Span) (found : Option AddrValue) → IsPool pool → ((b : AddrValue) → IsAddr b → (taken b ≡ true) ↔ IsHeld spans b) → MatchOption found (IsFull pool spans) (IsLowestFree pool spans) → found ≡ lowest_where pool taken
found_is pool taken spans None is same full = sym (full_is pool taken spans is same full)
found_is pool taken spans (Some a) is same low = sym (lowest_is pool taken spans a is same low)
