-- spans below a pool have none of its addresses
use Rattle.std.proofs.Common.{◌≡◌, ℕ, ◌≤◌, ◌↔◌, inl, inr, Bool, true, false, not, ◌&&◌, nat_lt, nat_le, slice_index_or, cond, if◌then◌else◌, List, [], ◌∷◌, Option, Some, None, MatchOption, refl, sym, ap, ◌∙◌, subst, arith}
use Rattle.std.specs.List.{AllPairs, filter}
use Rattle.std.specs.List.Sorted.{IsNonDecreasingBy}
use Rattle.std.proofs.lemmas.Bool.Decides.{nat_tests}
use Rattle.wgr_text.specs.declared.prefix.Span.{Span}
use Rattle.wgr_text.specs.Prefix.{AddrValue, PrefixValue, rank, first_rank}
use Rattle.wgr_text.proofs.Spans.{is_in_iff}
use Rattle.wgr_pool.specs.PrefixTests.{has, covers, is_before}
use Rattle.wgr_pool.specs.Pool.{IsPool, IsAssignable}
use Rattle.wgr_pool.specs.Spans.{IsWithin, IsHeld, RisesFrom, IsFull, IsLowestFree, spans_from}
use Rattle.wgr_pool.specs.HeldSpans.{span_of, route_spans, routes_in, standing, standing_spans, merged}
use Rattle.wgr_pool.proofs.Bools.{decide, and_true}
use Rattle.wgr_pool.proofs.Bridge.{has_iff}
use Rattle.wgr_pool.proofs.Merging.{rises_from, held_merged, nat_lt_is, nat_lt_not, before_rank}

-- spans that are left out change nothing of the order
pub rises_filter : (p : Span → Bool) (floor : ℕ) (spans : List Span) → RisesFrom floor spans → RisesFrom floor (filter p spans)
rises_filter p floor [] r = tt
rises_filter p floor (s ∷ spans) r =
    let rest = rises_filter p (rank s.lo) spans r.1 in
    elim (p s) as (λ b. RisesFrom floor (cond b (s ∷ filter p spans) (filter p spans))) [ true ↦ (r.0, rest) | false ↦ rises_from (rank s.lo) floor _ r.0 rest ]

-- an address from the given one on is in no span that ends below it
pub held_from : (a b : AddrValue) (spans : List Span) → rank a ≤ rank b → IsHeld (spans_from a spans) b ↔ IsHeld spans b
held_from a b [] l = ((λ h. h), (λ h. h))
held_from a b (s ∷ spans) l =
    let more = held_from a b spans l in
    elim (decide (nat_le (rank a) (rank s.hi))) [
      | inl e ↦ subst (λ c. IsHeld (cond c (s ∷ spans_from a spans) (spans_from a spans)) b ↔ IsHeld (s ∷ spans) b) (sym e)
          ((λ h. elim h [ inl w ↦ inl w | inr m ↦ inr (more.0 m) ]), (λ h. elim h [ inl w ↦ inl w | inr m ↦ inr (more.1 m) ]))
      | inr e ↦ subst (λ c. IsHeld (cond c (s ∷ spans_from a spans) (spans_from a spans)) b ↔ IsHeld (s ∷ spans) b) (sym e)
          ((λ h. inr (more.0 h)), (λ h. elim h [ inl w ↦ absurd (ends_below a b s l e w) | inr m ↦ more.1 m ]))
    ]
  where
    ends_below : (a b : AddrValue) (s : Span) → rank a ≤ rank b → nat_le (rank a) (rank s.hi) ≡ false → IsWithin s b → ⊥
    ends_below a b s l e w = let high : rank a ≤ rank s.hi = omega (arith, l, w.1) in grind (arith, nat_tests, high)

-- an assignable address is from the pool's on
pub given_from : (pool : PrefixValue) (b : AddrValue) → IsPool pool → IsAssignable pool b → rank pool.address ≤ rank b
given_from pool b is given =
    let j = (is_in_iff pool is.1 b).0 given.in_pool in
    let r = ap first_rank j.0 in
    omega (arith, j.1, r)

pub routes_order : (routes : List (PrefixValue × ℕ)) → AllPairs (λ r s. is_before r.0 s.0 ≡ true) routes → IsNonDecreasingBy (λ r. rank r.0.address) routes
routes_order routes sorted = λ i j d o l.
    elim (decide (nat_lt i j)) [
      | inl t ↦ before_rank _ _ (sorted i j d (nat_lt_is i j t) l)
      | inr f ↦ let e : i ≡ j = let g = nat_lt_not i j f in omega (arith, o, g) in subst (λ k. rank (slice_index_or routes i d).0.address ≤ rank (slice_index_or routes k d).0.address) e (omega arith)
    ]

-- a route that lies in the pool begins there
covered_begins : (pool p : PrefixValue) → IsPool pool → covers pool p ≡ true → (nat_le (rank (span_of pool).lo) (rank p.address) && nat_le (rank p.address) (rank (span_of pool).hi)) ≡ true
covered_begins pool p is e =
    let inside = (has_iff pool p.address).0 (and_true (not (nat_lt p.length pool.length)) (has pool p.address) e).1 in
    let j = (is_in_iff pool is.1 p.address).0 inside in
    let r = ap first_rank j.0 in
    let low : rank (span_of pool).lo ≤ rank p.address = omega (arith, j.1, r) in
    let high : rank p.address ≤ rank (span_of pool).hi = omega (arith, j.2, r) in
    grind (arith, nat_tests, low, high)

clash : (a b : Bool) → a ≡ b → a ≡ false → b ≡ true → ⊥
clash a b e f t = cc

-- so only those that begin there have spans
pub standing_in : (pool : PrefixValue) (expired : ℕ → Bool) (routes : List (PrefixValue × ℕ)) → IsPool pool → standing_spans pool expired (routes_in pool routes) ≡ standing_spans pool expired routes
standing_in pool expired [] is = refl
standing_in pool expired (r ∷ routes) is =
    let more = standing_in pool expired routes is in
    elim (decide (nat_le (rank (span_of pool).lo) (rank r.0.address) && nat_le (rank r.0.address) (rank (span_of pool).hi))) [
      | inl e ↦
          ap (λ b. standing_spans pool expired (cond b (r ∷ routes_in pool routes) (routes_in pool routes))) e
          ∙ kept (not (expired r.1)) more
      | inr e ↦
          ap (λ b. standing_spans pool expired (cond b (r ∷ routes_in pool routes) (routes_in pool routes))) e
          ∙ more
          ∙ sym (left_out (not (expired r.1)) (elim (decide (covers pool r.0)) [ inl t ↦ absurd (clash _ _ refl e (covered_begins pool r.0 is t)) | inr f ↦ f ]))
    ]
  where
    kept : (stays : Bool) → standing_spans pool expired (routes_in pool routes) ≡ standing_spans pool expired routes → route_spans pool (cond stays (r ∷ standing expired (routes_in pool routes)) (standing expired (routes_in pool routes))) ≡ route_spans pool (cond stays (r ∷ standing expired routes) (standing expired routes))
    kept true more = ap (λ l. if covers pool r.0 then span_of r.0 ∷ l else l) more
    kept false more = more

    left_out : (stays : Bool) → covers pool r.0 ≡ false → route_spans pool (cond stays (r ∷ standing expired routes) (standing expired routes)) ≡ standing_spans pool expired routes
    left_out true f = ap (λ b. if b then span_of r.0 ∷ standing_spans pool expired routes else standing_spans pool expired routes) f
    left_out false f = refl

-- what is lowest among spans is so among others that have the same of the pool's addresses
pub same_lowest : (pool : PrefixValue) (xs ys : List Span) (found : Option AddrValue) → ((b : AddrValue) → IsAssignable pool b → IsHeld xs b ↔ IsHeld ys b) → MatchOption found (IsFull pool xs) (IsLowestFree pool xs) → MatchOption found (IsFull pool ys) (IsLowestFree pool ys)
same_lowest pool xs ys None same full = λ a fits given. (same a given).0 (full a fits given)
same_lowest pool xs ys (Some a) same low = record {
  is_free = (low.is_free.0, low.is_free.1, λ h. low.is_free.2 ((same a low.is_free.1).1 h));
  is_least = λ b free. low.is_least b (free.0, free.1, λ h. free.2 ((same b free.1).0 h));
}

-- as the spans from the pool on are
pub merged_from : (pool : PrefixValue) (spans kept routes : List Span) → IsPool pool → kept ≡ spans_from pool.address spans → (b : AddrValue) → IsAssignable pool b → IsHeld (merged kept routes) b ↔ IsHeld (merged spans routes) b
merged_from pool spans kept routes is e b given =
    let same = subst (λ xs. IsHeld xs b ↔ IsHeld spans b) (sym e) (held_from pool.address b spans (given_from pool b is given)) in
    let m = held_merged kept routes b in
    let n = held_merged spans routes b in (
      (λ h. elim (m.0 h) [ inl i ↦ n.1 (inl (same.0 i)) | inr i ↦ n.1 (inr i) ]),
      (λ h. elim (n.0 h) [ inl i ↦ m.1 (inl (same.1 i)) | inr i ↦ m.1 (inr i) ]),
    )
