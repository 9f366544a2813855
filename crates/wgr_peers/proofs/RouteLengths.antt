-- A route that has an address is the prefix of some length that has it.
use Rattle.std.proofs.Common.{◌≡◌, ℕ, ◌+◌, ◌-◌, ◌*◌, ◌/◌, ◌^◌, ◌<◌, ◌≤◌, ◌⊎◌, inl, inr, Bool, true, false, not, ◌&&◌, ◌||◌, cond, nat_lt, [], ◌∷◌, Some, is_some, refl, sym, ap, subst, ◌∙◌, arith}
use Rattle.std.specs.List.{All}
use Rattle.std.proofs.lemmas.Bool.{cases_lt}
use Rattle.std.proofs.lemmas.Bool.Decides.{nat_tests}
use Rattle.std.proofs.lemmas.List.Elements.{All-head, All-tail}
use Rattle.std.proofs.lemmas.Nat.{pow_pos, pow-add}
use Rattle.std.proofs.Math.Nat.{div-div-eq-div-mul, mul-div_left}
use Rattle.wgr_text.specs.Prefix.{AddrValue, PrefixValue, IsPrefix, IsIn, block, mask, width}
use Rattle.wgr_text.proofs.Blocks.{block_start, masked_has}
use Rattle.wgr_pool.specs.HeldSpans.{is_routed}
use Rattle.wgr_pool.specs.PrefixTests.{same_prefix, has, covers}
use Rattle.wgr_peers.specs.Routes.{Routes, route_of}
use Rattle.wgr_pool.proofs.Bools.{decide, and_true, or_right}
use Rattle.wgr_pool.proofs.Bridge.{has_iff}
use Rattle.wgr_pool.proofs.PrefixLemmas.{same_prefix_is, same_prefix_self}

-- a number and the start of its block are in one larger block
mask_div : (n x z : ℕ) → x ≤ z → n / 2 ^ x * 2 ^ x / 2 ^ z ≡ n / 2 ^ z
mask_div n x z le =
    let parts : 2 ^ z ≡ 2 ^ x * 2 ^ (z - x) = (let j : z ≡ x + (z - x) = omega (arith, le) in ap (λ k. 2 ^ k) j ∙ pow-add 2 x (z - x)) in
    ap (λ d. n / 2 ^ x * 2 ^ x / d) parts
    ∙ sym (div-div-eq-div-mul (n / 2 ^ x * 2 ^ x) (2 ^ x) (2 ^ (z - x)))
    ∙ ap (λ m. m / 2 ^ (z - x)) (mul-div_left (n / 2 ^ x) (pow_pos x))
    ∙ div-div-eq-div-mul n (2 ^ x) (2 ^ (z - x))
    ∙ ap (λ d. n / d) (sym parts)

-- a prefix that has the address is the one of its length that has it
mask_is : (p : PrefixValue) (a : AddrValue) → IsPrefix p → IsIn p a → mask a p.length ≡ p
mask_is p a is i =
    let start : a.number / block a.family p.length * block a.family p.length ≡ p.address.number =
    ap (λ f. a.number / block f p.length * block f p.length) i.0
    ∙ ap (λ m. m * block p.address.family p.length) i.1
    ∙ block_start p.address.number (block p.address.family p.length) is.1 in
    ap (λ n. record { address = record { family = a.family; number = n }; length = p.length }) start
    ∙ ap (λ f. record { address = record { family = f; number = p.address.number }; length = p.length }) i.0

-- the prefix of a length has the address
mask_has : (a : AddrValue) (k : ℕ) → has (mask a k) a ≡ true
mask_has a k = (has_iff (mask a k) a).1 (refl, masked_has a.number (block a.family k) (pow_pos (width a.family - k)))

-- and lies in each shorter one that has it
covers_mask : (p : PrefixValue) (a : AddrValue) (k : ℕ) → has p a ≡ true → p.length ≤ k → covers p (mask a k) ≡ true
covers_mask p a k h le =
    let i = (has_iff p a).0 h in
    let shorter : nat_lt k p.length ≡ false = grind (arith, nat_tests) in
    let w = ap width i.0 in
    let inside = (has_iff p (mask a k).address).1 (i.0, mask_div a.number (width a.family - k) (width p.address.family - p.length) (omega (arith, le, w)) ∙ i.1) in
    ap (λ b. not b && has p (mask a k).address) shorter ∙ inside

-- a prefix that leads somewhere is one of the routes
pub found_routed : (pool : PrefixValue) (routes : Routes) (a : AddrValue) (k : ℕ) → has pool a ≡ true → pool.length ≤ k → is_some (route_of routes (mask a k)) ≡ true → is_routed pool routes a ≡ true
found_routed pool [] a k h le found = cc
found_routed pool (r ∷ routes) a k h le found = by (same_prefix r.0 (mask a k)) refl found (found_routed pool routes a k h le)
  where
    by : (b : Bool) → same_prefix r.0 (mask a k) ≡ b → is_some (cond b (Some r.1) (route_of routes (mask a k))) ≡ true → (is_some (route_of routes (mask a k)) ≡ true → is_routed pool routes a ≡ true) → is_routed pool (r ∷ routes) a ≡ true
    by true same found rest =
        let is = same_prefix_is r.0 (mask a k) same in
        let here : covers pool r.0 && has r.0 a ≡ true = subst (λ p. covers pool p && has p a ≡ true) (sym is) (ap (λ b. b && has (mask a k) a) (covers_mask pool a k h le) ∙ mask_has a k) in
        ap (λ b. b || is_routed pool routes a) here
    by false apart found rest = or_right (covers pool r.0 && has r.0 a) (is_routed pool routes a) (rest found)

-- where the prefix of no length leads anywhere, no route has the address
pub absent_unrouted : (pool : PrefixValue) (routes : Routes) (a : AddrValue) → All (λ r. IsPrefix r.0) routes → ((k : ℕ) → pool.length ≤ k → k ≤ width a.family → is_some (route_of routes (mask a k)) ≡ false) → is_routed pool routes a ≡ false
absent_unrouted pool [] a are absent = refl
absent_unrouted pool (r ∷ routes) a are absent =
    let rest = absent_unrouted pool routes a (All-tail (λ r. IsPrefix r.0) r routes are) (λ k lo hi. later (same_prefix r.0 (mask a k)) k (absent k lo hi)) in
    here (decide (covers pool r.0 && has r.0 a)) rest
  where
    later : (b : Bool) (k : ℕ) → is_some (cond b (Some r.1) (route_of routes (mask a k))) ≡ false → is_some (route_of routes (mask a k)) ≡ false
    later true k h = cc
    later false k h = h

    here : (covers pool r.0 && has r.0 a ≡ true) ⊎ (covers pool r.0 && has r.0 a ≡ false) → is_routed pool routes a ≡ false → is_routed pool (r ∷ routes) a ≡ false
    here (inr f) rest = ap (λ b. b || is_routed pool routes a) f ∙ rest
    here (inl t) rest =
        let is = All-head (λ r. IsPrefix r.0) r routes are in
        let both = and_true (covers pool r.0) (has r.0 a) t in
        let i = (has_iff r.0 a).0 both.1 in
        let longer : pool.length ≤ r.0.length = (let l = (and_true (not (nat_lt r.0.length pool.length)) (has pool r.0.address) both.0).0 in grind (arith, nat_tests)) in
        let w = ap width i.0 in
        let l = is.0 in
        let miss = absent r.0.length longer (omega (arith, l, w)) in
        let same : same_prefix r.0 (mask a r.0.length) ≡ true = subst (λ p. same_prefix r.0 p ≡ true) (sym (mask_is r.0 a is i)) (same_prefix_self r.0) in
        let bad : true ≡ false = sym (ap (λ b. is_some (cond b (Some r.1) (route_of routes (mask a r.0.length)))) same) ∙ miss in
        cc

-- the lengths that lead nowhere, and one more
pub absent_next : (routes : Routes) (a : AddrValue) (from n : ℕ) → ((k : ℕ) → from ≤ k → k < n → is_some (route_of routes (mask a k)) ≡ false) → is_some (route_of routes (mask a n)) ≡ false
    → (k : ℕ) → from ≤ k → k ≤ n → is_some (route_of routes (mask a k)) ≡ false
absent_next routes a from n absent miss k lo hi = elim (cases_lt k n) [
  | inl l ↦ absent k lo l
  | inr g ↦ let last : k ≡ n = omega (arith, g, hi) in subst (λ m. is_some (route_of routes (mask a m)) ≡ false) (sym last) miss
]
