-- No free address is lower than the lowest.
use Rattle.std.proofs.Common.{◌≡◌, ℕ, zero, suc, ◌+◌, ◌-◌, ◌<◌, ◌≤◌, inl, inr, Bool, true, false, not, ◌&&◌, Option, Some, None, refl, ap, subst, arith}
use Rattle.std.proofs.lemmas.Bool.{cases_lt}
use Rattle.std.proofs.lemmas.Bool.Decides.{nat_tests}
use Rattle.wgr_text.specs.declared.addr.Family.{Family}
use Rattle.wgr_text.specs.Prefix.{AddrValue, block}
use Rattle.wgr_pool.specs.Pool.{reserved}
use Rattle.wgr_pool.specs.PrefixTests.{same_family}
use Rattle.wgr_pool.proofs.PrefixLemmas.{same_family_is}
use Rattle.wgr_pool.specs.Allot.{is_assignable, first_from}
use Rattle.wgr_core.specs.Network.{NetworkValue, is_held, lowest_free}
use Rattle.wgr_pool.proofs.Bools.{and_false, not_false}

-- nothing before the first that passes does
pub first_below : (f : Family) (passes : AddrValue → Bool) (start count : ℕ) (a : AddrValue) (k : ℕ) → first_from f passes start count ≡ Some a → start ≤ k → k < a.number → passes (record { family = f; number = k }) ≡ false
first_below f passes start zero a k h from below = cc
first_below f passes start (suc count) a k h from below = step (passes (record { family = f; number = start })) refl h (λ rest on. first_below f passes (start + 1) count a k rest on below)
  where
    step : (b : Bool) → passes (record { family = f; number = start }) ≡ b → (elim b [ true ↦ Some (record { family = f; number = start }) | false ↦ first_from f passes (start + 1) count ]) ≡ Some a
        → (first_from f passes (start + 1) count ≡ Some a → start + 1 ≤ k → passes (record { family = f; number = k }) ≡ false) → passes (record { family = f; number = k }) ≡ false
    step true is h later = let e : record { family = f; number = start } ≡ a = cc in absurd (omega (arith, ap (λ (x : AddrValue). x.number) e, from, below))
    step false is h later = elim (cases_lt start k) [
      | inl on ↦ later h (omega (arith, on))
      | inr here ↦ let same : start ≡ k = omega (arith, here, from) in subst (λ k. passes (record { family = f; number = k }) ≡ false) same is
    ]

pub lowest_is_least : (n : NetworkValue) (a : AddrValue) (k : ℕ) → lowest_free n n.pool ≡ Some a → n.pool.address.number ≤ k → k < a.number
    → is_assignable n.pool (record n.pool.address { number = k }) ≡ true → is_held n n.pool (record n.pool.address { number = k }) ≡ true
lowest_is_least n a k h from below given =
    let b : AddrValue = record n.pool.address { number = k } in
    let fails = first_below n.pool.address.family (λ a. is_assignable n.pool a && not (is_held n n.pool a)) n.pool.address.number (block n.pool.address.family n.pool.length) a k h from below in
    not_false (is_held n n.pool b) (and_false (is_assignable n.pool b) (not (is_held n n.pool b)) given fails)

-- where none is found, none of them passes
none_passes : (f : Family) (passes : AddrValue → Bool) (start count k : ℕ) → first_from f passes start count ≡ None → start ≤ k → k < start + count → passes (record { family = f; number = k }) ≡ false
none_passes f passes start zero k h from below = absurd (omega (arith, from, below))
none_passes f passes start (suc count) k h from below = step (passes (record { family = f; number = start })) refl h (λ rest on. none_passes f passes (start + 1) count k rest on (omega (arith, below)))
  where
    step : (b : Bool) → passes (record { family = f; number = start }) ≡ b → ◌≡◌ {A = Option AddrValue} (elim b [ true ↦ Some (record { family = f; number = start }) | false ↦ first_from f passes (start + 1) count ]) None
        → (first_from f passes (start + 1) count ≡ None → start + 1 ≤ k → passes (record { family = f; number = k }) ≡ false) → passes (record { family = f; number = k }) ≡ false
    step true is h later = cc
    step false is h later = elim (cases_lt start k) [
      | inl on ↦ later h (omega (arith, on))
      | inr here ↦ let same : start ≡ k = omega (arith, here, from) in subst (λ k. passes (record { family = f; number = k }) ≡ false) same is
    ]

pub none_is_full : (n : NetworkValue) (a : AddrValue) → lowest_free n n.pool ≡ None → is_assignable n.pool a ≡ true → is_held n n.pool a ≡ true
none_is_full n a none given =
    let pool = n.pool in
    let same : same_family pool.address.family a.family ≡ true = grind arith in
    let low : pool.address.number + 2 ≤ a.number = grind (arith, nat_tests) in
    let high : a.number < pool.address.number + block pool.address.family pool.length - reserved pool.address.family = grind (arith, nat_tests) in
    let is : record { family = pool.address.family; number = a.number } ≡ a = ap (λ f. record { family = f; number = a.number }) (same_family_is pool.address.family a.family same) in
    let fails = subst (λ (b : AddrValue). (is_assignable pool b && not (is_held n n.pool b)) ≡ false) is
    (none_passes pool.address.family (λ b. is_assignable pool b && not (is_held n n.pool b)) pool.address.number (block pool.address.family pool.length) a.number none (omega (arith, low)) (omega (arith, high))) in
    not_false (is_held n n.pool a) (and_false (is_assignable pool a) (not (is_held n n.pool a)) given fails)
