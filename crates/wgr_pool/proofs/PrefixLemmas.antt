-- Tests of addresses and prefixes.
use Rattle.std.proofs.Common.{◌≡◌, ℕ, ◌+◌, ◌-◌, ◌*◌, ◌/◌, ◌^◌, ◌≤◌, ◌<◌, ◌↔◌, true, false, not, ◌&&◌, nat_eq, nat_lt, refl, sym, ap, ap₂, subst, ◌∙◌, inl, inr, arith}
use Rattle.std.proofs.Math.Nat.{div-div-eq-div-mul}
use Rattle.std.proofs.Math.Pow.{pow-lt}
use Rattle.std.proofs.lemmas.Bool.Decides.{nat_tests}
use Rattle.std.proofs.lemmas.Nat.{pow-add, pow_pos}
use Rattle.wgr_text.specs.declared.addr.Family.{Family}
use Rattle.wgr_text.specs.declared.addr.Family.TheVariants.{V4, V6}
use Rattle.wgr_text.specs.Prefix.{AddrValue, PrefixValue, Covers, IsAddr, IsIn, IsPrefix, block, width}
use Rattle.wgr_text.proofs.Spans.{is_in_iff, prefix_ends}
use Rattle.wgr_pool.specs.PrefixTests.{same_family, same_address, same_prefix, has, covers, full}
use Rattle.wgr_pool.proofs.Bools.{and_true, decide}

pub same_family_is : (f g : Family) → same_family f g ≡ true → f ≡ g
same_family_is V4 V4 h = refl
same_family_is V6 V6 h = refl
same_family_is V4 V6 h = cc
same_family_is V6 V4 h = cc

pub same_family_self : (f : Family) → same_family f f ≡ true
same_family_self V4 = refl
same_family_self V6 = refl

pub nat_eq_is : (m n : ℕ) → nat_eq m n ≡ true → m ≡ n
nat_eq_is m n h = grind (arith, nat_tests)

pub nat_eq_self : (n : ℕ) → nat_eq n n ≡ true
nat_eq_self n = grind (arith, nat_tests)

pub same_address_is : (a b : AddrValue) → same_address a b ≡ true → a ≡ b
same_address_is a b h =
    let both = and_true (same_family a.family b.family) (nat_eq a.number b.number) h in
    let f = same_family_is a.family b.family both.0 in
    let n = nat_eq_is a.number b.number both.1 in
    ap (λ f. record { family = f; number = a.number }) f ∙ ap (λ n. record { family = b.family; number = n }) n

pub same_address_self : (a : AddrValue) → same_address a a ≡ true
same_address_self a = ap (λ b. b && nat_eq a.number a.number) (same_family_self a.family) ∙ nat_eq_self a.number

pub same_prefix_is : (p q : PrefixValue) → same_prefix p q ≡ true → p ≡ q
same_prefix_is p q h =
    let both = and_true (same_address p.address q.address) (nat_eq p.length q.length) h in
    let a = same_address_is p.address q.address both.0 in
    let n = nat_eq_is p.length q.length both.1 in
    ap (λ a. record { address = a; length = p.length }) a ∙ ap (λ n. record { address = q.address; length = n }) n

pub same_prefix_self : (p : PrefixValue) → same_prefix p p ≡ true
same_prefix_self p = ap (λ b. b && nat_eq p.length p.length) (same_address_self p.address) ∙ nat_eq_self p.length

-- an address at full length has itself
pub full_has : (a : AddrValue) → has (full a) a ≡ true
full_has a = ap (λ b. b && nat_eq (a.number / block a.family (width a.family)) (a.number / block a.family (width a.family))) (same_family_self a.family) ∙ nat_eq_self (a.number / block a.family (width a.family))

-- a prefix that has the address covers it at full length
pub covers_full : (p : PrefixValue) (a : AddrValue) → p.length ≤ width a.family → has p a ≡ true → covers p (full a) ≡ true
covers_full p a l h =
    let longer : nat_lt (width a.family) p.length ≡ false = grind (arith, nat_tests) in
    ap (λ b. not b && has p a) longer ∙ h

-- what the tests say of the sets
pub is_in : (p : PrefixValue) (a : AddrValue) → has p a ≡ true → IsIn p a
is_in p a h =
    let both = and_true (same_family p.address.family a.family) (nat_eq (a.number / block p.address.family p.length) (p.address.number / block p.address.family p.length)) h in
    (sym (same_family_is p.address.family a.family both.0), nat_eq_is (a.number / block p.address.family p.length) (p.address.number / block p.address.family p.length) both.1)

pub has_in : (p : PrefixValue) (a : AddrValue) → IsIn p a → has p a ≡ true
has_in p a is = ap₂ (λ x y. x && y) (ap (same_family p.address.family) is.0 ∙ same_family_self p.address.family)
    (ap (λ n. nat_eq n (p.address.number / block p.address.family p.length)) is.1 ∙ nat_eq_self (p.address.number / block p.address.family p.length))

-- numbers that agree in their first bits agree in fewer of them
pub coarser : (a b x z : ℕ) → x ≤ z → a / 2 ^ x ≡ b / 2 ^ x → a / 2 ^ z ≡ b / 2 ^ z
coarser a b x z le same =
    let parts : 2 ^ z ≡ 2 ^ x * 2 ^ (z - x) = ap (λ k. 2 ^ k) (omega (arith, le)) ∙ pow-add 2 x (z - x) in
    ap (λ m. a / m) parts ∙ sym (div-div-eq-div-mul a (2 ^ x) (2 ^ (z - x))) ∙ ap (λ m. m / 2 ^ (z - x)) same
    ∙ div-div-eq-div-mul b (2 ^ x) (2 ^ (z - x)) ∙ ap (λ m. b / m) (sym parts)

-- a prefix whose last address is in another, too, is no shorter
no_shorter : (p q : PrefixValue) → IsPrefix p → IsPrefix q → IsAddr q.address → Covers p q → q.length < p.length → ⊥
no_shorter p q is_p is_q fits c shorter =
    let first = (is_in_iff p is_p q.address).0 (c q.address fits (refl, refl)) in
    let some = pow_pos (width q.address.family - q.length) in
    let ends = prefix_ends q is_q fits in
    let last : AddrValue = record { family = q.address.family; number = q.address.number + (block q.address.family q.length - 1) } in
    let inside = (is_in_iff q is_q last).1 (refl, omega (arith, some), omega (arith, some)) in
    let there = (is_in_iff p is_p last).0 (c last (omega (arith, ends, some)) inside) in
    let wider : 2 ^ (width p.address.family - p.length) < 2 ^ (width p.address.family - q.length) = pow-lt (omega (arith, shorter, is_p.0)) in
    let same : 2 ^ (width q.address.family - q.length) ≡ 2 ^ (width p.address.family - q.length) = ap (λ f. 2 ^ (width f - q.length)) first.0 in
    omega (arith, first.1, first.2, there.1, there.2, wider, same, some)

-- the test tells what one set has of another
pub covers_tells : (p q : PrefixValue) → IsPrefix p → IsPrefix q → IsAddr q.address → Covers p q ↔ (covers p q ≡ true)
covers_tells p q is_p is_q fits = (
  (λ c. elim (decide (nat_lt q.length p.length)) [
    | inl shorter ↦ absurd (no_shorter p q is_p is_q fits c (grind (arith, nat_tests, shorter)))
    | inr le ↦ ap₂ (λ x y. x && y) (ap not le) (has_in p q.address (c q.address fits (refl, refl)))
  ]),
  (λ h a here in_q.
      let both = and_true (not (nat_lt q.length p.length)) (has p q.address) h in
      let first = is_in p q.address both.1 in
      let le : width p.address.family - q.length ≤ width p.address.family - p.length = grind (arith, nat_tests, both.0) in
      let near = subst (λ f. a.number / block f q.length ≡ q.address.number / block f q.length) first.0 in_q.1 in
      (in_q.0 ∙ first.0, coarser a.number q.address.number (width p.address.family - q.length) (width p.address.family - p.length) le near ∙ first.1)),
)
