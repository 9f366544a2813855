use Rattle.std.proofs.Common.{◌≡◌, ℕ, ◌+◌, ◌-◌, ◌*◌, ◌/◌, ◌%◌, ◌^◌, ◌<◌, ◌≤◌, ◌↔◌, arith, sym, ap, ◌∙◌}
use Rattle.std.proofs.lemmas.Nat.{pow_pos, pow-add}
use Rattle.std.proofs.Math.Nat.{div-mul-le_self, lt-div-mul-add, div-add-mod, div-eq_of_lt-le, mul-div_left, mul-mod_left, div-lt_iff_lt-mul, mul-le-mul_right, mul_comm}

-- the start of a block is its number times its length
pub block_start : (n b : ℕ) → n % b ≡ 0 → n / b * b ≡ n
block_start n b e = let d = div-add-mod n b in let m = mul_comm b (n / b) in omega (arith, d, m, e)

-- a number is in the block of `n`, of length `b`, if it is from `n` on and below its end
pub in_block : (n a b : ℕ) → 0 < b → n % b ≡ 0 → (a / b ≡ n / b) ↔ ((n ≤ a) × (a < n + b))
in_block n a b h e =
    let s = block_start n b e in (
      (λ same. let lo = div-mul-le_self a b in let hi = lt-div-mul-add {a = a} {b = b} h in let q = ap (λ x. x * b) same in (omega (arith, lo, q, s), omega (arith, hi, q, s))),
      (λ w. let lo : n / b * b ≤ a = omega (arith, s, w.0) in let hi : a < (n / b + 1) * b = omega (arith, s, w.1) in div-eq_of_lt-le b lo hi),
    )

pub block_ends : (n w k : ℕ) → k ≤ w → n < 2 ^ w → n % 2 ^ k ≡ 0 → n + 2 ^ k ≤ 2 ^ w
block_ends n w k h l e =
    let s = block_start n (2 ^ k) e in
    let p : 2 ^ w ≡ 2 ^ (w - k) * 2 ^ k = let j : w ≡ w - k + k = omega arith in ap (λ x. 2 ^ x) j ∙ pow-add 2 (w - k) k in
    let q : n < 2 ^ (w - k) * 2 ^ k = omega (arith, p, l) in
    let r : n / 2 ^ k < 2 ^ (w - k) = (div-lt_iff_lt-mul {k = 2 ^ k} {x = n} {y = 2 ^ (w - k)} (pow_pos k)).1 q in
    let t : (n / 2 ^ k + 1) * 2 ^ k ≤ 2 ^ (w - k) * 2 ^ k = mul-le-mul_right (2 ^ k) (omega (arith, r)) in
    omega (arith, t, s, p)

pub masked_is_prefix : (n b : ℕ) → (n / b * b) % b ≡ 0
masked_is_prefix n b = mul-mod_left (n / b) b

pub masked_has : (n b : ℕ) → 0 < b → n / b ≡ (n / b * b) / b
masked_has n b h = sym (mul-div_left (n / b) h)
