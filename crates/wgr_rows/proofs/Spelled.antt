-- Numbers and their bytes stand in one order.
use Rattle.std.proofs.Common.{◌≡◌, ℕ, pos, zero, suc, ◌+◌, ◌*◌, ◌/◌, ◌%◌, ◌^◌, ◌<◌, ◌≤◌, nat_le, Less, Equal, Greater, inl, inr, sym, ap, ap₂, ◌∙◌, arith}
use Rattle.std.specs.Ordering.{int_cmp, nat_cmp, ordering_then, is_ge, is_le}
use Rattle.std.specs.Cmp.{nat_cmp_is}
use Rattle.std.specs.Cmp.Lexicographic.{slice_cmp}
use Rattle.std.specs.Int.{bytes_high_first, byte_at}
use Rattle.std.proofs.lemmas.Bool.{cases_lt}
use Rattle.std.proofs.lemmas.Bool.Decides.{nat_tests}
use Rattle.std.proofs.Math.Arith.{mod-mul}
use Rattle.std.proofs.Math.Nat.{mod-lt, mod-eq_of_lt, mul-le-mul_right, pow-succ'}
use Rattle.sqlite.specs.declared.types.Value.TheVariants.{Int, Blob}
use Rattle.sqlite.specs.Collation.TheVariants.{Binary}
use Rattle.sqlite.specs.Ops.{binary, is_true}
use Rattle.sqlite_sql.specs.declared.ops.BinaryOp.TheVariants.{Compare}
use Rattle.sqlite_sql.specs.declared.ops.CompareOp.TheVariants.{Ge, Le}
use Rattle.sqlite_value.proofs.OrderLemmas.{value_cmp-Blob, value_cmp-Int}
use Rattle.sqlite_value.specs.Order.{value_cmp}
use Rattle.wgr_sql.proofs.Values.{truth_of}
use Rattle.wgr_columns.specs.Decode.{bytes_of, number_of}

below : (x y : ℕ) → x < y → nat_cmp x y ≡ Less
below x y l = sym (nat_cmp_is x y Less l)

above : (x y : ℕ) → y < x → nat_cmp x y ≡ Greater
above x y l = sym (nat_cmp_is x y Greater l)

tied : (x y : ℕ) → x ≡ y → nat_cmp x y ≡ Equal
tied x y e = sym (nat_cmp_is x y Equal e)

higher : (p a b r s : ℕ) → r < p → a < b → a * p + r < b * p + s
higher p a b r s low l =
    let more : suc a * p ≤ b * p = mul-le-mul_right p (omega (arith, l)) in
    let one : suc a * p ≡ a * p + p = omega arith in
    omega (arith, low, more, one)

-- two digits decide, the higher first
digits : (p a b r s : ℕ) → r < p → s < p → ordering_then (nat_cmp a b) (nat_cmp r s) ≡ nat_cmp (a * p + r) (b * p + s)
digits p a b r s low low' = elim (cases_lt a b) [
  | inl l ↦ ap (λ o. ordering_then o (nat_cmp r s)) (below a b l) ∙ sym (below (a * p + r) (b * p + s) (higher p a b r s low l))
  | inr g ↦ elim (cases_lt b a) [
    | inl l ↦ ap (λ o. ordering_then o (nat_cmp r s)) (above a b l) ∙ sym (above (a * p + r) (b * p + s) (higher p b a s r low' l))
    | inr h ↦
        let same : a ≡ b = omega (arith, g, h) in
        ap (λ o. ordering_then o (nat_cmp r s)) (tied a b same) ∙ rest same
  ]
]
  where
    rest : a ≡ b → nat_cmp r s ≡ nat_cmp (a * p + r) (b * p + s)
    rest same =
        let to : a * p ≡ b * p = ap (λ x. x * p) same in
        elim (cases_lt r s) [
          | inl l ↦ below r s l ∙ sym (below (a * p + r) (b * p + s) (omega (arith, l, to)))
          | inr g ↦ elim (cases_lt s r) [
            | inl l ↦ above r s l ∙ sym (above (a * p + r) (b * p + s) (omega (arith, l, to)))
            | inr h ↦ tied r s (omega (arith, g, h)) ∙ sym (tied (a * p + r) (b * p + s) (omega (arith, g, h, to)))
          ]
        ]

some : (k : ℕ) → 0 < 256 ^ k
some zero = omega arith
some (suc k) = let more = some k in let e = pow-succ' 256 k in omega (arith, more, e)

-- byte k of a number, and the bytes below it
split : (k n : ℕ) → byte_at k n * 256 ^ k + n % 256 ^ k ≡ n % 256 ^ suc k
split zero n = let e = pow-succ' 256 0 in let one : n % 256 ^ 0 ≡ 0 = omega arith in omega (arith, e, one)
split (suc k) n = sym (ap (λ m. n % m) (pow-succ' 256 (suc k)) ∙ mod-mul n (omega arith) (some (suc k)))

bytes_order : (k m n : ℕ) → slice_cmp nat_cmp (bytes_high_first k m) (bytes_high_first k n) ≡ nat_cmp (m % 256 ^ k) (n % 256 ^ k)
bytes_order zero m n = sym (tied (m % 256 ^ 0) (n % 256 ^ 0) (omega arith))
bytes_order (suc k) m n =
    ap (ordering_then (nat_cmp (byte_at k m) (byte_at k n))) (bytes_order k m n)
    ∙ digits (256 ^ k) (byte_at k m) (byte_at k n) (m % 256 ^ k) (n % 256 ^ k) (mod-lt m (some k)) (mod-lt n (some k))
    ∙ ap₂ nat_cmp (split k m) (split k n)

pub spelled_order : (m n : ℕ) → m < 2 ^ 128 → n < 2 ^ 128 → slice_cmp nat_cmp (bytes_of m) (bytes_of n) ≡ nat_cmp m n
unfolding bytes_of
spelled_order m n low low' = bytes_order 16 m n ∙ ap₂ nat_cmp (mod-eq_of_lt {n = m} {m = 256 ^ 16} (omega (arith, low))) (mod-eq_of_lt {n = n} {m = 256 ^ 16} (omega (arith, low')))

pub spelled_cmp : (m n : ℕ) → m < 2 ^ 128 → n < 2 ^ 128 → value_cmp (Blob (bytes_of m)) (Blob (bytes_of n)) ≡ nat_cmp m n
spelled_cmp m n low low' = value_cmp-Blob (bytes_of m) (bytes_of n) ∙ spelled_order m n low low'

-- column >= ?, where both are numbers
pub at_least : (m n : ℕ) → is_true (binary (Compare Ge Binary) (Int (pos m)) (Int (pos n))) ≡ nat_le n m
unfolding binary
at_least m n = truth_of _ ∙ ap is_ge (value_cmp-Int (pos m) (pos n)) ∙ same m n
  where
    same : (m n : ℕ) → is_ge (int_cmp (pos m) (pos n)) ≡ nat_le n m
    same m n = grind (arith)

-- column <= ?
pub at_most : (m n : ℕ) → is_true (binary (Compare Le Binary) (Int (pos m)) (Int (pos n))) ≡ nat_le m n
unfolding binary
at_most m n = truth_of _ ∙ ap is_le (value_cmp-Int (pos m) (pos n)) ∙ same m n
  where
    same : (m n : ℕ) → is_le (int_cmp (pos m) (pos n)) ≡ nat_le m n
    same m n = grind (arith)

-- column >= ?, where both are addresses
pub from_spelled : (m n : ℕ) → m < 2 ^ 128 → n < 2 ^ 128 → is_true (binary (Compare Ge Binary) (Blob (bytes_of m)) (Blob (bytes_of n))) ≡ nat_le n m
unfolding binary
from_spelled m n low low' = truth_of _ ∙ ap is_ge (spelled_cmp m n low low') ∙ same m n
  where
    same : (m n : ℕ) → is_ge (nat_cmp m n) ≡ nat_le n m
    same m n = grind (arith, nat_tests)

-- column <= ?
pub to_spelled : (m n : ℕ) → m < 2 ^ 128 → n < 2 ^ 128 → is_true (binary (Compare Le Binary) (Blob (bytes_of m)) (Blob (bytes_of n))) ≡ nat_le m n
unfolding binary
to_spelled m n low low' = truth_of _ ∙ ap is_le (spelled_cmp m n low low') ∙ same m n
  where
    same : (m n : ℕ) → is_le (nat_cmp m n) ≡ nat_le m n
    same m n = grind (arith, nat_tests)

sixteen : (a b c d e f g h i j k l m o p q : ℕ) → a < 256 → b < 256 → c < 256 → d < 256 → e < 256 → f < 256 → g < 256 → h < 256 → i < 256 → j < 256 → k < 256 → l < 256 → m < 256 → o < 256 → p < 256 → q < 256
    → q * 256 ^ 15 + p * 256 ^ 14 + o * 256 ^ 13 + m * 256 ^ 12 + l * 256 ^ 11 + k * 256 ^ 10 + j * 256 ^ 9 + i * 256 ^ 8 + h * 256 ^ 7 + g * 256 ^ 6 + f * 256 ^ 5 + e * 256 ^ 4 + d * 256 ^ 3 + c * 256 ^ 2 + b * 256 ^ 1 + a < 2 ^ 128
sixteen a b c d e f g h i j k l m o p q ha hb hc hd he hf hg hh hi hj hk hl hm ho hp hq = omega (arith, ha, hb, hc, hd, he, hf, hg, hh, hi, hj, hk, hl, hm, ho, hp, hq)

byte : (n : ℕ) → n % 256 < 256
byte n = mod-lt n (omega arith)

-- what is read of a number's bytes is below 2 ^ 128
pub read_small : (n : ℕ) → number_of (bytes_of n) < 2 ^ 128
unfolding number_of bytes_of
read_small n = sixteen _ _ _ _ _ _ _ _ _ _ _ _ _ _ _ _ (byte n) (byte (n / 256 ^ 1)) (byte (n / 256 ^ 2)) (byte (n / 256 ^ 3)) (byte (n / 256 ^ 4)) (byte (n / 256 ^ 5)) (byte (n / 256 ^ 6)) (byte (n / 256 ^ 7))
    (byte (n / 256 ^ 8)) (byte (n / 256 ^ 9)) (byte (n / 256 ^ 10)) (byte (n / 256 ^ 11)) (byte (n / 256 ^ 12)) (byte (n / 256 ^ 13)) (byte (n / 256 ^ 14)) (byte (n / 256 ^ 15))
