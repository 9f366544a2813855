-- A number and its 16 bytes.
use Rattle.std.proofs.Common.{◌≡◌, ◌<◌, ◌≤◌, ◌+◌, ◌*◌, ◌/◌, ◌%◌, ◌^◌, ℕ, suc, zero, List, [], ◌∷◌, length, refl, sym, subst, ap, ap₂, ◌∙◌, arith}
use Rattle.std.specs.Int.{byte_at, bytes_high_first}
use Rattle.std.specs.List.{AllByRecursion}
use Rattle.std.proofs.Math.Nat.{mul-le-mul_right, pow-suc}
use Rattle.std.proofs.lemmas.Nat.{div-mul-add, mod-mul-add}
use native.Mathlib.Nat as nat
use Rattle.sqlite.specs.declared.types.Value.TheVariants.{Blob}
use Rattle.sqlite_value.specs.Order.{bytes}
use Rattle.wgr_columns.specs.Decode.{bytes_of, number_of}

joined_16 : (a b c d e f g h i j k l m o p q n n1 n2 n3 n4 n5 n6 n7 n8 n9 n10 n11 n12 n13 n14 n15 : ℕ)
    → n ≡ a + n1 * 256 → n1 ≡ b + n2 * 256 → n2 ≡ c + n3 * 256 → n3 ≡ d + n4 * 256 → n4 ≡ e + n5 * 256 → n5 ≡ f + n6 * 256 → n6 ≡ g + n7 * 256 → n7 ≡ h + n8 * 256
    → n8 ≡ i + n9 * 256 → n9 ≡ j + n10 * 256 → n10 ≡ k + n11 * 256 → n11 ≡ l + n12 * 256 → n12 ≡ m + n13 * 256 → n13 ≡ o + n14 * 256 → n14 ≡ p + n15 * 256 → n15 ≡ q
    → q * 256 ^ 15 + p * 256 ^ 14 + o * 256 ^ 13 + m * 256 ^ 12 + l * 256 ^ 11 + k * 256 ^ 10 + j * 256 ^ 9 + i * 256 ^ 8 + h * 256 ^ 7 + g * 256 ^ 6 + f * 256 ^ 5 + e * 256 ^ 4 + d * 256 ^ 3 + c * 256 ^ 2 + b * 256 ^ 1 + a ≡ n
joined_16 a b c d e f g h i j k l m o p q n n1 n2 n3 n4 n5 n6 n7 n8 n9 n10 n11 n12 n13 n14 n15 e0 e1 e2 e3 e4 e5 e6 e7 e8 e9 e10 e11 e12 e13 e14 e15 = omega arith

byte_and_rest : (n p : ℕ) → n / p ≡ n / p % 256 + n / (p * 256) * 256
byte_and_rest n p = omega (arith, nat.div-div-eq-div-mul n p 256)

pub number_back : (n : ℕ) → n < 2 ^ 128 → number_of (bytes_of n) ≡ n
unfolding number_of bytes_of
number_back n fits =
    let low : n ≡ n % 256 + n / 256 * 256 = omega arith in
    let high : n / 256 ^ 15 ≡ n / 256 ^ 15 % 256 = omega (arith, fits) in
    joined_16 _ _ _ _ _ _ _ _ _ _ _ _ _ _ _ _ n _ _ _ _ _ _ _ _ _ _ _ _ _ _ _ low (byte_and_rest n (256 ^ 1)) (byte_and_rest n (256 ^ 2)) (byte_and_rest n (256 ^ 3)) (byte_and_rest n (256 ^ 4)) (byte_and_rest n (256 ^ 5)) (byte_and_rest n (256 ^ 6))
    (byte_and_rest n (256 ^ 7)) (byte_and_rest n (256 ^ 8)) (byte_and_rest n (256 ^ 9)) (byte_and_rest n (256 ^ 10)) (byte_and_rest n (256 ^ 11)) (byte_and_rest n (256 ^ 12)) (byte_and_rest n (256 ^ 13)) (byte_and_rest n (256 ^ 14)) high

-- ---- bytes, and the number that they are of

abbrev AreBytes : List ℕ → Type 0
AreBytes = AllByRecursion (λ b. b < 256)

-- the number whose bytes these are, the highest first
abbrev joined : List ℕ → ℕ
joined [] = 0
joined (b ∷ bs) = b * 256 ^ length bs + joined bs

joined_fits : (bs : List ℕ) → AreBytes bs → joined bs < 256 ^ length bs
joined_fits [] all = omega arith
joined_fits (b ∷ bs) (low, all) =
    let most : b * 256 ^ length bs ≤ 255 * 256 ^ length bs = mul-le-mul_right (256 ^ length bs) (omega (arith, low)) in
    let fits : b * 256 ^ length bs + joined bs < 256 ^ suc (length bs) = omega (arith, most, joined_fits bs all, pow-suc 256 (length bs)) in
    fits

byte_is : (k n : ℕ) → byte_at k n ≡ n / 256 ^ k % 256
byte_is zero n = omega arith
byte_is (suc k) n = refl

-- its bytes are these again, whatever stands above them
bytes_again : (bs : List ℕ) → AreBytes bs → (high : ℕ) → bytes_high_first (length bs) (high * 256 ^ length bs + joined bs) ≡ bs
bytes_again [] all high = refl
bytes_again (b ∷ bs) (low, all) high =
    let one = 256 ^ length bs in
    let raised : high * 256 ^ suc (length bs) ≡ high * (one * 256) = ap (λ p. high * p) (pow-suc 256 (length bs)) in
    let same : high * 256 ^ suc (length bs) + (b * one + joined bs) ≡ (high * 256 + b) * one + joined bs = grind (arith, raised) in
    let first : byte_at (length bs) ((high * 256 + b) * one + joined bs) ≡ b = byte_is (length bs) _ ∙ ap (λ m. m % 256) (div-mul-add (high * 256 + b) one (joined bs) (joined_fits bs all)) ∙ mod-mul-add high 256 b low in
    ap (bytes_high_first (suc (length bs))) same ∙ ap₂ (λ x xs. x ∷ xs) first (bytes_again bs all (high * 256 + b))

pub bytes_back : (bs : List ℕ) → length bs ≡ 16 → AreBytes bs → bytes_of (number_of bs) ≡ bs
unfolding bytes_of
bytes_back bs long all =
    let fits : joined bs < 2 ^ 128 = subst (λ k. joined bs < 256 ^ k) long (joined_fits bs all) in
    let none_above : 0 * 256 ^ length bs + joined bs ≡ joined bs = grind arith in
    let again : bytes_high_first (length bs) (joined bs) ≡ bs = subst (λ n. bytes_high_first (length bs) n ≡ bs) none_above (bytes_again bs all 0) in
    let bytes_are : bytes_of (joined bs) ≡ bs = subst (λ k. bytes_high_first k (joined bs) ≡ bs) long again in
    ap bytes_of (ap number_of (sym bytes_are) ∙ number_back (joined bs) fits) ∙ bytes_are

byte_low : (k n : ℕ) → byte_at k n < 256
byte_low zero n = omega arith
byte_low (suc k) n = omega arith

bytes_low : (k n : ℕ) → AreBytes (bytes_high_first k n)
bytes_low zero n = tt
bytes_low (suc k) n = (byte_low k n, bytes_low k n)

-- bytes of a number, of however many bits, are those of the number that they are of
pub spelled_again : (n : ℕ) → bytes_of (number_of (bytes_of n)) ≡ bytes_of n
unfolding bytes_of
spelled_again n = bytes_back (bytes_of n) refl (bytes_low 16 n)

-- what is spelled has 16 bytes
pub spelled_long : (bs : List ℕ) → Blob bs ≡ Blob (bytes_of (number_of bs)) → length bs ≡ 16
unfolding bytes_of
spelled_long bs same = ap (λ v. length (bytes v)) same
