-- Octets and groups of a number.
use Rattle.std.proofs.Common.{◌≡◌, ℕ, zero, suc, ◌+◌, ◌-◌, ◌*◌, ◌/◌, ◌%◌, ◌^◌, ◌<◌, List, [], ◌∷◌, length, get_or, refl, ap, ◌∙◌, arith}
use Rattle.std.specs.Int.{w128, to_be_bytes, from_be_bytes, byte_at, bytes_high_first}
use Rattle.std.specs.Net.Addr.{segments_of, octets_of}
use Rattle.std.proofs.lemmas.Nat.{from_be_bytes-to_be_bytes_4}
use Rattle.std.proofs.Math.Nat.{div-div-eq-div-mul}
use Rattle.wgr_text.specs.PrefixText.{number_of_octets, number_of_groups, octets_of_number, groups_of_number}

byte_small : (k n : ℕ) → byte_at k n < 256
byte_small zero n = omega arith
byte_small (suc k) n = omega arith

bytes_small : (count n k : ℕ) → get_or (bytes_high_first count n) k 0 < 256
bytes_small zero n k = omega arith
bytes_small (suc count) n zero = byte_small count n
bytes_small (suc count) n (suc k) = bytes_small count n k

pub length-octets : (n : ℕ) → length (octets_of_number n) ≡ 4
unfolding octets_of_number
length-octets n = refl

pub octets_small : (n k : ℕ) → get_or (octets_of_number n) k 0 < 2 ^ 8
unfolding octets_of_number
octets_small n k = bytes_small 4 n k

pub octets_back : (n : ℕ) → n < 2 ^ 32 → number_of_octets (octets_of_number n) ≡ n
unfolding octets_of_number number_of_octets
octets_back n fits = from_be_bytes-to_be_bytes_4 n fits

-- pairs of bytes as groups, and back
pairs : (bytes : List ℕ) (half : ℕ) → length bytes ≡ half + half → ((k : ℕ) → get_or bytes k 0 < 256) → octets_of (segments_of bytes) ≡ bytes
pairs [] half even small = refl
pairs (a ∷ []) half even small = absurd (omega arith)
pairs (a ∷ b ∷ bytes) half even small =
    let low = small 1 in
    let high : (a * 256 + b) / 256 ≡ a = omega arith in
    let rest : (a * 256 + b) % 256 ≡ b = omega arith in
    let later = pairs bytes (half - 1) (omega arith) (λ k. small (suc (suc k))) in
    rw (high, rest, later)

groups_small_of : (bytes : List ℕ) (k : ℕ) → ((j : ℕ) → get_or bytes j 0 < 256) → get_or (segments_of bytes) k 0 < 2 ^ 16
groups_small_of [] k small = omega arith
groups_small_of (a ∷ []) k small = omega arith
groups_small_of (a ∷ b ∷ bytes) zero small = let high = small 0 in let low = small 1 in omega arith
groups_small_of (a ∷ b ∷ bytes) (suc k) small = groups_small_of bytes k (λ j. small (suc (suc j)))

pub length-groups : (n : ℕ) → length (groups_of_number n) ≡ 8
unfolding groups_of_number
length-groups n = refl

pub groups_small : (n k : ℕ) → get_or (groups_of_number n) k 0 < 2 ^ 16
unfolding groups_of_number
groups_small n k = groups_small_of (to_be_bytes w128 n) k (λ j. bytes_small 16 n j)

-- a byte of a number, and the number above it
byte_and_rest : (n p : ℕ) → n / p ≡ n / p % 256 + n / (p * 256) * 256
byte_and_rest n p = omega (arith, div-div-eq-div-mul n p 256)

-- eight digits in base 256 below a multiple of 2 ^ 64
low_half : (a b c d e f g h n p q r s t u v w : ℕ) → n ≡ a + p * 256 → p ≡ b + q * 256 → q ≡ c + r * 256 → r ≡ d + s * 256
    → s ≡ e + t * 256 → t ≡ f + u * 256 → u ≡ g + v * 256 → v ≡ h + w * 256
    → a + b * 256 ^ 1 + c * 256 ^ 2 + d * 256 ^ 3 + e * 256 ^ 4 + f * 256 ^ 5 + g * 256 ^ 6 + h * 256 ^ 7 + w * 256 ^ 8 ≡ n
low_half a b c d e f g h n p q r s t u v w at_0 at_1 at_2 at_3 at_4 at_5 at_6 at_7 = omega arith

both_halves : (a b c d e f g h i j k l m n o p high number : ℕ)
    → p + o * 256 ^ 1 + n * 256 ^ 2 + m * 256 ^ 3 + l * 256 ^ 4 + k * 256 ^ 5 + j * 256 ^ 6 + i * 256 ^ 7 + high * 256 ^ 8 ≡ number
    → h + g * 256 ^ 1 + f * 256 ^ 2 + e * 256 ^ 3 + d * 256 ^ 4 + c * 256 ^ 5 + b * 256 ^ 6 + a * 256 ^ 7 + 0 * 256 ^ 8 ≡ high
    → a * 256 ^ 15 + b * 256 ^ 14 + c * 256 ^ 13 + d * 256 ^ 12 + e * 256 ^ 11 + f * 256 ^ 10 + g * 256 ^ 9 + h * 256 ^ 8
    + i * 256 ^ 7 + j * 256 ^ 6 + k * 256 ^ 5 + l * 256 ^ 4 + m * 256 ^ 3 + n * 256 ^ 2 + o * 256 ^ 1 + p ≡ number
both_halves a b c d e f g h i j k l m n o p high number low up = omega arith

wide_back : (n : ℕ) → n < 2 ^ 128 → from_be_bytes w128 (to_be_bytes w128 n) ≡ n
wide_back n fits =
    let lowest : n ≡ n % 256 + n / 256 ^ 1 * 256 = omega arith in
    let top : n / 256 ^ 15 ≡ n / 256 ^ 15 % 256 + 0 * 256 = omega arith in
    let low = low_half _ _ _ _ _ _ _ _ n _ _ _ _ _ _ _ _ lowest (byte_and_rest n (256 ^ 1)) (byte_and_rest n (256 ^ 2)) (byte_and_rest n (256 ^ 3)) (byte_and_rest n (256 ^ 4)) (byte_and_rest n (256 ^ 5)) (byte_and_rest n (256 ^ 6)) (byte_and_rest n (256 ^ 7)) in
    let high = low_half _ _ _ _ _ _ _ _ (n / 256 ^ 8) _ _ _ _ _ _ _ 0 (byte_and_rest n (256 ^ 8)) (byte_and_rest n (256 ^ 9)) (byte_and_rest n (256 ^ 10)) (byte_and_rest n (256 ^ 11)) (byte_and_rest n (256 ^ 12)) (byte_and_rest n (256 ^ 13)) (byte_and_rest n (256 ^ 14)) top in
    both_halves _ _ _ _ _ _ _ _ _ _ _ _ _ _ _ _ (n / 256 ^ 8) n low high

pub groups_back : (n : ℕ) → n < 2 ^ 128 → number_of_groups (groups_of_number n) ≡ n
unfolding groups_of_number number_of_groups
groups_back n fits = ap (from_be_bytes w128) (pairs (to_be_bytes w128 n) 8 refl (λ k. bytes_small 16 n k)) ∙ wide_back n fits
