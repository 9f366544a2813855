-- Bytes that texts don't have.
use Rattle.std.proofs.Common.{◌≡◌, ℕ, zero, suc, ◌^◌, ◌<◌, ◌≤◌, ◌+◌, ◌*◌, ◌/◌, ◌%◌, inl, inr, true, false, not, ◌==◌, List, [], ◌∷◌, ◌++◌, replicate, slice_index, decimal, codes, refl, arith}
use Rattle.std.specs.List.{All, list_all}
use Rattle.std.proofs.lemmas.Bool.Decides.{nat_tests}
use Rattle.std.proofs.lemmas.Fmt.{decimal_is_IsNumeral}
use Rattle.std.proofs.lemmas.List.Elements.{All-append, All-cons, All-from_get_or, All-head, All-nil, All-tail, All-weaker}
use Rattle.std.proofs.lemmas.List.Sums.{AllPass-from_list_all}
use Rattle.std.proofs.lemmas.Str.Parse.{digit_at}
use Rattle.std.proofs.NetLemmas.Alphabet.{All-hex_groups_text, All-ipv4_text, IsDigitOrDot, IsHexOrColon}
use Rattle.base64.specs.Rfc4648.{encode_group, encode_symbols}
use Rattle.wgr_text.specs.declared.addr.Family.{Family}
use Rattle.wgr_text.specs.declared.addr.Family.TheVariants.{V4, V6}
use Rattle.wgr_text.specs.KeyText.{key_text, symbols}
use Rattle.wgr_text.specs.Prefix.{PrefixValue}
use Rattle.wgr_text.specs.PrefixText.{canonical_number, canonical_text, groups_of_number, octets_of_number}
use Rattle.wgr_text.proofs.Bytes.{groups_small, octets_small}
use Rattle.wgr_pool.proofs.Bools.{not_true}

-- no byte of the text is `at`
abbrev pub Lacks : ℕ → List ℕ → Type 0
Lacks at text = All (λ b. (b == at) ≡ false) text

-- each byte is `low` at least
abbrev From : ℕ → List ℕ → Type 0
From low text = All (λ b. low ≤ b) text

pub lacks : (at : ℕ) (text : List ℕ) → at < 46 → From 46 text → Lacks at text
lacks at text below from = All-weaker (λ b. 46 ≤ b) (λ b. (b == at) ≡ false) (λ b h. other b at below h) text from
  where
    other : (b at : ℕ) → at < 46 → 46 ≤ b → (b == at) ≡ false
    other b at below h = grind (arith, nat_tests)

pub from_decimal : (n : ℕ) → n < 2 ^ 64 → From 46 (decimal n)
from_decimal n small = All-from_get_or (λ b. 46 ≤ b) (decimal n) 0 λ i h. let digit = digit_at (decimal n) i (decimal_is_IsNumeral n small).0.1 h in omega (arith, digit.0)

from_number : (f : Family) (n : ℕ) → From 46 (canonical_number f n)
from_number V4 n = All-weaker IsDigitOrDot (λ b. 46 ≤ b) low (canonical_number V4 n) (All-ipv4_text (octets_of_number n) (octets_small n))
  where
    low : (c : ℕ) → IsDigitOrDot c → 46 ≤ c
    low c (inl h) = omega (arith, h.0)
    low c (inr h) = omega (arith, h)
from_number V6 n = All-weaker IsHexOrColon (λ b. 46 ≤ b) low (canonical_number V6 n) (All-hex_groups_text (groups_of_number n) (groups_small n))
  where
    low : (c : ℕ) → IsHexOrColon c → 46 ≤ c
    low c (inl h) = omega (arith, h.0)
    low c (inr h) = omega (arith, h.0)

-- a length that can be written
abbrev pub IsShort : PrefixValue → Type 0
IsShort p = p.length < 2 ^ 64

pub from_prefix : (p : PrefixValue) → IsShort p → From 46 (canonical_text p)
from_prefix p short =
    let low : ℕ → Type 0 = λ b. 46 ≤ b in
    let slash : From 46 (codes "/") = All-cons low 47 [] (omega arith) (All-nil low) in
    let number = from_number p.address.family p.address.number in
    All-append low (canonical_number p.address.family p.address.number ++ codes "/") (decimal p.length)
    (All-append low (canonical_number p.address.family p.address.number) (codes "/") number slash) (from_decimal p.length short)

-- ---- a key's text is one line

abbrev Other : ℕ → Type 0
Other b = (b == 10) ≡ false

-- a text without newlines, by its bytes
pub literal : (text : List ℕ) → list_all (λ b. not (b == 10)) text ≡ true → Lacks 10 text
literal text all = All-weaker (λ b. not (b == 10) ≡ true) Other (λ b h. not_true (b == 10) h) text (AllPass-from_list_all (λ b. not (b == 10)) text all)

symbols_other : All Other symbols
symbols_other = literal symbols refl

everywhere : (xs : List ℕ) → All Other xs → (i : ℕ) → Other (slice_index xs i)
everywhere [] all i = refl
everywhere (x ∷ xs) all zero = All-head Other x xs all
everywhere (x ∷ xs) all (suc i) = everywhere xs (All-tail Other x xs all) i

symbol : (i : ℕ) → Other (slice_index symbols i)
symbol i = everywhere symbols symbols_other i

one : (i : ℕ) → Lacks 10 (slice_index symbols i ∷ [])
one i = All-cons Other (slice_index symbols i) [] (symbol i) (All-nil Other)

two : (i j : ℕ) → Lacks 10 (slice_index symbols i ∷ slice_index symbols j ∷ [])
two i j = All-cons Other (slice_index symbols i) (slice_index symbols j ∷ []) (symbol i) (one j)

three : (i j k : ℕ) → Lacks 10 (slice_index symbols i ∷ slice_index symbols j ∷ slice_index symbols k ∷ [])
three i j k = All-cons Other (slice_index symbols i) (slice_index symbols j ∷ slice_index symbols k ∷ []) (symbol i) (two j k)

four : (i j k l : ℕ) → Lacks 10 (slice_index symbols i ∷ slice_index symbols j ∷ slice_index symbols k ∷ slice_index symbols l ∷ [])
four i j k l = All-cons Other (slice_index symbols i) (slice_index symbols j ∷ slice_index symbols k ∷ slice_index symbols l ∷ []) (symbol i) (three j k l)

lacks_symbols : (m : List ℕ) → Lacks 10 (encode_symbols symbols m)
unfolding encode_symbols
lacks_symbols [] = All-nil Other
lacks_symbols (a ∷ []) = two (a / 4) (a % 4 * 16)
lacks_symbols (a ∷ b ∷ []) = three (a / 4) (a % 4 * 16 + b / 16) (b % 16 * 4)
lacks_symbols (a ∷ b ∷ c ∷ rest) =
    All-append Other (encode_group symbols a b c) (encode_symbols symbols rest)
    (four (a / 4) (a % 4 * 16 + b / 16) (b % 16 * 4 + c / 64) (c % 64)) (lacks_symbols rest)

lacks_padding : (n : ℕ) → Lacks 10 (replicate n 61)
lacks_padding zero = All-nil Other
lacks_padding (suc n) = All-cons Other 61 (replicate n 61) refl (lacks_padding n)

pub lacks_key : (key : List ℕ) → Lacks 10 (key_text key)
lacks_key key = All-append Other (encode_symbols symbols key) _ (lacks_symbols key) (lacks_padding _)
