-- The numbers of peers, as they stand in a path.
use Rattle.std.proofs.Common.{◌≡◌, ◌≢◌, ℕ, ◌^◌, ◌<◌, ◌≤◌, List, [], ◌∷◌, length, get_or, slice_get, Bool, true, false, cond, ◌&&◌, Some, None, Err, decimal, refl, sym, ap, subst, ◌∙◌, arith, inl, inr}
use Rattle.std.specs.Prelude.{nat_le, bytes_eq}
use Rattle.std.specs.Str.Parse.{IsNumeral, digits_value, without_leading_plus, ParsesUnsigned}
use Rattle.std.proofs.lemmas.Bool.{cases_lt, leb-true, le-leb}
use Rattle.std.proofs.lemmas.Fmt.{decimal_digit, first_decimal, decimal-digits_value, parse-decimal}
use Rattle.std.proofs.lemmas.Slice.Eq.{bytes_eq-Decides}
use Rattle.std.proofs.lemmas.Str.Parse.{numerals_by_value, tells_digits, without_leading_plus_none}
use Rattle.wgr_request.specs.Target.{peer_number_of}

-- nothing is chosen unless all three tests hold
none_unless : (a b c : Bool) (n : ℕ) → (a ≡ true → b ≡ true → c ≡ true → ⊥) → None ≡ cond (a && b && c) (Some n) None
none_unless true true true n lacks = absurd (lacks refl refl refl)
none_unless true true false n lacks = refl
none_unless true false c n lacks = refl
none_unless false b c n lacks = refl

chosen : (a b c : Bool) (n : ℕ) → a ≡ true → b ≡ true → c ≡ true → Some n ≡ cond (a && b && c) (Some n) None
chosen a b c n x y z = rw (x, y, z) refl

-- no number begins with a byte up to `0`
pub no_number : (text : List ℕ) → get_or text 0 0 ≤ 48 → None ≡ peer_number_of text
no_number text low =
    let n = digits_value 10 text in
    none_unless (nat_le 1 n) (nat_le n 1000000) (bytes_eq text (decimal n)) n λ least most same.
    let written : text ≡ decimal n = (bytes_eq-Decides text (decimal n)).0 same in
    let first = first_decimal n (omega (arith, leb-true 1 n least)) (omega (arith, leb-true n 1000000 most)) in
    absurd (omega (arith, low, first, ap (λ t. get_or t 0 0) written))

-- what isn't read is no number
pub unread : {E : Type 0} (text : List ℕ) (e : E) → ParsesUnsigned 32 10 text (Err e) → None ≡ peer_number_of text
unread text e parsed =
    let n = digits_value 10 text in
    none_unless (nat_le 1 n) (nat_le n 1000000) (bytes_eq text (decimal n)) n λ least most same.
    let written : text ≡ decimal n = (bytes_eq-Decides text (decimal n)).0 same in
    let small = leb-true n 1000000 most in
    let ok = parse-decimal 32 n text (Err e) (omega (arith, small)) (omega (arith, small)) written parsed in cc ok

-- what `parse` reads
abbrev Spells : List ℕ → ℕ → Type 0
Spells text k = (IsNumeral 10 (without_leading_plus text) × (digits_value 10 (without_leading_plus text) < 2 ^ 32)) × (k ≡ digits_value 10 (without_leading_plus text))

-- what is read of digits that begin with 1 to 9 is their number
read_as : (text : List ℕ) (k : ℕ) → 48 < get_or text 0 0 → Spells text k → (text ≡ decimal k) × (k ≡ digits_value 10 text)
read_as text k high h =
    let no_plus : get_or text 0 0 ≢ 43 = λ plus. absurd (omega (arith, high, plus)) in
    let same = without_leading_plus_none text no_plus in
    let number : (IsNumeral 10 text × (digits_value 10 text < 2 ^ 32)) × (k ≡ digits_value 10 text) = subst (λ t. (IsNumeral 10 t × (digits_value 10 t < 2 ^ 32)) × (k ≡ digits_value 10 t)) same h in
    let alone : get_or text 0 0 ≡ 48 → length text ≡ 1 = λ zero_first. absurd (omega (arith, high, zero_first)) in
    let back = decimal-digits_value (numerals_by_value _ tells_digits) text number.0.0.1 number.0.0.0 alone (omega (arith, number.0.1)) in
    (sym back ∙ ap decimal (sym number.1), number.1)

pub number_read : (text : List ℕ) (k : ℕ) → 48 < get_or text 0 0 → Spells text k → k ≤ 1000000 → Some k ≡ peer_number_of text
number_read text k high h most =
    let is = read_as text k high h in
    let some : 1 ≤ k = elim (cases_lt 0 k) [
      | inl more ↦ omega (arith, more)
      | inr none ↦ let one = decimal_digit k (omega (arith, none)) in absurd (omega (arith, high, none, ap (λ t. get_or t 0 0) (is.0 ∙ one)))
    ] in
    rw (← is.1) (chosen (nat_le 1 k) (nat_le k 1000000) (bytes_eq text (decimal k)) k (le-leb 1 k some) (le-leb k 1000000 most) ((bytes_eq-Decides text (decimal k)).1 is.0))

pub too_great : (text : List ℕ) (k : ℕ) → 48 < get_or text 0 0 → Spells text k → 1000000 < k → None ≡ peer_number_of text
too_great text k high h more =
    let is = read_as text k high h in
    let n = digits_value 10 text in
    none_unless (nat_le 1 n) (nat_le n 1000000) (bytes_eq text (decimal n)) n λ least most same.
    absurd (omega (arith, more, is.1, leb-true n 1000000 most))

-- the first byte of a text
pub first_byte : (text : List ℕ) (b : ℕ) → Some b ≡ slice_get text 0 → get_or text 0 0 ≡ b
first_byte [] b is = cc is
first_byte (x ∷ xs) b is = cc is
