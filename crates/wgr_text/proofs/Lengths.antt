-- The decimal length at the end of a text.
use Rattle.std.proofs.Common.{◌≡◌, ◌≢◌, ℕ, ◌^◌, ◌<◌, List, length, get_or, drop, Option, Result, Ok, Err, IfSome, IfNone, decimal, sym, ap, subst, ◌∙◌, arith, inl, inr, length-drop}
use Rattle.std.specs.Result.{result_ok}
use Rattle.std.specs.Str.Parse.{IsNumeral, digits_value, without_leading_plus, ParsesUnsigned}
use Rattle.std.proofs.lemmas.Bool.{cases_lt}
use Rattle.std.proofs.lemmas.Fmt.{decimal_digit, first_decimal, decimal-digits_value, parse-decimal}
use Rattle.std.proofs.lemmas.Str.Parse.{numerals_by_value, tells_digits, without_leading_plus_none, without_leading_plus_plus}

-- a decimal of two digits or more begins with 1 to 9
pub first_of_decimal : (k : ℕ) (digits : List ℕ) → k < 2 ^ 64 → digits ≡ decimal k → 1 < length digits → 48 < get_or digits 0 0
first_of_decimal k digits small e more =
    elim (cases_lt 0 k) [
      | inl some ↦ let first = first_decimal k some small in let same = ap (λ t. get_or t 0 0) e in omega (arith, first, same)
      | inr none ↦ let one = decimal_digit k (omega arith) in absurd (omega (arith, ap length (e ∙ one)))
    ]

-- what `parse` reads of such a text is written by it
written : (digits : List ℕ) (k : ℕ) → (IsNumeral 10 (without_leading_plus digits) × (digits_value 10 (without_leading_plus digits) < 2 ^ 8)) × (k ≡ digits_value 10 (without_leading_plus digits)) → (1 < length digits → 48 < get_or digits 0 0) → digits ≡ decimal k
written digits k h plain =
    let no_plus : get_or digits 0 0 ≢ 43 = λ plus.
    let rest = without_leading_plus_plus digits plus in
    let some : 0 < length (drop 1 digits) = rw (← rest) (h.0.0.0) in
    absurd (omega (arith, length-drop 1 digits, some, plain (omega (arith, length-drop 1 digits, some)))) in
    let same = without_leading_plus_none digits no_plus in
    let number : (IsNumeral 10 digits × (digits_value 10 digits < 2 ^ 8)) × (k ≡ digits_value 10 digits) = subst (λ t. (IsNumeral 10 t × (digits_value 10 t < 2 ^ 8)) × (k ≡ digits_value 10 t)) same h in
    let alone : get_or digits 0 0 ≡ 48 → length digits ≡ 1 = λ zero_first.
    elim (cases_lt 1 (length digits)) [
      | inl more ↦ absurd (omega (arith, plain more))
      | inr one ↦ omega (arith, number.0.0.0)
    ] in
    let back = decimal-digits_value (numerals_by_value _ tells_digits) digits number.0.0.1 number.0.0.0 alone (omega (arith, number.0.1)) in
    sym back ∙ ap decimal (sym number.1)

pub written_length : {E : Type 0} (digits text : List ℕ) (r : Result ℕ E) (o : Option ℕ) → text ≡ digits → o ≡ result_ok r → ParsesUnsigned 8 10 text r → (1 < length digits → 48 < get_or digits 0 0) → IfSome o (λ k. digits ≡ decimal k)
written_length digits text (Ok k) o same is parsed plain = rw is (written digits k (subst (λ t. (IsNumeral 10 (without_leading_plus t) × (digits_value 10 (without_leading_plus t) < 2 ^ 8)) × (k ≡ digits_value 10 (without_leading_plus t))) same parsed) plain)
written_length digits text (Err e) o same is parsed plain = rw is tt

-- and each number of 8 bits is read
pub unread_length : {E : Type 0} (digits text : List ℕ) (r : Result ℕ E) (o : Option ℕ) → text ≡ digits → o ≡ result_ok r → ParsesUnsigned 8 10 text r → IfNone o ((k : ℕ) → k < 256 → digits ≢ decimal k)
unread_length digits text (Ok n) o same is parsed = rw is tt
unread_length digits text (Err e) o same is parsed = rw is (λ k small written. let ok = parse-decimal 8 k text (Err e) (omega arith) (omega arith) (same ∙ written) parsed in cc ok)
