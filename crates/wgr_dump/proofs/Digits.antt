-- Texts of digits, and what `parse` reads of them.
use Rattle.std.proofs.Common.{◌≡◌, ◌==◌, ℕ, ◌^◌, ◌<◌, ◌≤◌, true, false, List, [], ◌∷◌, length, Option, Result, Ok, Err, Some, ap, subst, ◌∙◌, arith, rules}
use Rattle.std.specs.List.{list_all}
use Rattle.std.specs.Char.{is_ascii_digit}
use Rattle.std.specs.Result.{result_ok, OkIff}
use Rattle.std.specs.Str.Parse.{AllDigits, digits_value, ParsesUnsigned}
use Rattle.std.proofs.lemmas.Str.Parse.{IsDigitsTest, IsNumeralModel, numerals_by_value, tells_digits, parse_digits, digits_value_short}

abbrev AreDigits : List ℕ → Type 0
AreDigits ds = list_all is_ascii_digit ds ≡ true

tells_digit_bytes : IsDigitsTest AreDigits
tells_digit_bytes = search rules

digit_bytes : IsNumeralModel AreDigits (digits_value 10)
digit_bytes = numerals_by_value AreDigits tells_digit_bytes

pub digits_are : (ds : List ℕ) → list_all is_ascii_digit ds ≡ true → AllDigits 10 ds
digits_are ds all = digit_bytes.to ds all

pub are_digits : (ds : List ℕ) → AllDigits 10 ds → list_all is_ascii_digit ds ≡ true
are_digits ds all = digit_bytes.from ds all

own : IsNumeralModel (AllDigits 10) (digits_value 10)
own = numerals_by_value _ tells_digits

pub number_small : (ds : List ℕ) (most : ℕ) → AllDigits 10 ds → length ds ≤ most → most ≤ 20 → digits_value 10 ds < 2 ^ 128
number_small ds most all short small =
    let bound : digits_value 10 ds < 10 ^ 20 = digits_value_short own ds 20 all (omega arith) in
    omega (arith, bound)

parsed : {E : Type 0} (ds : List ℕ) (r : Result ℕ E) (most : ℕ) → OkIff r ((0 < length ds) × (digits_value 10 ds < 2 ^ 128)) (digits_value 10 ds) → AllDigits 10 ds → 0 < length ds → length ds ≤ most → most ≤ 20 → r ≡ Ok (digits_value 10 ds)
parsed ds (Ok n) most is all some short small = ap (λ x. Ok x) is.1
parsed ds (Err e) most is all some short small = absurd (is (some, number_small ds most all short small))

-- what `parse` reads of some digits is their number
pub number_read : {E : Type 0} (ds text : List ℕ) (r : Result ℕ E) (o : Option ℕ) (most : ℕ) → text ≡ ds → o ≡ result_ok r → ParsesUnsigned 128 10 text r → list_all is_ascii_digit ds ≡ true → 0 < length ds → length ds ≤ most → most ≤ 20
    → o ≡ Some (digits_value 10 ds)
number_read ds text r o most same is h digits some short small =
    let all : AllDigits 10 ds = digits_are ds digits in
    let read : ParsesUnsigned 128 10 ds r = subst (λ t. ParsesUnsigned 128 10 t r) same h in
    is ∙ ap (λ x. result_ok x) (parsed ds r most (parse_digits own 128 ds r read all) all some short small)

pub some_digits : (ds : List ℕ) → (length ds == 0) ≡ false → 0 < length ds
some_digits [] is = cc is
some_digits (d ∷ ds) is = omega arith
