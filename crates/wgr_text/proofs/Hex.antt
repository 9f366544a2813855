-- The short text of one group, and of groups with colons.
use Rattle.std.proofs.Common.{◌≡◌, ◌≢◌, ℕ, suc, ◌/◌, ◌%◌, ◌^◌, ◌<◌, ◌≤◌, List, [], ◌∷◌, ◌++◌, All, refl, sym, ap, ap₂, ◌∙◌, arith, inl, inr, le-leb, append_assoc, append-nil}
use Rattle.std.proofs.lemmas.Bool.{cases_lt, lt-leb}
use Rattle.std.proofs.lemmas.Bool.Decides.{nat_tests}
use Rattle.std.proofs.lemmas.List.Elements.{All-nil, All-cons, All-head}
use Rattle.std.specs.Char.{digit_value, digit_char}
use Rattle.std.specs.Net.Text.{hex, groups_text}
use Rattle.std.proofs.NetLemmas.Texts.{AllSegments}
use Rattle.wgr_text.specs.Canonical.{IsLowerHex, IsShortGroup, AreShortGroups}

hex_1 : (n : ℕ) → n < 0x10 → hex n ≡ digit_char (n % 16) ∷ []
unfolding hex
hex_1 n h₁ = let h₂ : n < 0x100 = omega arith in let h₃ : n < 0x1000 = omega arith in rw (lt-leb _ n h₃, lt-leb _ n h₂, lt-leb _ n h₁)

hex_2 : (n : ℕ) → 0x10 ≤ n → n < 0x100 → hex n ≡ digit_char (n / 0x10 % 16) ∷ digit_char (n % 16) ∷ []
unfolding hex
hex_2 n two h₂ = let h₃ : n < 0x1000 = omega arith in rw (lt-leb _ n h₃, lt-leb _ n h₂, le-leb _ n two)

hex_3 : (n : ℕ) → 0x100 ≤ n → n < 0x1000 → hex n ≡ digit_char (n / 0x100 % 16) ∷ digit_char (n / 0x10 % 16) ∷ digit_char (n % 16) ∷ []
unfolding hex
hex_3 n three h₃ = rw (lt-leb _ n h₃, le-leb _ n three)

hex_4 : (n : ℕ) → 0x1000 ≤ n → hex n ≡ digit_char (n / 0x1000) ∷ digit_char (n / 0x100 % 16) ∷ digit_char (n / 0x10 % 16) ∷ digit_char (n % 16) ∷ []
unfolding hex
hex_4 n four = rw (le-leb _ n four)

value_of_char : (d : ℕ) → d < 16 → digit_value (digit_char d) ≡ d
value_of_char d h = grind (arith, nat_tests)

char_of_value : (c : ℕ) → IsLowerHex c → digit_char (digit_value c) ≡ c
char_of_value c (inl h) = grind (arith, nat_tests)
char_of_value c (inr h) = grind (arith, nat_tests)

lower_char : (d : ℕ) → d < 16 → IsLowerHex (digit_char d)
lower_char d h = grind (arith, nat_tests)

-- the character of a digit other than 0 is no `0`
not_zero : (d : ℕ) → 0 < d → d < 16 → digit_char d ≢ 48
not_zero d some h zero = let value = sym (value_of_char d h) ∙ ap digit_value zero in omega (arith, value)

lower : (d : ℕ) (text : List ℕ) → d < 16 → All IsLowerHex text → All IsLowerHex (digit_char d ∷ text)
lower d text h rest = All-cons IsLowerHex (digit_char d) text (lower_char d h) rest

pub short_hex : (n : ℕ) → n < 2 ^ 16 → IsShortGroup (hex n) n
short_hex n fits =
    let a = value_of_char (n / 0x1000) (omega arith) in
    let b = value_of_char (n / 0x100 % 16) (omega arith) in
    let c = value_of_char (n / 0x10 % 16) (omega arith) in
    let d = value_of_char (n % 16) (omega arith) in
    let last = lower (n % 16) [] (omega arith) (All-nil IsLowerHex) in
    let two_last = lower (n / 0x10 % 16) (digit_char (n % 16) ∷ []) (omega arith) last in
    let three_last = lower (n / 0x100 % 16) (digit_char (n / 0x10 % 16) ∷ digit_char (n % 16) ∷ []) (omega arith) two_last in
    let four_last = lower (n / 0x1000) (digit_char (n / 0x100 % 16) ∷ digit_char (n / 0x10 % 16) ∷ digit_char (n % 16) ∷ []) (omega arith) three_last in
    elim (cases_lt n 0x10) [
      | inl h₁ ↦ rw (hex_1 n h₁) (record { writes = omega arith; lower = last; short = λ zero. refl })
      | inr two ↦ elim (cases_lt n 0x100) [
        | inl h₂ ↦ rw (hex_2 n two h₂) (record { writes = omega arith; lower = two_last; short = λ zero. absurd (not_zero (n / 0x10 % 16) (omega arith) (omega arith) zero) })
        | inr three ↦ elim (cases_lt n 0x1000) [
          | inl h₃ ↦ rw (hex_3 n three h₃) (record { writes = omega arith; lower = three_last; short = λ zero. absurd (not_zero (n / 0x100 % 16) (omega arith) (omega arith) zero) })
          | inr four ↦ rw (hex_4 n four) (record { writes = omega arith; lower = four_last; short = λ zero. absurd (not_zero (n / 0x1000) (omega arith) (omega arith) zero) })
        ]
      ]
    ]

-- a byte is the character of the digit that it stands for
byte_is : (c d : ℕ) → IsLowerHex c → d ≡ digit_value c → c ≡ digit_char d
byte_is c d low is = sym (char_of_value c low) ∙ ap digit_char (sym is)

some_value : (c : ℕ) → IsLowerHex c → c ≢ 48 → 0 < digit_value c
some_value c low other =
    elim (cases_lt 0 (digit_value c)) [
      | inl some ↦ some
      | inr none ↦ absurd (other (byte_is c 0 low (omega arith)))
    ]

pub hex_unique : (text : List ℕ) (n : ℕ) → IsShortGroup text n → text ≡ hex n
hex_unique [] n h = let some = h.writes.0.0.0 in absurd (omega (arith, some))
hex_unique (a ∷ []) n h =
    let (digits, value) = h.writes.0 in
    let x = digits.1.0 in
    let low = All-head IsLowerHex a [] h.lower in
    rw (hex_1 n (omega (arith, x, value))) (ap (λ c. c ∷ []) (byte_is a (n % 16) low (omega (arith, x, value))))
hex_unique (a ∷ b ∷ []) n h =
    let (digits, value) = h.writes.0 in
    let x = digits.1.0 in
    let y = digits.1.1.0 in
    let low = h.lower 0 0 (omega arith) in
    let low' = h.lower 1 0 (omega arith) in
    let first = some_value a low (λ zero. let one = h.short zero in omega (arith, one)) in
    let one = byte_is a (n / 0x10 % 16) low (omega (arith, x, y, value)) in
    let two = byte_is b (n % 16) low' (omega (arith, x, y, value)) in
    rw (hex_2 n (omega (arith, x, y, value, first)) (omega (arith, x, y, value))) (ap₂ (λ (c d : ℕ). c ∷ d ∷ []) one two)
hex_unique (a ∷ b ∷ c ∷ []) n h =
    let (digits, value) = h.writes.0 in
    let x = digits.1.0 in
    let y = digits.1.1.0 in
    let z = digits.1.1.1.0 in
    let low = h.lower 0 0 (omega arith) in
    let low' = h.lower 1 0 (omega arith) in
    let low'' = h.lower 2 0 (omega arith) in
    let first = some_value a low (λ zero. let one = h.short zero in omega (arith, one)) in
    let one = byte_is a (n / 0x100 % 16) low (omega (arith, x, y, z, value)) in
    let two = byte_is b (n / 0x10 % 16) low' (omega (arith, x, y, z, value)) in
    let three = byte_is c (n % 16) low'' (omega (arith, x, y, z, value)) in
    rw (hex_3 n (omega (arith, x, y, z, value, first)) (omega (arith, x, y, z, value))) (ap₂ (λ (c : ℕ) (t : List ℕ). c ∷ t) one (ap₂ (λ (c d : ℕ). c ∷ d ∷ []) two three))
hex_unique (a ∷ b ∷ c ∷ d ∷ []) n h =
    let (digits, value) = h.writes.0 in
    let x = digits.1.0 in
    let y = digits.1.1.0 in
    let z = digits.1.1.1.0 in
    let w = digits.1.1.1.1.0 in
    let low = h.lower 0 0 (omega arith) in
    let low' = h.lower 1 0 (omega arith) in
    let low'' = h.lower 2 0 (omega arith) in
    let low''' = h.lower 3 0 (omega arith) in
    let first = some_value a low (λ zero. let one = h.short zero in omega (arith, one)) in
    let one = byte_is a (n / 0x1000) low (omega (arith, x, y, z, w, value)) in
    let two = byte_is b (n / 0x100 % 16) low' (omega (arith, x, y, z, w, value)) in
    let three = byte_is c (n / 0x10 % 16) low'' (omega (arith, x, y, z, w, value)) in
    let four = byte_is d (n % 16) low''' (omega (arith, x, y, z, w, value)) in
    rw (hex_4 n (omega (arith, x, y, z, w, value, first))) (ap₂ (λ (c : ℕ) (t : List ℕ). c ∷ t) one (ap₂ (λ (c : ℕ) (t : List ℕ). c ∷ t) two (ap₂ (λ (c d : ℕ). c ∷ d ∷ []) three four)))
hex_unique (a ∷ b ∷ c ∷ d ∷ e ∷ text) n h = let few = h.writes.1 in absurd (omega (arith, few))

pub short_groups : (xs : List ℕ) → AllSegments xs → AreShortGroups (groups_text xs) xs
short_groups [] fits = refl
short_groups (x ∷ []) fits = rw (append-nil (hex x)) (short_hex x (fits 0))
short_groups (x ∷ y ∷ xs) fits = (
  hex x,
  groups_text (y ∷ xs),
  sym (append_assoc (hex x) (58 ∷ []) (groups_text (y ∷ xs))),
  short_hex x (fits 0),
  short_groups (y ∷ xs) (λ k. fits (suc k)),
)

pub groups_unique : (xs text : List ℕ) → AreShortGroups text xs → text ≡ groups_text xs
groups_unique [] text h = h
groups_unique (x ∷ []) text h = hex_unique text x h ∙ sym (append-nil (hex x))
groups_unique (x ∷ y ∷ xs) text h =
    let first = hex_unique h.0 x h.3 in
    let rest = groups_unique (y ∷ xs) h.1 h.4 in
    h.2 ∙ ap₂ (λ (f r : List ℕ). (f ++ (58 ∷ [])) ++ r) first rest ∙ append_assoc (hex x) (58 ∷ []) (groups_text (y ∷ xs))
