-- What std's fault says of the bytes from it on: they are cut within a character, or no bytes complete them.
use Rattle.std.proofs.Common.{◌≡◌, ℕ, ◌+◌, ◌<◌, ◌≤◌, ◌⊎◌, true, false, List, [], ◌∷◌, ◌++◌, length, take, drop, Some, None, IsUtf8, All, refl, sym, ap, subst, inl, inr, arith, append_assoc, take-add, take-append-drop, length-drop, le-ltb, le-leb, ne_eqb, ◌∙◌, MatchBool}
use Rattle.std.proofs.lemmas.Bool.{cases_lt}
use Rattle.std.proofs.lemmas.List.Elements.{All-nil, All-cons}
use Rattle.std.proofs.lemmas.Str.{IsUtf8-append}
use Rattle.std.specs.Str.{IsValidUpTo}
use Rattle.std.specs.Str.Lossy.{utf8_error_len, error_len_of_some, error_len_after_one, error_len_after_two}
use Rattle.std.proofs.str.Classes.{range}
use Rattle.std.specs.Int.{is_in_range, IsInRange, IsOutOfRange}
use Rattle.simdutf8.specs.Steps.{IsClosed, least_after, most_after, Step, first, second, later, StepsThen}
use Rattle.simdutf8.proofs.Chars.{least_is, most_is, StepsThen-IsUtf8, closed-IsUtf8}
use Rattle.simdutf8.specs.Tracks.{last_three}
use Rattle.simdutf8.proofs.StepsLemmas.{StepsThen_parts, StepsThen-append}
use Rattle.wgr_http.specs.Text.{IsContinuationByte, MayBecomeText, NeverBecomesText}

-- ---- tests

range_cases : (lo hi b : ℕ) → ((lo ≤ b) × (b ≤ hi) × (is_in_range lo hi b ≡ true)) ⊎ (is_in_range lo hi b ≡ false)
range_cases lo hi b =
    elim (is_in_range lo hi b) as (λ r. MatchBool r (IsInRange lo hi b) (IsOutOfRange lo hi b) → ((lo ≤ b) × (b ≤ hi) × (r ≡ true)) ⊎ (r ≡ false)) [
      | true ↦ λ h. inl (h.0, h.1, refl)
      | false ↦ λ h. inr refl
    ] (range lo hi b)

some-none : {n : ℕ} → Some n ≡ None → ⊥
some-none e = cc

-- ---- characters of one to four bytes

abbrev IsSecond : ℕ → ℕ → Type 0
IsSecond x y = (least_after x ≤ y) × (y ≤ most_after x)

pub one_byte : (x : ℕ) → x < 0x80 → IsUtf8 (x ∷ [])
one_byte x low = closed-IsUtf8 0 0 0 (x ∷ []) (omega arith) (first (omega arith) (inl low), omega arith)

two_bytes : (x y : ℕ) → (0xC2 ≤ x) × (x < 0xE0) → IsSecond x y → IsUtf8 (x ∷ y ∷ [])
two_bytes x y lead next =
    let most = most_is x in
    closed-IsUtf8 0 0 0 (x ∷ y ∷ []) (omega arith)
    (first (omega arith) (inr (omega arith)), (second (omega arith) (omega arith) next, omega arith))

three_bytes : (x y z : ℕ) → (0xE0 ≤ x) × (x < 0xF0) → IsSecond x y → IsContinuationByte z → IsUtf8 (x ∷ y ∷ z ∷ [])
three_bytes x y z lead next third =
    let least = least_is x in
    let most = most_is x in
    closed-IsUtf8 0 0 0 (x ∷ y ∷ z ∷ []) (omega arith) (
      first (omega arith) (inr (omega arith)),
      (second (omega arith) (omega arith) next, (later (inr (omega arith)) (omega arith) third, omega arith)),
    )

four_bytes : (x y z w : ℕ) → (0xF0 ≤ x) × (x ≤ 0xF4) → IsSecond x y → IsContinuationByte z → IsContinuationByte w → IsUtf8 (x ∷ y ∷ z ∷ w ∷ [])
four_bytes x y z w lead next third fourth =
    let least = least_is x in
    let most = most_is x in
    closed-IsUtf8 0 0 0 (x ∷ y ∷ z ∷ w ∷ []) (omega arith) (
      first (omega arith) (inr (omega arith)),
      (
        second (omega arith) (omega arith) next,
        (later (inr (omega arith)) (omega arith) third, (later (inl (omega arith)) third fourth, omega arith)),
      ),
    )

-- ---- bytes that end within a character

also : (b : ℕ) (bs : List ℕ) → IsContinuationByte b → All IsContinuationByte bs → All IsContinuationByte (b ∷ bs)
also = All-cons IsContinuationByte

none : All IsContinuationByte []
none = All-nil _

one : All IsContinuationByte (0x80 ∷ [])
one = also 0x80 [] (omega arith) none

two : All IsContinuationByte (0x80 ∷ 0x80 ∷ [])
two = also 0x80 (0x80 ∷ []) (omega arith) one

least_fits : (x : ℕ) → IsContinuationByte (least_after x) × IsSecond x (least_after x)
least_fits x =
    let least = least_is x in
    let most = most_is x in
    (omega arith, omega arith)

cut_after_one : (x : ℕ) → (0xC2 ≤ x) × (x ≤ 0xF4) → MayBecomeText (x ∷ [])
cut_after_one x lead =
    let next = least_fits x in
    let y = least_after x in
    elim (cases_lt x 0xE0) [
      | inl in_two ↦ (y ∷ [], also y [] next.0 none, two_bytes x y (omega arith) next.1)
      | inr over_two ↦ elim (cases_lt x 0xF0) [
        | inl in_three ↦ (y ∷ 0x80 ∷ [], also y (0x80 ∷ []) next.0 one, three_bytes x y 0x80 (omega arith) next.1 (omega arith))
        | inr in_four ↦ (
          y ∷ 0x80 ∷ 0x80 ∷ [],
          also y (0x80 ∷ 0x80 ∷ []) next.0 two,
          four_bytes x y 0x80 0x80 (omega arith) next.1 (omega arith) (omega arith),
        )
      ]
    ]

cut_after_two : (x y : ℕ) → (0xC2 ≤ x) × (x ≤ 0xF4) → IsSecond x y → MayBecomeText (x ∷ y ∷ [])
cut_after_two x y lead next =
    elim (cases_lt x 0xE0) [
      | inl in_two ↦ ([], none, two_bytes x y (omega arith) next)
      | inr over_two ↦ elim (cases_lt x 0xF0) [
        | inl in_three ↦ (0x80 ∷ [], one, three_bytes x y 0x80 (omega arith) next (omega arith))
        | inr in_four ↦ (
          0x80 ∷ 0x80 ∷ [],
          two,
          four_bytes x y 0x80 0x80 (omega arith) next (omega arith) (omega arith),
        )
      ]
    ]

cut_after_three : (x y z : ℕ) → (0xE0 ≤ x) × (x ≤ 0xF4) → IsSecond x y → IsContinuationByte z → MayBecomeText (x ∷ y ∷ z ∷ [])
cut_after_three x y z lead next third =
    elim (cases_lt x 0xF0) [
      | inl in_three ↦ ([], none, three_bytes x y z (omega arith) next third)
      | inr in_four ↦ (0x80 ∷ [], one, four_bytes x y z 0x80 (omega arith) next third (omega arith))
    ]

-- no front of the bytes is a text
abbrev HasNoText : List ℕ → Type 0
HasNoText bytes = (n : ℕ) → 0 < n → ¬ (IsUtf8 (take n bytes))

cut_from_two : (x y : ℕ) (tail : List ℕ) → (0xC2 ≤ x) × (x ≤ 0xF4) → IsSecond x y → HasNoText (x ∷ y ∷ tail)
    → error_len_after_two (x ∷ y ∷ tail) ≡ None → MayBecomeText (x ∷ y ∷ tail)
cut_from_two x y [] lead next no_text fault = cut_after_two x y lead next
cut_from_two x y (z ∷ []) lead next no_text fault =
    elim (cases_lt x 0xE0) [
      | inl in_two ↦ absurd (no_text 2 (omega arith) (two_bytes x y (omega arith) next))
      | inr over_two ↦ elim (range_cases 0x80 0xBF z) [
        | inl third ↦ cut_after_three x y z (omega arith) next (omega arith)
        | inr other ↦ absurd (some-none (rw other at fault))
      ]
    ]
cut_from_two x y (z ∷ w ∷ tail) lead next no_text fault = absurd (
    elim (range_cases 0x80 0xBF z) [
      | inl third ↦ some-none (rw (third.2, le-ltb (length (x ∷ y ∷ z ∷ w ∷ tail)) 3 (omega arith), le-ltb (length (x ∷ y ∷ z ∷ w ∷ tail)) 4 (omega arith)) at fault)
      | inr other ↦ some-none (rw (other, le-ltb (length (x ∷ y ∷ z ∷ w ∷ tail)) 3 (omega arith)) at fault)
    ]
    )

-- the bytes from the fault on may go on, where the fault has no length
cut : (bytes : List ℕ) → 0 < length bytes → HasNoText bytes → error_len_of_some bytes ≡ None → MayBecomeText bytes
cut [] some no_text fault = absurd (omega arith)
cut (x ∷ tail) some no_text fault =
    elim (range_cases 0xC2 0xF4 x) [
      | inl lead ↦ cut_from_one x tail (lead.0, lead.1) no_text (rw lead.2 at fault)
      | inr other ↦ absurd (some-none (rw other at fault))
    ]
  where
    cut_from_one : (x : ℕ) (tail : List ℕ) → (0xC2 ≤ x) × (x ≤ 0xF4) → HasNoText (x ∷ tail) → error_len_after_one (x ∷ tail) ≡ None → MayBecomeText (x ∷ tail)
    cut_from_one x [] lead no_text fault = cut_after_one x lead
    cut_from_one x (y ∷ tail) lead no_text fault =
        let long = le-ltb (length (x ∷ y ∷ tail)) 2 (omega arith) in
        elim (range_cases (least_after x) (most_after x) y) [
          | inl next ↦ cut_from_two x y tail lead (next.0, next.1) no_text (rw (long, next.2) at fault)
          | inr other ↦ absurd (some-none (rw (long, other) at fault))
        ]

-- ---- bytes that no bytes complete

-- what follows a text is one, where both together are
after_text : (front bytes : List ℕ) → IsUtf8 front → IsUtf8 (front ++ bytes) → IsUtf8 bytes
after_text front bytes text both =
    let t = last_three 0 0 0 front in
    let closed = ((StepsThen_parts IsClosed 0 0 0 front).0 ((StepsThen-IsUtf8 front).1 text)).1 in
    closed-IsUtf8 t.0 t.1 t.2 bytes closed ((StepsThen-append IsClosed 0 0 0 front bytes).0 ((StepsThen-IsUtf8 _).1 both)).1

in_range : (lo hi b : ℕ) → lo ≤ b → b ≤ hi → is_in_range lo hi b ≡ true
in_range lo hi b low high = rw (le-leb lo b low, le-leb b hi high)

second_after : (x y : ℕ) → 0xC0 ≤ x → Step 0 0 x y → ((0xC2 ≤ x) × (x ≤ 0xF4)) × IsSecond x y
second_after x y high (first p q) = absurd (omega arith)
second_after x y high (second p q r) = (q, r)
second_after x y high (later p q r) = absurd (omega arith)

third_after : (w x y z : ℕ) → 0xE0 ≤ x → IsSecond x y → Step w x y z → IsContinuationByte z
third_after w x y z high next (first p q) = absurd (omega arith)
third_after w x y z high next (second p q r) = absurd (omega arith)
third_after w x y z high next (later p q r) = r

whole_from_three : (x y z : ℕ) (tail more : List ℕ) → (0xF0 ≤ x) × (x ≤ 0xF4) → IsSecond x y → IsContinuationByte z → HasNoText (x ∷ y ∷ z ∷ tail)
    → StepsThen IsClosed x y z (tail ++ more) → error_len_after_two (x ∷ y ∷ z ∷ tail) ≡ None
whole_from_three x y z [] more lead next third no_text steps = rw (in_range 0x80 0xBF z (omega arith) (omega arith)) refl
whole_from_three x y z (w ∷ tail) more lead next third no_text steps =
    absurd (no_text 4 (omega arith) (four_bytes x y z w lead next third (fourth steps.0)))
  where
    fourth : Step x y z w → IsContinuationByte w
    fourth (first p q) = absurd (omega arith)
    fourth (second p q r) = absurd (omega arith)
    fourth (later p q r) = r

whole_from_two : (x y : ℕ) (tail more : List ℕ) → (0xE0 ≤ x) × (x ≤ 0xF4) → IsSecond x y → HasNoText (x ∷ y ∷ tail)
    → StepsThen IsClosed 0 x y (tail ++ more) → error_len_after_two (x ∷ y ∷ tail) ≡ None
whole_from_two x y [] more lead next no_text steps = refl
whole_from_two x y (z ∷ tail) more lead next no_text steps =
    let most = most_is x in
    let third = third_after 0 x y z lead.0 next steps.0 in
    elim (cases_lt x 0xF0) [
      | inl in_three ↦ absurd (no_text 3 (omega arith) (three_bytes x y z (omega arith) next third))
      | inr in_four ↦ whole_from_three x y z tail more (omega arith) next third no_text steps.1
    ]

whole_from_one : (x : ℕ) (tail more : List ℕ) → 0xC0 ≤ x → HasNoText (x ∷ tail) → StepsThen IsClosed 0 0 x (tail ++ more) → error_len_of_some (x ∷ tail) ≡ None
whole_from_one x [] [] high no_text steps = absurd (omega arith)
whole_from_one x [] (y ∷ more) high no_text steps =
    let lead = (second_after x y high steps.0).0 in
    rw (in_range 0xC2 0xF4 x lead.0 lead.1) refl
whole_from_one x (y ∷ tail) more high no_text steps =
    let lead = (second_after x y high steps.0).0 in
    let next = (second_after x y high steps.0).1 in
    elim (cases_lt x 0xE0) [
      | inl in_two ↦ absurd (no_text 2 (omega arith) (two_bytes x y (omega arith) next))
      | inr over_two ↦
          rw (
            in_range 0xC2 0xF4 x lead.0 lead.1,
            le-ltb (length (x ∷ y ∷ tail)) 2 (omega arith),
            in_range (least_after x) (most_after x) y next.0 next.1,
          ) (whole_from_two x y tail more (omega arith) next no_text steps.1)
    ]

-- where bytes can complete them and no front of them is a text, the fault has no length
whole : (bytes more : List ℕ) → 0 < length bytes → HasNoText bytes → IsUtf8 (bytes ++ more) → error_len_of_some bytes ≡ None
whole [] more some no_text text = absurd (omega arith)
whole (x ∷ tail) more some no_text text =
    let steps = (StepsThen-IsUtf8 (x ∷ tail ++ more)).1 text in
    elim (begins steps.0) [
      | inl low ↦ absurd (no_text 1 (omega arith) (one_byte x low))
      | inr high ↦ whole_from_one x tail more high no_text steps.1
    ]
  where
    begins : Step 0 0 0 x → (x < 0x80) ⊎ (0xC0 ≤ x)
    begins (first p q) = q
    begins (second p q r) = absurd (omega arith)
    begins (later p q r) = absurd (omega arith)

-- ---- the bytes from std's fault on

HasNoText_from : (bytes : List ℕ) (n : ℕ) → IsValidUpTo bytes n → HasNoText (drop n bytes)
HasNoText_from bytes n valid m some text =
    valid.longest (n + m) (omega arith) (subst IsUtf8 (sym (take-add n m bytes)) (IsUtf8-append _ _ valid.front text))

fault_is : (bytes : List ℕ) (n : ℕ) → IsValidUpTo bytes n → utf8_error_len (drop n bytes) ≡ error_len_of_some (drop n bytes)
unfolding utf8_error_len
fault_is bytes n valid = let short = valid.short in rw (ne_eqb (length (drop n bytes)) 0 (omega (arith, length-drop n bytes))) refl

rejoined : (bytes more : List ℕ) (n : ℕ) → bytes ++ more ≡ take n bytes ++ (drop n bytes ++ more)
rejoined bytes more n = ap (λ (l : List ℕ). l ++ more) (sym (take-append-drop n bytes)) ∙ append_assoc (take n bytes) (drop n bytes) more

pub MayBecomeText_at : (bytes : List ℕ) (n : ℕ) → IsValidUpTo bytes n → utf8_error_len (drop n bytes) ≡ None → MayBecomeText bytes
MayBecomeText_at bytes n valid fault =
    let short = valid.short in
    let rest = cut (drop n bytes) (omega (arith, length-drop n bytes)) (HasNoText_from bytes n valid) (sym (fault_is bytes n valid) ∙ fault) in
    (rest.0, rest.1, subst IsUtf8 (sym (rejoined bytes rest.0 n)) (IsUtf8-append _ _ valid.front rest.2))

pub NeverBecomesText_at : (bytes : List ℕ) (n : ℕ) → IsValidUpTo bytes n → ¬ (utf8_error_len (drop n bytes) ≡ None) → NeverBecomesText bytes
NeverBecomesText_at bytes n valid fault more text =
    let short = valid.short in
    fault (fault_is bytes n valid ∙ whole (drop n bytes) more (omega (arith, length-drop n bytes)) (HasNoText_from bytes n valid)
    (after_text (take n bytes) (drop n bytes ++ more) valid.front (subst IsUtf8 (rejoined bytes more n) text)))
