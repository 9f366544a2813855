-- Where the first line ends, and which lines come after it.
use Rattle.std.proofs.Common.{◌≡◌, ◌==◌, ◌<◌, ◌≤◌, ◌+◌, ℕ, suc, zero, Bool, true, false, cond, not, List, [], ◌∷◌, length, get_or, take, drop, refl, sym, ◌∙◌, arith}
use Rattle.std.specs.List.{position_or_len}
use Rattle.std.proofs.lemmas.Bool.Decides.{nat_tests}
use Rattle.wgr_text.specs.Lines.{before_lines, lines_of, lines_or_one}

-- the first newline ends the first line
pub line_ended : (text : List ℕ) (end : ℕ) → end < length text → (get_or text end 0 == 10) ≡ true → ((k : ℕ) → k < end → (get_or text k 0 == 10) ≡ false)
    → lines_of text ≡ take end text ∷ lines_of (drop (suc end) text)
line_ended [] end within here before = absurd (omega arith)
line_ended (b ∷ text) zero within here before = rw here refl
line_ended (b ∷ text) (suc end) within here before =
    let differs : (b == 10) ≡ false = before 0 (omega arith) in
    let later : lines_of text ≡ take end text ∷ lines_of (drop (suc end) text) = line_ended text end (omega arith) here (λ (k : ℕ) (below : k < end). before (suc k) (omega arith)) in
    rw (differs, later) refl

-- how many bytes stand before the first newline
abbrev before_newline : List ℕ → ℕ
before_newline text = position_or_len (λ (byte : ℕ). byte == 10) text

-- a text with no newline belongs to the line of the byte before it
line_joined : (b : ℕ) (text : List ℕ) → length text ≤ before_newline text → before_lines b (lines_of text) ≡ (b ∷ text) ∷ []
line_joined b [] none = refl
line_joined b (x ∷ text) none = elim (x == 10) as (λ (v : Bool).
    suc (length text) ≤ cond (not v) (1 + before_newline text) 0 → before_lines b (cond v ([] ∷ lines_of text) (before_lines x (lines_of text))) ≡ (b ∷ x ∷ text) ∷ []) [
      | true ↦ λ h. absurd (omega arith)
      | false ↦ λ h. rw (line_joined x text (omega arith)) refl
    ] none

-- and is one line by itself
pub line_whole : (text : List ℕ) → length text ≤ before_newline text → lines_or_one text ≡ text ∷ []
line_whole [] none = refl
line_whole (b ∷ text) none = elim (b == 10) as (λ (v : Bool).
    suc (length text) ≤ cond (not v) (1 + before_newline text) 0 → cond v ([] ∷ lines_of text) (before_lines b (lines_of text)) ≡ (b ∷ text) ∷ []) [
      | true ↦ λ h. absurd (omega arith)
      | false ↦ λ h. line_joined b text (omega arith)
    ] none

-- a text with a byte has no other lines for that
pub some_lines : (text : List ℕ) → 0 < length text → lines_or_one text ≡ lines_of text
some_lines [] some = absurd (omega arith)
some_lines (b ∷ text) some = refl

not_empty : (n : ℕ) → (n == 0) ≡ true → 0 < n → ⊥
not_empty n none some = grind (arith, nat_tests)

pub no_lines : (text : List ℕ) → (length text == 0) ≡ true → lines_of text ≡ []
no_lines [] none = refl
no_lines (b ∷ text) none = absurd (not_empty (length (b ∷ text)) none (omega arith))

pub some_bytes : (text : List ℕ) → (length text == 0) ≡ false → 0 < length text
some_bytes [] some = cc some
some_bytes (b ∷ text) some = omega arith

-- the first line of a text with a byte, and those after it
pub first_and_others : (text line rest : List ℕ) → false ≡ (length text == 0) → lines_or_one text ≡ line ∷ lines_of rest → lines_of text ≡ line ∷ lines_of rest
first_and_others text line rest some is = sym (some_lines text (some_bytes text (sym some))) ∙ is
