-- Fields and lines, joined again.
use Rattle.std.proofs.Common.{◌≡◌, ◌≢◌, ◌==◌, ℕ, Bool, true, false, cond, List, [], ◌∷◌, ◌++◌, codes, refl, sym, ap, subst, ◌∙◌, inl, inr}
use Rattle.std.specs.Prelude.{◌⊎◌}
use Rattle.std.specs.List.{AllByRecursion, join_with_byte, onto_first}
use Rattle.std.proofs.lemmas.Bool.{eq-eqb, eqb-true, false≢true}
use Rattle.std.proofs.lemmas.List.Splits.{join_with_byte-slice_split}
use Rattle.wgr_text.specs.Lines.{before_lines, lines_of, lines_or_one}
use Rattle.wgr_dump.specs.Fields.{parts_between, fields_of}
use Rattle.wgr_dump.proofs.LawLemmas.{some_first}

differs : (b c : ℕ) → (b == c) ≡ false → b ≢ c
differs b c is same = false≢true (sym is ∙ eq-eqb b c same)

-- no byte of the part is `c`
abbrev Without : ℕ → List ℕ → Type 0
Without c part = AllByRecursion (λ b. b ≢ c) part

without_parts : (c b : ℕ) (v : Bool) (parts : List (List ℕ)) → (v ≡ false → b ≢ c) → AllByRecursion (Without c) parts → AllByRecursion (Without c) (cond v ([] ∷ parts) (onto_first b parts))
without_parts c b true parts other all = (tt, all)
without_parts c b false [] other all = ((other refl, tt), tt)
without_parts c b false (part ∷ parts) other all = ((other refl, all.0), all.1)

no_separator : (c : ℕ) (text : List ℕ) → AllByRecursion (Without c) (parts_between c text)
no_separator c [] = (tt, tt)
no_separator c (b ∷ text) = without_parts c b (b == c) (parts_between c text) (λ is. differs b c is) (no_separator c text)

pub fields_joined : (line : List ℕ) → (join_with_byte 9 (fields_of line) ≡ line) × AllByRecursion (λ field. AllByRecursion (λ b. b ≢ 9) field) (fields_of line)
fields_joined line = (join_with_byte-slice_split 9 line, no_separator 9 line)

without_lines : (b : ℕ) (v : Bool) (lines : List (List ℕ)) → (v ≡ false → b ≢ 10) → AllByRecursion (Without 10) lines → AllByRecursion (Without 10) (cond v ([] ∷ lines) (before_lines b lines))
without_lines b true lines other all = (tt, all)
without_lines b false [] other all = ((other refl, tt), tt)
without_lines b false (line ∷ lines) other all = ((other refl, all.0), all.1)

no_newline : (text : List ℕ) → AllByRecursion (Without 10) (lines_of text)
no_newline [] = tt
no_newline (b ∷ text) = without_lines b (b == 10) (lines_of text) (λ is. differs b 10 is) (no_newline text)

-- the text is the lines with a newline between each two, and a last one or none
abbrev pub IsJoined : List ℕ → List (List ℕ) → Type 0
IsJoined text lines = (join_with_byte 10 lines ≡ text) ⊎ (join_with_byte 10 lines ++ codes "\n" ≡ text)

join_before : (b : ℕ) (line : List ℕ) (lines : List (List ℕ)) → join_with_byte 10 ((b ∷ line) ∷ lines) ≡ b ∷ join_with_byte 10 (line ∷ lines)
join_before b line [] = refl
join_before b line (next ∷ lines) = refl

-- one byte more in front of a text with lines
joined_more : (b : ℕ) (v : Bool) (text : List ℕ) (line : List ℕ) (lines : List (List ℕ)) → (v ≡ true → b ≡ 10) → IsJoined text (line ∷ lines) → IsJoined (b ∷ text) (cond v ([] ∷ line ∷ lines) (before_lines b (line ∷ lines)))
joined_more b true text line lines is (inl same) = inl (ap (λ t. 10 ∷ t) same ∙ ap (λ n. n ∷ text) (sym (is refl)))
joined_more b true text line lines is (inr same) = inr (ap (λ t. 10 ∷ t) same ∙ ap (λ n. n ∷ text) (sym (is refl)))
joined_more b false text line lines is (inl same) = inl (join_before b line lines ∙ ap (λ t. b ∷ t) same)
joined_more b false text line lines is (inr same) = inr (ap (λ t. t ++ codes "\n") (join_before b line lines) ∙ ap (λ t. b ∷ t) same)

joined_one : (b : ℕ) (v : Bool) → (v ≡ true → b ≡ 10) → IsJoined (b ∷ []) (cond v ([] ∷ []) ((b ∷ []) ∷ []))
joined_one b true is = inr (ap (λ n. n ∷ []) (sym (is refl)))
joined_one b false is = inl refl

pub lines_joined : (text : List ℕ) → IsJoined text (lines_or_one text)
lines_joined [] = inl refl
lines_joined (b ∷ []) = joined_one b (b == 10) (eqb-true b 10)
lines_joined (b ∷ next ∷ text) =
    let split = some_first (next ∷ text) in
    let rest = subst (λ lines. IsJoined (next ∷ text) lines) split.2 (lines_joined (next ∷ text)) in
    subst (λ lines. IsJoined (b ∷ next ∷ text) (cond (b == 10) ([] ∷ lines) (before_lines b lines))) (sym split.2) (joined_more b (b == 10) (next ∷ text) split.0 split.1 (eqb-true b 10) rest)

pub no_newline_within : (text : List ℕ) → AllByRecursion (λ line. AllByRecursion (λ b. b ≢ 10) line) (lines_or_one text)
no_newline_within [] = (tt, tt)
no_newline_within (b ∷ text) = no_newline (b ∷ text)
