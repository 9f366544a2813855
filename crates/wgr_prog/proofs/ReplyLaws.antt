-- A text and its length, as a reply.
use Rattle.std.proofs.Common.{◌≡◌, ◌==◌, ◌<◌, ◌+◌, ◌%◌, ◌^◌, ◌++◌, ℕ, Bool, true, false, cond, List, [], ◌∷◌, Option, Some, None, codes, decimal, length, refl, ap, subst, sym, ◌∙◌, append-nil, append_assoc, option_map, arith}
use Rattle.std.specs.Option.{option_map_or}
use Rattle.std.specs.Str.{bytes_eq}
use Rattle.std.proofs.lemmas.Bool.Decides.{nat_tests}
use Rattle.std.proofs.lemmas.Fmt.{decimal_by_steps}
use Rattle.std.proofs.lemmas.Slice.Eq.{bytes_eq-Decides}
use Rattle.wgr_words.specs.Line.{before_newline}
use Rattle.wgr_words.proofs.LineLemmas.{both_none, onwards}
use Rattle.wgr_prog.specs.Laws.{ShownTextsAreWhole, TextsAreRead, with_length}
use Rattle.wgr_prog.specs.Reply.{Done, Shown, Undone, alone, behind_newline, reply_in, reply_of}

-- ---- a text with its length is read

digit : (n : ℕ) → (48 + n == 10) ≡ false
digit n = grind (arith, nat_tests)

digits : (n : ℕ) → n < 2 ^ 64 → before_newline (decimal n) ≡ None
digits n small = decimal_by_steps (λ (n : ℕ) (ds : List ℕ). before_newline ds ≡ None)
    (λ n below. rw (digit n) refl)
    (λ n ds more none. both_none ds ((48 + n % 10) ∷ []) none (rw (digit (n % 10)) refl))
    n small

pub behind : (line text : List ℕ) → before_newline line ≡ None → behind_newline (line ++ 10 ∷ text) ≡ text
behind [] text none = refl
behind (b ∷ line) text none = by_test (b == 10) refl none (behind line text)
  where
    by_rest : (o : Option (List ℕ)) → option_map (λ (l : List ℕ). b ∷ l) o ≡ None → o ≡ None
    by_rest None is = refl
    by_rest (Some l) is = cc is

    by_test : (v : Bool) → (b == 10) ≡ v → cond v (Some []) (option_map (λ (l : List ℕ). b ∷ l) (before_newline line)) ≡ None
        → (before_newline line ≡ None → behind_newline (line ++ 10 ∷ text) ≡ text) → behind_newline (b ∷ (line ++ 10 ∷ text)) ≡ text
    by_test true is none later = cc none
    by_test false is none later = rw is (later (by_rest (before_newline line) none))

of_line : (line text : List ℕ) → line ≡ codes "0 " ++ decimal (length text) → reply_of line text ≡ Shown text
of_line line text is = rw ((bytes_eq-Decides line (codes "0 " ++ decimal (length text))).1 is) refl

joined : (text : List ℕ) → with_length text ≡ (codes "0 " ++ decimal (length text)) ++ 10 ∷ text
joined text = search append_assoc

pub read : TextsAreRead
read text small =
    let line = codes "0 " ++ decimal (length text) in
    let none : before_newline line ≡ None = rw (digits (length text) small) refl in
    let first : before_newline (line ++ 10 ∷ text) ≡ Some line = onwards line (10 ∷ text) none ∙ ap Some (append-nil line) in
    let same : reply_in (line ++ 10 ∷ text) ≡ Shown text = rw (first, behind line text none) (of_line line text refl) in
    subst (λ (all : List ℕ). reply_in all ≡ Shown text) (sym (joined text)) same

-- ---- what is shown is all of it

first_byte : (b : ℕ) → (b == 10) ≡ true → b ≡ 10
first_byte b is = grind (arith, nat_tests, is)

parts : (all line : List ℕ) → before_newline all ≡ Some line → all ≡ line ++ 10 ∷ behind_newline all
parts [] line is = cc is
parts (b ∷ all) line is = by_test (b == 10) refl is (parts all)
  where
    by_rest : (o : Option (List ℕ)) → option_map (λ (l : List ℕ). b ∷ l) o ≡ Some line → (l : List ℕ) × (o ≡ Some l) × (line ≡ b ∷ l)
    by_rest None is = cc is
    by_rest (Some l) is = (l, refl, cc is)

    by_test : (v : Bool) → (b == 10) ≡ v → cond v (Some []) (option_map (λ (l : List ℕ). b ∷ l) (before_newline all)) ≡ Some line
        → ((line : List ℕ) → before_newline all ≡ Some line → all ≡ line ++ 10 ∷ behind_newline all) → b ∷ all ≡ line ++ 10 ∷ behind_newline (b ∷ all)
    by_test true is same later =
        let empty : line ≡ [] = cc same in
        rw (is, empty, first_byte b is) refl
    by_test false is same later =
        let rest = by_rest (before_newline all) same in
        rw (is, rest.2) (ap (λ (l : List ℕ). b ∷ l) (later rest.0 rest.1))

-- a reply of one line shows nothing
alone_shows_none : (line text : List ℕ) {A : Type 0} → alone line ≡ Shown text → A
alone_shows_none line text is = by_tests (bytes_eq line (codes "0 done")) _ is
  where
    by_tests : {A : Type 0} (v w : Bool) → cond v Done (cond w (Undone 2) (Undone 1)) ≡ Shown text → A
    by_tests true w is = cc is
    by_tests false true is = cc is
    by_tests false false is = cc is

shown_of : (line rest text : List ℕ) → reply_of line rest ≡ Shown text → (line ≡ codes "0 " ++ decimal (length text)) × (rest ≡ text)
shown_of line rest text is = by_test (bytes_eq line (codes "0 " ++ decimal (length rest))) refl is
  where
    by_rest : {A : Type 0} (v : Bool) → cond v (alone line) (Undone 1) ≡ Shown text → A
    by_rest true is = alone_shows_none line text is
    by_rest false is = cc is

    by_test : (v : Bool) → bytes_eq line (codes "0 " ++ decimal (length rest)) ≡ v → cond v (Shown rest) (cond (length rest == 0) (alone line) (Undone 1)) ≡ Shown text
        → (line ≡ codes "0 " ++ decimal (length text)) × (rest ≡ text)
    by_test true same is =
        let all : rest ≡ text = cc is in
        (subst (λ (t : List ℕ). line ≡ codes "0 " ++ decimal (length t)) all ((bytes_eq-Decides line (codes "0 " ++ decimal (length rest))).0 same), all)
    by_test false same is = by_rest (length rest == 0) is

pub whole : ShownTextsAreWhole
whole all text is = by_line (before_newline all) refl is
  where
    by_line : (o : Option (List ℕ)) → before_newline all ≡ o → option_map_or (λ (line : List ℕ). reply_of line (behind_newline all)) o (Undone 1) ≡ Shown text → all ≡ with_length text
    by_line None first is = cc is
    by_line (Some line) first is =
        let shown = shown_of line (behind_newline all) text is in
        parts all line first ∙ ap (λ (l : List ℕ). l ++ 10 ∷ behind_newline all) shown.0 ∙ ap (λ (l : List ℕ). (codes "0 " ++ decimal (length text)) ++ 10 ∷ l) shown.1 ∙ sym (joined text)
