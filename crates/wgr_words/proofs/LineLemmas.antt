-- The first line of a text, and the words of a line.
use Rattle.std.proofs.Common.{◌≡◌, ◌==◌, ◌<◌, ◌≤◌, ◌+◌, ◌-◌, ◌&&◌, ℕ, Bor, get_or, suc, Bool, true, false, cond, not, List, [], ◌∷◌, ◌++◌, All, Option, Some, None, IfSome, length, nat_le, take, drop, codes, option_map, map, refl, ap, subst, sym, ◌∙◌, append-nil, append_assoc, length-append, take-append-drop, arith, ltb}
use Rattle.std.specs.List.{concat, join_with_byte, list_all, position, position_or_len, slice_split}
use Rattle.std.specs.Io.KnownBytes.{Appends, Consumes, IsAtEnd}
use Rattle.std.proofs.Math.Seq.{drop-cons, take-append-add}
use Rattle.std.proofs.lemmas.List.{drop_all, get_or_append_left, length-map, length-take-le, map-append, take_all, take-append-le, take_more}
use Rattle.std.proofs.lemmas.List.Folds.{list_all-map}
use Rattle.std.proofs.lemmas.List.Splits.{slice_split_at, slice_split_none}
use Rattle.std.proofs.lemmas.Bool.Decides.{nat_tests}
use Rattle.std.proofs.lemmas.List.Elements.{All-cons, All-head, All-nil, All-tail}
use Rattle.wgr_io.specs.Device.{AddsPieces, IsCut}
use Rattle.wgr_io.proofs.CutLemmas.{cut_at, cut_behind, cut_longer}
use Rattle.wgr_io.proofs.Pieces.{AddsPieces-trans, concat_push}
use Rattle.wgr_words.specs.Line.{EndAtNewline, IsNoEnd, WrittenWordsAreRead, before_newline, first_line, is_inside, is_line, is_word, line_text}

-- ---- what stands before the first newline

step : (b : ℕ) (text : List ℕ) (v w : Bool) (n : ℕ)
    → option_map (λ (end : ℕ). take end text) (cond w (Some n) None) ≡ before_newline text
    → option_map (λ (end : ℕ). take end (b ∷ text)) (cond (cond (not v) w true) (Some (cond (not v) (suc n) 0)) None) ≡ cond v (Some []) (option_map (λ (line : List ℕ). b ∷ line) (before_newline text))
step b text true w n so = refl
step b text false true n so = rw (sym so) refl
step b text false false n so = rw (sym so) refl

suc_test : (n m : ℕ) → ltb (suc n) (suc m) ≡ ltb n m
suc_test n m = elim (ltb n m) as (λ (v : Bool). ltb n m ≡ v → ltb (suc n) (suc m) ≡ v) [
  | true ↦ λ is. grind (arith, nat_tests, is)
  | false ↦ λ is. grind (arith, nat_tests, is)
] refl

zero_test : (m : ℕ) → ltb 0 (suc m) ≡ true
zero_test m = grind (arith, nat_tests)

tested : (v : Bool) (n m : ℕ) → ltb (cond (not v) (suc n) 0) (suc m) ≡ cond (not v) (ltb n m) true
tested true n m = zero_test m
tested false n m = suc_test n m

pub before_newline_is : (text : List ℕ) → option_map (λ (end : ℕ). take end text) (position (λ (byte : ℕ). byte == 10) text) ≡ before_newline text
before_newline_is [] = refl
before_newline_is (b ∷ text) =
    let v = b == 10 in
    let n = position_or_len (λ (byte : ℕ). byte == 10) text in
    let m = length text in
    let shape : position (λ (byte : ℕ). byte == 10) (b ∷ text) ≡ cond (ltb (cond (not v) (1 + n) 0) (suc m)) (Some (cond (not v) (1 + n) 0)) None = refl in
    let more : 1 + n ≡ suc n = omega arith in
    ap (option_map (λ (end : ℕ). take end (b ∷ text))) (shape ∙ ap (λ (k : ℕ). cond (ltb (cond (not v) k 0) (suc m)) (Some (cond (not v) k 0)) None) more ∙ ap (λ (w : Bool). cond w (Some (cond (not v) (suc n) 0)) None) (tested v n m))
    ∙ step b text v (ltb n m) n (before_newline_is text)

pub ended : (front more line : List ℕ) → before_newline front ≡ Some line → before_newline (front ++ more) ≡ Some line
ended [] more line is = cc is
ended (b ∷ front) more line is = by_test (b == 10) (before_newline front) refl is (ended front more)
  where
    by_test : (v : Bool) (rest : Option (List ℕ)) → rest ≡ before_newline front → cond v (Some []) (option_map (λ (l : List ℕ). b ∷ l) rest) ≡ Some line
        → ((l : List ℕ) → before_newline front ≡ Some l → before_newline (front ++ more) ≡ Some l)
        → cond v (Some []) (option_map (λ (l : List ℕ). b ∷ l) (before_newline (front ++ more))) ≡ Some line
    by_test true rest same is later = is
    by_test false (Some l) same is later = rw (later l (sym same)) is
    by_test false None same is later = cc is

-- with no newline in front, the first one is in what follows
pub onwards : (front more : List ℕ) → before_newline front ≡ None → before_newline (front ++ more) ≡ option_map (λ (line : List ℕ). front ++ line) (before_newline more)
onwards [] more none = same (before_newline more)
  where
    same : (o : Option (List ℕ)) → o ≡ option_map (λ (line : List ℕ). line) o
    same (Some l) = refl
    same None = refl
onwards (b ∷ front) more none = by_test (b == 10) (before_newline front) refl none (onwards front more)
  where
    twice : (o : Option (List ℕ)) → option_map (λ (l : List ℕ). b ∷ l) (option_map (λ (line : List ℕ). front ++ line) o) ≡ option_map (λ (line : List ℕ). b ∷ (front ++ line)) o
    twice (Some l) = refl
    twice None = refl

    by_test : (v : Bool) (rest : Option (List ℕ)) → rest ≡ before_newline front → cond v (Some []) (option_map (λ (l : List ℕ). b ∷ l) rest) ≡ None
        → (before_newline front ≡ None → before_newline (front ++ more) ≡ option_map (λ (line : List ℕ). front ++ line) (before_newline more))
        → cond v (Some []) (option_map (λ (l : List ℕ). b ∷ l) (before_newline (front ++ more))) ≡ option_map (λ (line : List ℕ). b ∷ (front ++ line)) (before_newline more)
    by_test true rest same is later = cc is
    by_test false (Some l) same is later = cc is
    by_test false None same is later = rw (later (sym same)) (twice (before_newline more))

pub later_none : (front more : List ℕ) → before_newline front ≡ None → before_newline (front ++ more) ≡ None → before_newline more ≡ None
later_none front more none both = by_rest (before_newline more) (sym (onwards front more none) ∙ both)
  where
    by_rest : (o : Option (List ℕ)) → option_map (λ (line : List ℕ). front ++ line) o ≡ None → o ≡ None
    by_rest (Some l) is = cc is
    by_rest None is = refl

pub both_none : (front more : List ℕ) → before_newline front ≡ None → before_newline more ≡ None → before_newline (front ++ more) ≡ None
both_none front more none other = onwards front more none ∙ rw other refl

-- ---- the first line

short_front : (n : ℕ) (front rest : List ℕ) → length front ≤ n → take n (front ++ rest) ≡ front ++ take (n - length front) rest
short_front n front rest short =
    let parts : length front + (n - length front) ≡ n = omega (arith, short) in
    subst (λ (m : ℕ). take m (front ++ rest) ≡ front ++ take (n - length front) rest) parts (take-append-add front rest (n - length front))

pub line_ended : (front rest line : List ℕ) → length front ≤ 4096 → before_newline front ≡ Some line → first_line (front ++ rest) ≡ Some line
line_ended front rest line short is = rw (short_front 4096 front rest short) (ended front (take (4096 - length front) rest) line is)

pub none_in_all : (front : List ℕ) → length front ≤ 4096 → before_newline front ≡ None → first_line front ≡ None
none_in_all front short none = rw (take_all 4096 front short) none

pub none_in_most : (front rest : List ℕ) → length front ≡ 4096 → before_newline front ≡ None → first_line (front ++ rest) ≡ None
none_in_most front rest full none =
    let short : length front ≤ 4096 = omega (arith, full) in
    rw (take-append-le 4096 front rest (omega (arith, full)), take_all 4096 front short) none

-- ---- the words

abbrev HasNo : ℕ → List ℕ → Type 0
HasNo c text = All (λ (b : ℕ). (b == c) ≡ false) text

pub words_joined : (words : List (List ℕ)) → 0 < length words → All (HasNo 32) words → slice_split (λ (b : ℕ). b == 32) (join_with_byte 32 words) ≡ words
words_joined [] some free = absurd (omega (arith, some))
words_joined (word ∷ []) some free = slice_split_none (λ (b : ℕ). b == 32) word (All-head (HasNo 32) word [] free)
words_joined (word ∷ next ∷ words) some free =
    slice_split_at (λ (b : ℕ). b == 32) word 32 (join_with_byte 32 (next ∷ words)) (All-head (HasNo 32) word (next ∷ words) free) refl
    ∙ ap (λ (l : List (List ℕ)). word ∷ l) (words_joined (next ∷ words) (omega arith) (All-tail (HasNo 32) word (next ∷ words) free))

none_in_word : (word : List ℕ) → HasNo 10 word → before_newline word ≡ None
none_in_word [] free = refl
none_in_word (b ∷ word) free =
    let differs : (b == 10) ≡ false = All-head (λ (b : ℕ). (b == 10) ≡ false) b word free in
    rw (differs, none_in_word word (All-tail (λ (b : ℕ). (b == 10) ≡ false) b word free)) refl

pub line_joined : (words : List (List ℕ)) → All (HasNo 10) words → before_newline (join_with_byte 32 words) ≡ None
line_joined [] free = refl
line_joined (word ∷ []) free = none_in_word word (All-head (HasNo 10) word [] free)
line_joined (word ∷ next ∷ words) free =
    let rest : before_newline (32 ∷ join_with_byte 32 (next ∷ words)) ≡ None = rw (line_joined (next ∷ words) (All-tail (HasNo 10) word (next ∷ words) free)) refl in
    both_none word (32 ∷ join_with_byte 32 (next ∷ words)) (none_in_word word (All-head (HasNo 10) word (next ∷ words) free)) rest

and_both : (a b : Bool) → (a && b) ≡ true → (a ≡ true) × (b ≡ true)
and_both true true is = (refl, refl)
and_both true false is = cc is
and_both false b is = cc is

is_no : (v : Bool) → not v ≡ true → v ≡ false
is_no true is = cc is
is_no false is = refl

word_free : (word : List ℕ) → list_all is_inside word ≡ true → HasNo 32 word × HasNo 10 word
word_free [] is = (All-nil (λ (b : ℕ). (b == 32) ≡ false), All-nil (λ (b : ℕ). (b == 10) ≡ false))
word_free (b ∷ word) is =
    let both = and_both (not (b == 32) && not (b == 10)) (list_all is_inside word) is in
    let here = and_both (not (b == 32)) (not (b == 10)) both.0 in
    let later = word_free word both.1 in
    (All-cons (λ (x : ℕ). (x == 32) ≡ false) b word (is_no _ here.0) later.0, All-cons (λ (x : ℕ). (x == 10) ≡ false) b word (is_no _ here.1) later.1)

words_free : (words : List (List ℕ)) → list_all is_word words ≡ true → All (HasNo 32) words × All (HasNo 10) words
words_free [] is = (All-nil (HasNo 32), All-nil (HasNo 10))
words_free (word ∷ words) is =
    let both = and_both (is_word word) (list_all is_word words) is in
    let here = word_free word (and_both (not (length word == 0)) _ both.0).1 in
    let later = words_free words both.1 in
    (All-cons (HasNo 32) word words here.0 later.0, All-cons (HasNo 10) word words here.1 later.1)

some_words : (n : ℕ) → not (n == 0) ≡ true → 0 < n
some_words n some = grind (arith, nat_tests)

pub read_again : WrittenWordsAreRead
read_again words rest is =
    let both = and_both (not (length words == 0) && list_all is_word words) (nat_le (length (line_text words)) 4096) is in
    let parts = and_both (not (length words == 0)) (list_all is_word words) both.0 in
    let free = words_free words parts.1 in
    let short : length (line_text words) ≤ 4096 = grind (arith, both.1, nat_tests) in
    let none : before_newline (join_with_byte 32 words) ≡ None = line_joined words free.1 in
    let whole : before_newline (line_text words) ≡ Some (join_with_byte 32 words) =
    onwards (join_with_byte 32 words) (codes "\n") none ∙ ap Some (append-nil (join_with_byte 32 words)) in
    (join_with_byte 32 words, line_ended (line_text words) rest (join_with_byte 32 words) short whole, words_joined words (some_words (length words) parts.0) free.0)

-- ---- how long a line is

-- the bytes of the words, and one behind each
abbrev pub total : List (List ℕ) → ℕ
total [] = 0
total (word ∷ words) = length word + 1 + total words

pub line_long : (words : List (List ℕ)) → 0 < length words → length (line_text words) ≡ total words
line_long [] some = absurd (omega (arith, some))
line_long (word ∷ []) some = omega (arith, length-append word (codes "\n"))
line_long (word ∷ next ∷ words) some =
    let rest = line_long (next ∷ words) (omega arith) in
    let here = length-append (word ++ 32 ∷ join_with_byte 32 (next ∷ words)) (codes "\n") in
    let parts = length-append word (32 ∷ join_with_byte 32 (next ∷ words)) in
    let later = length-append (join_with_byte 32 (next ∷ words)) (codes "\n") in
    omega (arith, rest, here, parts, later)

-- the texts that the slices name
abbrev pub texts : List (Bor (List ℕ)) → List (List ℕ)
texts words = map (λ (word : Bor (List ℕ)). word.now) words

pub total_left : (words : List (Bor (List ℕ))) (i : ℕ) (d : Bor (List ℕ)) → i < length words → total (texts (drop i words)) ≡ length (get_or words i d).now + 1 + total (texts (drop (i + 1) words))
total_left words i d within =
    let next : i + 1 ≡ suc i = omega arith in
    rw (next, drop-cons words i d within) refl

pub long_line : (words : List (Bor (List ℕ))) (i left : ℕ) (d : Bor (List ℕ)) → i < length words → total (texts (drop i words)) + 4096 ≡ total (texts words) + left → left ≤ length (get_or words i d).now
    → false ≡ nat_le (length (line_text (texts words))) 4096
long_line words i left d within counted long =
    let some : 0 < length (texts words) = omega (arith, within, length-map words (λ (word : Bor (List ℕ)). word.now)) in
    let bytes = line_long (texts words) some in
    let step = total_left words i d within in
    let more : 4096 < length (line_text (texts words)) = omega (arith, bytes, step, counted, long) in
    grind (arith, more, nat_tests)

pub short_line : (words : List (Bor (List ℕ))) (i left : ℕ) → length words ≤ i → total (texts (drop i words)) + 4096 ≡ total (texts words) + left → true ≡ nat_le (length (line_text (texts words))) 4096
short_line [] i left past counted = refl
short_line (word ∷ words) i left past counted =
    let some : 0 < length (texts (word ∷ words)) = omega (arith, length-map (word ∷ words) (λ (word : Bor (List ℕ)). word.now)) in
    let bytes = line_long (texts (word ∷ words)) some in
    let none : total (texts (drop i (word ∷ words))) ≡ 0 = rw (drop_all i (word ∷ words) past) refl in
    let fits : length (line_text (texts (word ∷ words))) ≤ 4096 = omega (arith, bytes, none, counted) in
    grind (arith, fits, nat_tests)

pub line_test : (words : List (Bor (List ℕ))) (are short : Bool) → false ≡ (length words == 0) → are ≡ list_all (λ (word : Bor (List ℕ)). is_word word.now) words
    → short ≡ nat_le (length (line_text (texts words))) 4096 → (are && short) ≡ is_line (texts words)
line_test words are short some words_are short_is =
    rw (length-map words (λ (word : Bor (List ℕ)). word.now), sym some, list_all-map is_word (λ (word : Bor (List ℕ)). word.now) words, sym words_are, sym short_is) refl

-- ---- reading

-- what stands in front after one more read
pub more_front : (len count : ℕ) (front buf tail : List ℕ) → len ≤ length front → count ≤ length buf → take (len + count) (take len front ++ (buf ++ tail)) ≡ take len front ++ take count buf
more_front len count front buf tail within some =
    subst (λ (n : ℕ). take (n + count) (take len front ++ (buf ++ tail)) ≡ take len front ++ take count buf) (length-take-le len front within)
    (take-append-add (take len front) (buf ++ tail) count ∙ ap (λ (l : List ℕ). take len front ++ l) (take-append-le count buf tail some))

pub line_found : (old new : Option (List ℕ)) (front line : List ℕ) → Consumes old new front → length front ≤ 4096 → Some line ≡ before_newline front → IfSome old (λ (all : List ℕ). Some line ≡ first_line all)
line_found None new front line consumed short is = tt
line_found (Some all) None front line consumed short is = absurd consumed
line_found (Some all) (Some rest) front line consumed short is = rw consumed (sym (line_ended front rest line short (sym is)))

pub no_line_at_end : (old new : Option (List ℕ)) (front : List ℕ) → Consumes old new front → IsAtEnd new → length front ≤ 4096 → before_newline front ≡ None → IfSome old (λ (all : List ℕ). None ≡ first_line all)
no_line_at_end None new front consumed at_end short none = tt
no_line_at_end (Some all) None front consumed at_end short none = absurd consumed
no_line_at_end (Some all) (Some rest) front consumed at_end short none = rw (consumed, at_end, append-nil front) (sym (none_in_all front short none))

pub no_line_in_most : (old new : Option (List ℕ)) (front : List ℕ) → Consumes old new front → length front ≡ 4096 → before_newline front ≡ None → IfSome old (λ (all : List ℕ). None ≡ first_line all)
no_line_in_most None new front consumed full none = tt
no_line_in_most (Some all) None front consumed full none = absurd consumed
no_line_in_most (Some all) (Some rest) front consumed full none = rw consumed (sym (none_in_most front rest full none))

-- one more call, after those that gave some bytes and no newline
end_push : (pieces : List (List ℕ)) (piece : List ℕ) → All IsNoEnd pieces → EndAtNewline (pieces ++ piece ∷ [])
end_push pieces piece gave k lt =
    let inside : k < length pieces = omega (arith, length-append pieces (piece ∷ [])) in
    rw (get_or_append_left pieces (piece ∷ []) [] k inside) (gave k [] inside)

pub more_pieces : (a b c : Option (List (List ℕ))) (pieces : List (List ℕ)) (piece front : List ℕ) → AddsPieces a b pieces → All IsNoEnd pieces → front ≡ concat pieces → AddsPieces b c (piece ∷ [])
    → (ps : List (List ℕ)) × AddsPieces a c ps × EndAtNewline ps × (front ++ piece ≡ concat ps)
more_pieces a b c pieces piece front first gave is one =
    (pieces ++ piece ∷ [], AddsPieces-trans a b c pieces (piece ∷ []) first one, end_push pieces piece gave, ap (λ (l : List ℕ). l ++ piece) is ∙ sym (concat_push pieces piece))

pub line_of_pieces : (front all : List ℕ) (line : Option (List ℕ)) → length front ≤ 4096 → line ≡ before_newline front → front ≡ all → line ≡ first_line all
line_of_pieces front all line short is same = is ∙ ap before_newline (sym (take_all 4096 front short)) ∙ ap first_line same

-- ---- writing

join_push : (x : List ℕ) (xs : List (List ℕ)) (word : List ℕ) → join_with_byte 32 (x ∷ (xs ++ word ∷ [])) ≡ join_with_byte 32 (x ∷ xs) ++ (32 ∷ word)
join_push x [] word = refl
join_push x (y ∷ xs) word =
    ap (λ (l : List ℕ). x ++ (32 ∷ l)) (join_push y xs word) ∙ sym (append_assoc x (32 ∷ join_with_byte 32 (y ∷ xs)) (32 ∷ word))

-- what is written once the next word is
pub words_more : (first : List ℕ) (rest : List (Bor (List ℕ))) (i : ℕ) (d : Bor (List ℕ)) → i < length rest
    → join_with_byte 32 (first ∷ texts (take (i + 1) rest)) ≡ join_with_byte 32 (first ∷ texts (take i rest)) ++ (32 ∷ (get_or rest i d).now)
words_more first rest i d within =
    rw (take_more rest i d within, map-append (λ (word : Bor (List ℕ)). word.now) (take i rest) (get_or rest i d ∷ [])) (join_push first (texts (take i rest)) (get_or rest i d).now)

-- ---- writing that fails

join_append : (x : List ℕ) (xs ys : List (List ℕ)) → (more : List ℕ) × (join_with_byte 32 (x ∷ (xs ++ ys)) ≡ join_with_byte 32 (x ∷ xs) ++ more)
join_append x [] [] = ([], sym (append-nil x))
join_append x [] (y ∷ ys) = (32 ∷ join_with_byte 32 (y ∷ ys), refl)
join_append x (z ∷ xs) ys =
    let (more, is) = join_append z xs ys in
    (more, ap (λ (l : List ℕ). x ++ (32 ∷ l)) is ∙ sym (append_assoc x (32 ∷ join_with_byte 32 (z ∷ xs)) more))

-- in the first word
pub cut_first : (old new : Option (List ℕ)) (first bytes : List ℕ) (rest : List (List ℕ)) (sent : ℕ) → bytes ≡ first → Appends old new (take sent bytes) → IsCut old new (join_with_byte 32 (first ∷ rest))
cut_first old new first bytes rest sent is written =
    let (more, whole) = join_append first [] rest in
    subst (IsCut old new) (sym whole) (cut_longer old new first more (subst (IsCut old new) is (cut_at sent old new bytes written)))

-- in the next one
pub cut_next : (old mid new : Option (List ℕ)) (first : List ℕ) (rest : List (Bor (List ℕ))) (i : ℕ) (d : Bor (List ℕ)) → i < length rest → Appends old mid (join_with_byte 32 (first ∷ texts (take i rest)))
    → IsCut mid new (32 ∷ (get_or rest i d).now) → IsCut old new (join_with_byte 32 (first ∷ texts rest))
cut_next old mid new first rest i d within wrote cut =
    let (more, is) = join_append first (texts (take (i + 1) rest)) (texts (drop (i + 1) rest)) in
    let parted : texts rest ≡ texts (take (i + 1) rest) ++ texts (drop (i + 1) rest) =
    ap (λ (words : List (Bor (List ℕ))). texts words) (sym (take-append-drop (i + 1) rest)) ∙ map-append (λ (word : Bor (List ℕ)). word.now) (take (i + 1) rest) (drop (i + 1) rest) in
    let whole : join_with_byte 32 (first ∷ texts rest) ≡ (join_with_byte 32 (first ∷ texts (take i rest)) ++ (32 ∷ (get_or rest i d).now)) ++ more =
    ap (λ (words : List (List ℕ)). join_with_byte 32 (first ∷ words)) parted ∙ is ∙ ap (λ (l : List ℕ). l ++ more) (words_more first rest i d within) in
    subst (IsCut old new) (sym whole)
    (cut_longer old new _ more (cut_behind old mid new (join_with_byte 32 (first ∷ texts (take i rest))) (32 ∷ (get_or rest i d).now) wrote cut))
