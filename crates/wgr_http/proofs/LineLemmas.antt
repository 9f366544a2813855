-- The lines that have begun, and the fields of a head.
use Rattle.std.proofs.Common.{◌≡◌, ◌≢◌, ℕ, ◌+◌, ◌<◌, ◌≤◌, Bool, true, false, cond, List, [], ◌∷◌, ◌++◌, length, arith, refl, sym, ◌∙◌, ap, subst, append_assoc, All}
use Rattle.std.specs.Prelude.{◌==◌, IsTrue}
use Rattle.std.specs.List.{flat_map}
use Rattle.std.proofs.lemmas.List.Elements.{All-append, All-cons, All-head, All-tail, All-weaker}
use Rattle.httparse.specs.Grammar.{Field, IsField, LineEnd, crlf, lf, is_token_byte, is_uri_byte, is_value_byte, print_blank, print_end, print_field, print_section}
use Rattle.wgr_http.specs.Unfinished.{begun_lines}

-- no byte that ends a line
abbrev pub IsPlain : ℕ → Type 0
IsPlain b = (b ≢ 10) × (b ≢ 13)

pub token_byte : (b : ℕ) → IsTrue (is_token_byte b) → IsPlain b
unfolding is_token_byte
token_byte b is = (λ e. (let bad = rw e at is in cc bad), λ e. (let bad = rw e at is in cc bad))

pub uri_byte : (b : ℕ) → IsTrue (is_uri_byte b) → IsPlain b
uri_byte b is = (λ e. (let bad = rw e at is in cc bad), λ e. (let bad = rw e at is in cc bad))

value_byte : (b : ℕ) → IsTrue (is_value_byte b) → IsPlain b
value_byte b is = (λ e. (let bad = rw e at is in cc bad), λ e. (let bad = rw e at is in cc bad))

-- ---- how many lines begin

pub begun_plain : (fresh : Bool) (b : ℕ) (bs : List ℕ) → IsPlain b → begun_lines fresh (b ∷ bs) ≡ cond fresh 1 0 + begun_lines false bs
begun_plain fresh b bs plain =
    let not10 : (b == 10) ≡ false = grind (arith, plain.0) in
    let not13 : (b == 13) ≡ false = grind (arith, plain.1) in
    rw (not10, not13) refl

pub begun_within : (bs rest : List ℕ) → All IsPlain bs → begun_lines false (bs ++ rest) ≡ begun_lines false rest
begun_within [] rest plain = refl
begun_within (b ∷ bs) rest plain =
    let more = begun_within bs rest (All-tail IsPlain b bs plain) in
    omega (arith, begun_plain false b (bs ++ rest) (All-head IsPlain b bs plain), more)

pub begun_line : (bs rest : List ℕ) → 0 < length bs → All IsPlain bs → begun_lines true (bs ++ rest) ≡ 1 + begun_lines false rest
begun_line [] rest some plain = absurd (omega (arith, some))
begun_line (b ∷ bs) rest some plain =
    begun_plain true b (bs ++ rest) (All-head IsPlain b bs plain) ∙ ap (λ n. 1 + n) (begun_within bs rest (All-tail IsPlain b bs plain))

pub begun_end : (fresh : Bool) (e : LineEnd) (rest : List ℕ) → begun_lines fresh (print_end e ++ rest) ≡ begun_lines true rest
begun_end fresh crlf rest = refl
begun_end fresh lf rest = refl

pub begun_blank : (ends : List LineEnd) (rest : List ℕ) → begun_lines true (print_blank ends ++ rest) ≡ begun_lines true rest
begun_blank [] rest = refl
begun_blank (e ∷ ends) rest =
    ap (begun_lines true) (append_assoc (print_end e) (print_blank ends) rest) ∙ begun_end true e (print_blank ends ++ rest) ∙ begun_blank ends rest

step_grows : (fresh ten thirteen : Bool) (a b c a2 b2 c2 : ℕ) → a ≤ a2 → b ≤ b2 → c ≤ c2
    → cond ten a (cond thirteen b (cond fresh 1 0 + c)) ≤ cond ten a2 (cond thirteen b2 (cond fresh 1 0 + c2))
step_grows fresh true thirteen a b c a2 b2 c2 x y z = x
step_grows fresh false true a b c a2 b2 c2 x y z = y
step_grows fresh false false a b c a2 b2 c2 x y z = omega (arith, z)

pub begun_grows : (fresh : Bool) (bs more : List ℕ) → begun_lines fresh bs ≤ begun_lines fresh (bs ++ more)
begun_grows fresh [] more = omega arith
begun_grows fresh (b ∷ bs) more =
    step_grows fresh (b == 10) (b == 13) _ _ _ _ _ _ (begun_grows true bs more) (begun_grows fresh bs more) (begun_grows false bs more)

-- ---- fields and the request line

field_plain : (f : Field) → IsField f → All IsPlain (f.name ++ 58 ∷ f.raw)
field_plain f is =
    All-append IsPlain f.name (58 ∷ f.raw) (All-weaker _ IsPlain token_byte f.name is.name.1)
    (All-cons IsPlain 58 f.raw (λ e. omega (arith, e), λ e. omega (arith, e)) (All-weaker _ IsPlain value_byte f.raw is.raw))

some_bytes : (name rest : List ℕ) → 0 < length name → 0 < length (name ++ rest)
some_bytes [] rest lt = absurd (omega (arith, lt))
some_bytes (b ∷ name) rest lt = omega arith

pub begun_field : (f : Field) (rest : List ℕ) → IsField f → begun_lines true (print_field f ++ rest) ≡ 1 + begun_lines true rest
begun_field f rest is =
    let text : List ℕ = f.name ++ 58 ∷ f.raw in
    ap (begun_lines true) (append_assoc text (print_end f.end) rest)
    ∙ begun_line text (print_end f.end ++ rest) (some_bytes f.name (58 ∷ f.raw) is.name.0) (field_plain f is)
    ∙ ap (λ n. 1 + n) (begun_end false f.end rest)

-- a field line has begun by its first byte
pub field_begins : (b : ℕ) (bs more rest : List ℕ) (f : Field) → IsField f → (b ∷ bs) ++ more ≡ print_field f ++ rest → 1 ≤ begun_lines true (b ∷ bs)
field_begins b bs more rest f is same = first b bs more (f.name ++ 58 ∷ f.raw) (print_end f.end ++ rest) (some_bytes f.name (58 ∷ f.raw) is.name.0) (field_plain f is)
    (same ∙ append_assoc (f.name ++ 58 ∷ f.raw) (print_end f.end) rest)
  where
    head_is : (a c : ℕ) (x y : List ℕ) → a ∷ x ≡ c ∷ y → a ≡ c
    head_is a c x y e = cc e

    first : (b : ℕ) (bs more line rest : List ℕ) → 0 < length line → All IsPlain line → (b ∷ bs) ++ more ≡ line ++ rest → 1 ≤ begun_lines true (b ∷ bs)
    first b bs more [] rest some plain same = absurd (omega (arith, some))
    first b bs more (c ∷ line) rest some plain same =
        let is : b ≡ c = head_is b c (bs ++ more) (line ++ rest) same in
        omega (arith, begun_plain true b bs (subst IsPlain (sym is) (All-head IsPlain c line plain)))

pub begun_section : (fields : List Field) (last : LineEnd) (rest : List ℕ) → All IsField fields
    → begun_lines true (print_section fields last ++ rest) ≡ length fields + begun_lines true rest
begun_section [] last rest are = omega (arith, begun_end true last rest)
begun_section (f ∷ fields) last rest are =
    ap (begun_lines true) (ap (λ (x : List ℕ). x ++ rest) (append_assoc (print_field f) (flat_map print_field fields) (print_end last)) ∙ append_assoc (print_field f) (print_section fields last) rest)
    ∙ begun_field f (print_section fields last ++ rest) (All-head IsField f fields are)
    ∙ (let rec = begun_section fields last rest (All-tail IsField f fields are) in omega (arith, rec))
