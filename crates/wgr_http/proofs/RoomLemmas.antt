-- A head of at most 32 fields, from one that goes on after bytes in which no more have begun.
use Rattle.std.proofs.Common.{◌≡◌, ℕ, ◌+◌, ◌<◌, ◌≤◌, ◌⊎◌, true, false, List, [], ◌∷◌, ◌++◌, length, arith, refl, sym, ◌∙◌, ap, append-nil, append_assoc, inl, inr, codes, All}
use Rattle.std.specs.List.{flat_map}
use Rattle.std.proofs.lemmas.List.Elements.{All-append, All-cons, All-from_recursion, All-head, All-nil, All-tail, All-weaker}
use Rattle.httparse.proofs.GrammarLemmas.{cons-append, print_request-append}
use Rattle.httparse.specs.Grammar.{Field, IsField, HasNoRequest, LineEnd, lf, RequestHead, IsRequestHead, ReadsRequest, ReadsSection, print_blank, print_end, print_field, print_request, print_section, print_version}
use Rattle.wgr_http.specs.Head.{MayBecomeHead}
use Rattle.wgr_http.specs.Unfinished.{begun_lines}
use Rattle.wgr_http.proofs.LineLemmas.{IsPlain, begun_blank, begun_end, begun_field, begun_grows, begun_line, begun_section, field_begins, token_byte, uri_byte}

-- one text, cut at two places
pub two_cuts : (a b x y : List ℕ) → a ++ b ≡ x ++ y → ((z : List ℕ) × (a ≡ x ++ z) × (z ++ b ≡ y)) ⊎ ((z : List ℕ) × (x ≡ a ++ z) × (b ≡ z ++ y))
two_cuts [] b x y same = inr (x, refl, same)
two_cuts (c ∷ a) b [] y same = inl (c ∷ a, refl, same)
two_cuts (c ∷ a) b (d ∷ x) y same =
    let first : c ≡ d = cc same in
    let rest : a ++ b ≡ x ++ y = cc same in
    elim (two_cuts a b x y rest) [
      | inl w ↦ inl (w.0, cc (first, w.1), w.2)
      | inr w ↦ inr (w.0, cc (first, w.1), w.2)
    ]

section_cons : (f : Field) (fields : List Field) (last : LineEnd) (rest : List ℕ) → print_section (f ∷ fields) last ++ rest ≡ print_field f ++ (print_section fields last ++ rest)
section_cons f fields last rest =
    ap (λ (x : List ℕ). x ++ rest) (append_assoc (print_field f) (flat_map print_field fields) (print_end last)) ∙ append_assoc (print_field f) (print_section fields last) rest

-- ---- fields

-- bytes make the text a section that has no more fields than have begun in it
record Fewer (text : List ℕ) : Type 0 where
  fields : List Field
  last : LineEnd
  more : List ℕ
  reads : ReadsSection (text ++ more) fields last []
  few : length fields ≤ begun_lines true text

fewer : (text more : List ℕ) (fields : List Field) (last : LineEnd) → All IsField fields → text ++ more ≡ print_section fields last → Fewer text
fewer text more [] last are same = record { fields = []; last = last; more = more; reads = (are, same ∙ sym (append-nil (print_end last))); few = omega arith }
fewer [] more (f ∷ fields) last are same = record { fields = []; last = lf; more = 10 ∷ []; reads = (All-nil IsField, refl); few = omega arith }
fewer (b ∷ bs) more (f ∷ fields) last are same =
    let is : IsField f = All-head IsField f fields are in
    let text : List ℕ = b ∷ bs in
    elim (two_cuts text more (print_field f) (print_section fields last) (same ∙ append_assoc (print_field f) (flat_map print_field fields) (print_end last))) [
      | inl w ↦
          let rest : Fewer w.0 = fewer w.0 more fields last (All-tail IsField f fields are) w.2 in
          record {
            fields = f ∷ rest.fields;
            last = rest.last;
            more = rest.more;
            reads = (
              All-cons IsField f rest.fields is rest.reads.0,
              ap (λ (x : List ℕ). x ++ rest.more) w.1 ∙ append_assoc (print_field f) w.0 rest.more
                  ∙ ap (λ (x : List ℕ). print_field f ++ x) rest.reads.1 ∙ sym (section_cons f rest.fields rest.last []),
            );
            few = omega (arith, rest.few, ap (begun_lines true) w.1, begun_field f w.0 is);
          }
      | inr w ↦ record {
        fields = f ∷ [];
        last = lf;
        more = w.0 ++ 10 ∷ [];
        reads = (
          All-cons IsField f [] is (All-nil IsField),
          sym (append_assoc text w.0 (10 ∷ [])) ∙ ap (λ (x : List ℕ). x ++ 10 ∷ []) (sym w.1) ∙ sym (section_cons f [] lf []),
        );
        few = field_begins b bs w.0 [] f is (sym w.1 ∙ sym (append-nil (print_field f)));
      }
    ]

-- ---- heads

abbrev start : RequestHead → List ℕ
start h = print_blank h.blank ++ (h.method ++ 32 ∷ (h.target ++ 32 ∷ (print_version h.minor ++ print_end h.line_end)))

print_start : (h : RequestHead) (rest : List ℕ) → print_request h ++ rest ≡ start h ++ (print_section h.fields h.last ++ rest)
print_start h rest =
    print_request-append h rest ∙ sym (regroup (print_blank h.blank) h.method h.target (print_version h.minor) (print_end h.line_end) (print_section h.fields h.last ++ rest))
  where
    regroup : (a b c d e r : List ℕ) → (a ++ (b ++ 32 ∷ (c ++ 32 ∷ (d ++ e)))) ++ r ≡ a ++ (b ++ 32 ∷ (c ++ 32 ∷ (d ++ (e ++ r))))
    regroup a b c d e r = simp append_assoc

plain_at : (b : ℕ) → 13 < b → IsPlain b
plain_at b lt = (λ e. omega (arith, lt, e), λ e. omega (arith, lt, e))

version_plain : (minor : ℕ) → All IsPlain (print_version minor)
version_plain minor =
    All-append IsPlain (codes "HTTP/1.") ((48 + minor) ∷ [])
    (All-from_recursion IsPlain (codes "HTTP/1.")
    (plain_at 72 (omega arith), (plain_at 84 (omega arith), (plain_at 84 (omega arith), (plain_at 80 (omega arith), (plain_at 47 (omega arith), (plain_at 49 (omega arith), (plain_at 46 (omega arith), tt))))))))
    (All-cons IsPlain (48 + minor) [] (plain_at (48 + minor) (omega arith)) (All-nil IsPlain))

begun_start : (h : RequestHead) (rest : List ℕ) → IsRequestHead h → begun_lines true (start h ++ rest) ≡ 1 + begun_lines true rest
begun_start h rest is =
    let line : List ℕ = h.method ++ 32 ∷ (h.target ++ 32 ∷ print_version h.minor) in
    let plain : All IsPlain line =
    All-append IsPlain h.method (32 ∷ (h.target ++ 32 ∷ print_version h.minor)) (All-weaker _ IsPlain token_byte h.method is.method.1)
    (All-cons IsPlain 32 (h.target ++ 32 ∷ print_version h.minor) (plain_at 32 (omega arith))
    (All-append IsPlain h.target (32 ∷ print_version h.minor) (All-weaker _ IsPlain uri_byte h.target is.target.1)
    (All-cons IsPlain 32 (print_version h.minor) (plain_at 32 (omega arith)) (version_plain h.minor)))) in
    ap (begun_lines true) (regroup (print_blank h.blank) h.method h.target (print_version h.minor) (print_end h.line_end) rest)
    ∙ begun_blank h.blank (line ++ (print_end h.line_end ++ rest))
    ∙ begun_line line (print_end h.line_end ++ rest) (longer h.method _ is.method.0) plain
    ∙ ap (λ n. 1 + n) (begun_end false h.line_end rest)
  where
    regroup : (a b c d e r : List ℕ) → (a ++ (b ++ 32 ∷ (c ++ 32 ∷ (d ++ e)))) ++ r ≡ a ++ ((b ++ 32 ∷ (c ++ 32 ∷ d)) ++ (e ++ r))
    regroup a b c d e r = simp (append_assoc, cons-append)

    longer : (a b : List ℕ) → 0 < length a → 0 < length (a ++ b)
    longer [] b lt = absurd (omega (arith, lt))
    longer (x ∷ a) b lt = omega arith

abbrev with_fields : RequestHead → List Field → LineEnd → RequestHead
with_fields h fields last = record { blank = h.blank; method = h.method; target = h.target; minor = h.minor; line_end = h.line_end; fields = fields; last = last }

with_is : (h : RequestHead) (fields : List Field) (last : LineEnd) → IsRequestHead h → All IsField fields → IsRequestHead (with_fields h fields last)
with_is h fields last is are = record { method = is.method; target = is.target; target_text = is.target_text; minor = is.minor; fields = are }

-- no 33rd field has begun
pub room_may : (front more : List ℕ) (h : RequestHead) → ReadsRequest (front ++ more) h [] → begun_lines true front ≤ 33 → MayBecomeHead front
room_may front more h reads few = elim (two_cuts front more (start h) (print_section h.fields h.last ++ []) (reads.1 ∙ print_start h [])) [
  | inl w ↦
      let rest : Fewer w.0 = fewer w.0 more h.fields h.last reads.0.fields (w.2 ∙ append-nil (print_section h.fields h.last)) in (
        with_fields h rest.fields rest.last,
        record {
          more = rest.more;
          rest = [];
          reads = (
            with_is h rest.fields rest.last reads.0 rest.reads.0,
            ap (λ (x : List ℕ). x ++ rest.more) w.1 ∙ append_assoc (start h) w.0 rest.more
                ∙ ap (λ (x : List ℕ). start h ++ x) rest.reads.1 ∙ sym (print_start (with_fields h rest.fields rest.last) []),
          );
          few = omega (arith, few, rest.few, ap (begun_lines true) w.1, begun_start h w.0 reads.0);
        },
      )
  | inr w ↦ (
    with_fields h [] lf,
    record {
      more = w.0 ++ 10 ∷ [];
      rest = [];
      reads = (
        with_is h [] lf reads.0 (All-nil IsField),
        sym (append_assoc front w.0 (10 ∷ [])) ∙ ap (λ (x : List ℕ). x ++ 10 ∷ []) (sym w.1) ∙ sym (print_start (with_fields h [] lf) []),
      );
      few = omega arith;
    },
  )
]

-- a 33rd field has begun
pub room_never : (front : List ℕ) → HasNoRequest front → 33 < begun_lines true front → ¬ (MayBecomeHead front)
room_never front no_request over (h, b) = elim (two_cuts front b.more (print_request h) b.rest b.reads.1) [
  | inl w ↦ absurd (no_request h w.0 (b.reads.0, w.1))
  | inr w ↦
      let all : begun_lines true (print_request h) ≡ 1 + (length h.fields + 0) =
      ap (begun_lines true) (sym (append-nil (print_request h)) ∙ print_start h []) ∙ begun_start h (print_section h.fields h.last ++ []) b.reads.0
      ∙ ap (λ n. 1 + n) (begun_section h.fields h.last [] b.reads.0.fields) in
      omega (arith, over, b.few, all, begun_grows true front w.0, ap (begun_lines true) w.1)
]
