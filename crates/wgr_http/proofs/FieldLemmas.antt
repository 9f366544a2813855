-- The headers of a name, one header after another.
use Rattle.std.proofs.Common.{◌≡◌, ℕ, ◌+◌, ◌<◌, List, [], ◌∷◌, ◌++◌, length, take, drop, map, get_or, refl, sym, ◌∙◌, ap, true, false}
use Rattle.std.proofs.lemmas.List.{take_more, map-append, take-append-drop, append-nil}
use Rattle.std.proofs.lemmas.List.Elements.{filter_map-append}
use Rattle.std.specs.Str.{str_eq_ignore_ascii_case}
use Rattle.httparse.specs.declared.spans.HeaderSpan.{HeaderSpan}
use Rattle.httparse.specs.Spans.{header_bytes}
use Rattle.wgr_http.specs.Field.{IsField, values, value_if, occurrence, field_view}
use Rattle.wgr_http.specs.declared.field_lines.FieldLines.{FieldLines}
use Rattle.wgr_http.specs.declared.field_lines.FieldLines.TheVariants.{Absent, Once, Repeated}

values_at : (name buf : List ℕ) (hs : List HeaderSpan) (i : ℕ) (d : HeaderSpan) → i < length hs
    → values name (map (header_bytes buf) (take (i + 1) hs)) ≡ values name (map (header_bytes buf) (take i hs)) ++ values name (header_bytes buf (get_or hs i d) ∷ [])
values_at name buf hs i d lt =
    ap (λ (x : List HeaderSpan). values name (map (header_bytes buf) x)) (take_more hs i d lt)
    ∙ ap (values name) (map-append (header_bytes buf) (take i hs) (get_or hs i d ∷ []))
    ∙ filter_map-append (value_if name) (map (header_bytes buf) (take i hs)) (header_bytes buf (get_or hs i d) ∷ [])

-- a header of the name
pub values_hit : (name buf : List ℕ) (hs : List HeaderSpan) (i : ℕ) (d : HeaderSpan) → i < length hs → str_eq_ignore_ascii_case (header_bytes buf (get_or hs i d)).0 name ≡ true
    → values name (map (header_bytes buf) (take (i + 1) hs)) ≡ values name (map (header_bytes buf) (take i hs)) ++ (header_bytes buf (get_or hs i d)).1 ∷ []
values_hit name buf hs i d lt hit = rw (values_at name buf hs i d lt, hit) refl

-- another header
pub values_miss : (name buf : List ℕ) (hs : List HeaderSpan) (i : ℕ) (d : HeaderSpan) → i < length hs → str_eq_ignore_ascii_case (header_bytes buf (get_or hs i d)).0 name ≡ false
    → values name (map (header_bytes buf) (take (i + 1) hs)) ≡ values name (map (header_bytes buf) (take i hs))
values_miss name buf hs i d lt miss = rw (values_at name buf hs i d lt, miss) (append-nil (values name (map (header_bytes buf) (take i hs))))

-- the values of a front of the headers come first
pub values_front : (name buf : List ℕ) (hs : List HeaderSpan) (i : ℕ) → values name (map (header_bytes buf) hs) ≡ values name (map (header_bytes buf) (take i hs)) ++ values name (map (header_bytes buf) (drop i hs))
values_front name buf hs i =
    ap (λ (x : List HeaderSpan). values name (map (header_bytes buf) x)) (sym (take-append-drop i hs))
    ∙ ap (values name) (map-append (header_bytes buf) (take i hs) (drop i hs))
    ∙ filter_map-append (value_if name) (map (header_bytes buf) (take i hs)) (map (header_bytes buf) (drop i hs))

-- a second value
pub second : (found : FieldLines) (vs rest : List (List ℕ)) (v : List ℕ) → (found ≡ Absent → ⊥) → IsField found vs → IsField Repeated ((vs ++ v ∷ []) ++ rest)
second Absent vs rest v ne h = absurd (ne refl)
second (Once w) vs rest v ne h = rw h tt
second Repeated [] rest v ne h = absurd h
second Repeated (x ∷ []) rest v ne h = absurd h
second Repeated (x ∷ y ∷ vs) rest v ne h = tt

-- the header of a name, seen as none, one or more
pub field_occurs : (found : FieldLines) (vs : List (List ℕ)) → IsField found vs → field_view found ≡ occurrence vs
field_occurs Absent vs h = rw h refl
field_occurs (Once v) vs h = rw h refl
field_occurs Repeated [] h = absurd h
field_occurs Repeated (v ∷ []) h = absurd h
field_occurs Repeated (v ∷ w ∷ vs) h = refl
