-- The header fields of one name (RFC 9110 sections 5.1 to 5.3).
use Rattle.std.specs.Prelude.{◌≡◌, ℕ, List, [], ◌∷◌, map, Option, Some, None, if◌then◌else◌}
use Rattle.std.specs.List.{filter_map}
use Rattle.std.specs.Str.{str_eq_ignore_ascii_case}
use Rattle.httparse.specs.Grammar.{RequestHead}
use Rattle.httparse.specs.Spans.{name_and_value}
use Rattle.wgr_http.specs.declared.field_lines.FieldLines.{FieldLines}
use Rattle.wgr_http.specs.declared.field_lines.FieldLines.TheVariants.{Absent, Once, Repeated}

-- the value of a field, if it has the name, without regard to case
abbrev pub value_if : List ℕ → List ℕ × List ℕ → Option (List ℕ)
value_if name field = if str_eq_ignore_ascii_case field.0 name then Some field.1 else None

-- the values of the fields of a name, in their order
abbrev pub values : List ℕ → List (List ℕ × List ℕ) → List (List ℕ)
values name fields = filter_map (value_if name) fields

-- how often a name occurs
pub data Occurrence : Type 0 where
  absent : Occurrence
  once : List ℕ → Occurrence
  repeated : Occurrence

abbrev pub occurrence : List (List ℕ) → Occurrence
occurrence [] = absent
occurrence (v ∷ []) = once v
occurrence (v ∷ w ∷ vs) = repeated

-- how often a name occurs in a head; blanks at the ends of a value are no part of it
abbrev pub in_head : List ℕ → RequestHead → Occurrence
in_head name h = occurrence (values name (map name_and_value h.fields))

abbrev pub field_view : FieldLines → Occurrence
field_view Absent = absent
field_view (Once v) = once v.now
field_view Repeated = repeated

-- what is answered for the values of a name
abbrev pub IsField : FieldLines → List (List ℕ) → Type 0
IsField Absent vs = vs ≡ []
IsField (Once v) vs = vs ≡ v.now ∷ []
IsField Repeated [] = ⊥
IsField Repeated (v ∷ []) = ⊥
IsField Repeated (v ∷ w ∷ vs) = Unit {0}
