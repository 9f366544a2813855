-- Where a text stops being a dump.
use Rattle.std.specs.Prelude.{ℕ, zero, suc, ◌≡◌, ◌+◌, List, [], ◌∷◌}
use Rattle.wgr_dump.specs.Fields.{Form, IsOf, fields_of, interface_forms, peer_forms}
use Rattle.wgr_text.specs.Lines.{lines_or_one}

-- the fields are of these forms, one by one
abbrev pub AreOfForms : List Form → List (List ℕ) → Type 0
AreOfForms [] [] = Unit {0}
AreOfForms [] (field ∷ fields) = ⊥
AreOfForms (form ∷ forms) [] = ⊥
AreOfForms (form ∷ forms) (field ∷ fields) = IsOf form field × AreOfForms forms fields

-- `n` fields are of their forms, and the next is absent, not of its form, or one too many
abbrev pub IsBadField : List Form → List (List ℕ) → ℕ → Type 0
IsBadField [] [] n = ⊥
IsBadField [] (field ∷ fields) n = n ≡ 0
IsBadField (form ∷ forms) [] n = n ≡ 0
IsBadField (form ∷ forms) (field ∷ fields) zero = ¬ (IsOf form field)
IsBadField (form ∷ forms) (field ∷ fields) (suc n) = IsOf form field × IsBadField forms fields n

-- the first bad one of some peers' lines has `line` good ones before it, and `n` good fields
abbrev pub IsBadPeer : List (List ℕ) → ℕ → ℕ → Type 0
IsBadPeer [] line n = ⊥
IsBadPeer (first ∷ others) zero n = IsBadField peer_forms (fields_of first) n
IsBadPeer (first ∷ others) (suc line) n = AreOfForms peer_forms (fields_of first) × IsBadPeer others line n

-- the same for the interface's line and those of the peers
abbrev pub IsBadLine : List (List ℕ) → ℕ → ℕ → Type 0
IsBadLine [] line n = ⊥
IsBadLine (first ∷ others) zero n = IsBadField interface_forms (fields_of first) n
IsBadLine (first ∷ others) (suc line) n = AreOfForms interface_forms (fields_of first) × IsBadPeer others line n

-- the first bad line and the least bad field in it, both counted from 1
abbrev pub IsFirstBad : List ℕ → ℕ → ℕ → Type 0
IsFirstBad text line field = (good_lines : ℕ) × (good_fields : ℕ) × (line ≡ good_lines + 1) × (field ≡ good_fields + 1) × IsBadLine (lines_or_one text) good_lines good_fields
