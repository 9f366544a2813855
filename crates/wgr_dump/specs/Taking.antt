-- What happens to some fields when the first is taken.
use Rattle.std.specs.Prelude.{ℕ, ◌≡◌, List, [], ◌∷◌}
use Rattle.wgr_dump.specs.Fields.{Form, IsOf}

-- the first field is absent or not of the form
abbrev pub IsBadHead : Form → List (List ℕ) → Type 0
IsBadHead form [] = Unit {0}
IsBadHead form (field ∷ fields) = ¬ (IsOf form field)

-- the first field, of which this holds, is taken
abbrev pub TakesField : (List ℕ → Type 0) → List (List ℕ) → List (List ℕ) → Type 0
TakesField holds old new = (field : List ℕ) × (old ≡ field ∷ new) × holds field
