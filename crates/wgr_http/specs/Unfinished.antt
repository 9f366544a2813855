-- What httparse leaves open of a head that isn't whole: how many fields have begun, and a target that hasn't ended.
use Rattle.std.specs.Prelude.{ℕ, ◌+◌, Bool, true, false, List, [], ◌∷◌, cond, ◌==◌, Option, Some, None}

-- The lines that have begun, where the bytes come at the start of a line or within one. A line begins with its first byte that isn't CR or LF.
abbrev pub begun_lines : Bool → List ℕ → ℕ
begun_lines fresh [] = 0
begun_lines fresh (b ∷ bs) = cond (b == 10) (begun_lines true bs) (cond (b == 13) (begun_lines fresh bs) (cond fresh 1 0 + begun_lines false bs))

-- what comes after the first space
abbrev pub after_space : List ℕ → Option (List ℕ)
after_space [] = None
after_space (b ∷ bs) = cond (b == 32) (Some bs) (after_space bs)

abbrev pub unended : List ℕ → Option (List ℕ) → Option (List ℕ)
unended target None = Some target
unended target (Some more) = None

abbrev pub unended_in : Option (List ℕ) → Option (List ℕ)
unended_in None = None
unended_in (Some target) = unended target (after_space target)

-- the target so far, where no space has ended it
abbrev pub open_target : List ℕ → Option (List ℕ)
open_target bytes = unended_in (after_space bytes)
