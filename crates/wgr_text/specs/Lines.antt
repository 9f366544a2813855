-- The lines of a text.
use Rattle.std.specs.Prelude.{ℕ, List, [], ◌∷◌, ◌==◌, cond}

-- a byte before the first of some lines, or a line of its own if there are none
abbrev pub before_lines : ℕ → List (List ℕ) → List (List ℕ)
before_lines b [] = (b ∷ []) ∷ []
before_lines b (line ∷ lines) = (b ∷ line) ∷ lines

-- A newline ends a line and is no part of it. What follows the last one is a line, unless it is empty.
abbrev pub lines_of : List ℕ → List (List ℕ)
lines_of [] = []
lines_of (b ∷ text) = cond (b == 10) ([] ∷ lines_of text) (before_lines b (lines_of text))

-- the same, but at least one line: the empty text has one empty line
abbrev pub lines_or_one : List ℕ → List (List ℕ)
lines_or_one [] = [] ∷ []
lines_or_one (b ∷ text) = lines_of (b ∷ text)
