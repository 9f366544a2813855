-- A reading as one line of text: its word and its fields, with one blank between any two.
use Rattle.std.specs.Prelude.{ℕ, ◌≡◌, ◌≢◌, ◌&&◌, List, [], ◌∷◌, Bool, true, false, Option, Some, None, codes, if◌then◌else◌, option_map}
use Rattle.std.specs.Str.{bytes_eq, is_utf8}
use Rattle.wgr_words.specs.Line.{line_in, words_in}
use Rattle.wgr_words.specs.declared.reading.Reading.{Reading}
use Rattle.wgr_words.specs.declared.reading.Reading.TheVariants as reading

-- What is asked of a register or of a running service, without changing it: figures of the service; what the register
-- has, of all tenants or of one, as a table or as JSON; or a copy of the register's files.
pub data ReadingAsked : Type 0 where
  Status : ReadingAsked
  Show : (tenant : Option (List ℕ)) (is_json : Bool) → ReadingAsked
  Backup : (file : List ℕ) → ReadingAsked

-- the same, in the program's types
abbrev pub reading_asked : Reading → ReadingAsked
reading_asked reading.Status = Status
reading_asked (reading.Show tenant is_json) = Show (option_map (λ name. name.now) tenant) is_json
reading_asked (reading.Backup file) = Backup file.now

-- `status`, `show`
abbrev pub read_alone : List ℕ → Option ReadingAsked
read_alone word =
    if bytes_eq word (codes "status") then Some Status
    else (if bytes_eq word (codes "show") then Some (Show None false)
    else None)

-- `show --json`, `show TENANT`
abbrev pub show_by : List ℕ → ReadingAsked
show_by a = if bytes_eq a (codes "--json") then Show None true else Show (Some a) false

-- one of these, or `backup FILE`
abbrev pub read_of_one : List ℕ → List ℕ → Option ReadingAsked
read_of_one word a =
    if bytes_eq word (codes "show") then Some (show_by a)
    else (if bytes_eq word (codes "backup") then Some (Backup a)
    else None)

-- `show TENANT --json`
abbrev pub read_of_two : List ℕ → List ℕ → List ℕ → Option ReadingAsked
read_of_two word a b = if bytes_eq word (codes "show") && bytes_eq b (codes "--json") then Some (Show (Some a) true) else None

-- the reading of these words
abbrev pub reading_in : List (List ℕ) → Option ReadingAsked
reading_in (word ∷ []) = read_alone word
reading_in (word ∷ a ∷ []) = read_of_one word a
reading_in (word ∷ a ∷ b ∷ []) = read_of_two word a b
reading_in others = None

-- the reading of a line, which is UTF-8
abbrev pub reading_in_line : List ℕ → Option ReadingAsked
reading_in_line line = if is_utf8 line then reading_in (words_in line) else None

-- a line that spells a reading spells no order
abbrev pub ReadingsAreNoOrders : Type 0
ReadingsAreNoOrders = (line : List ℕ) → reading_in_line line ≢ None → line_in (words_in line) ≡ None
