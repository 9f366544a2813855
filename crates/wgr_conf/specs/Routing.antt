-- What a file of wg(8) says about cryptokey routing: to which public key each prefix leads.
use Rattle.std.specs.Prelude.{ℕ, ◌≡◌, cond, ◌==◌, List, [], ◌∷◌, ◌++◌, length, map, codes, Option, Some, None, option_map}
use Rattle.std.specs.Str.{bytes_eq}
use Rattle.base64.specs.GeneralPurpose.{IsBytes}
use Rattle.wgr_text.specs.declared.key.Key.{Key}
use Rattle.wgr_text.specs.Prefix.{AddrValue, PrefixValue, mask}
use Rattle.wgr_text.specs.PrefixText.{Spells}
use Rattle.wgr_text.specs.KeyText.{key_text}
use Rattle.wgr_pool.specs.PrefixTests.{same_prefix}

abbrev pub Text : Type 0
Text = List ℕ

-- a byte before the first of some texts
abbrev pub before_first : ℕ → List Text → List Text
before_first b [] = (b ∷ []) ∷ []
before_first b (text ∷ texts) = (b ∷ text) ∷ texts

-- the parts of a text between the bytes that are `at`
abbrev pub split : ℕ → Text → List Text
split at [] = [] ∷ []
split at (b ∷ text) = cond (b == at) ([] ∷ split at text) (before_first b (split at text))

-- what follows these bytes in a text that begins with them
abbrev pub rest_after : Text → Text → Option Text
rest_after [] text = Some text
rest_after (a ∷ name) [] = None
rest_after (a ∷ name) (b ∷ text) = cond (a == b) (rest_after name text) None

-- the text without the blank with which it may begin
abbrev pub without_blank : Text → Text
without_blank [] = []
without_blank (b ∷ text) = cond (b == 32) text (b ∷ text)

abbrev pub list_or_none : Option (List Text) → List Text
list_or_none None = []
list_or_none (Some texts) = texts

-- the values of a line `AllowedIPs = ..`, between commas; any other line has none
abbrev pub line_values : Text → List Text
line_values line = list_or_none (option_map (λ list. map without_blank (split 44 list)) (rest_after (codes "AllowedIPs = ") line))

abbrev pub key_or : Text → Option Text → Text
key_or key None = key
key_or key (Some text) = text

-- the key of the section after a line: `[Peer]` begins one without a key, and `PublicKey = ..` gives it one
abbrev pub key_after : Text → Text → Text
key_after key line = key_or (cond (bytes_eq line (codes "[Peer]")) [] key) (rest_after (codes "PublicKey = ") line)

-- the values in some lines, each with the key of its section, from a section with this key on
abbrev pub rows_from : Text → List Text → List (Text × Text)
rows_from key [] = []
rows_from key (line ∷ lines) = map (λ value. (value, key)) (line_values line) ++ rows_from (key_after key line) lines

-- the same for a whole file
abbrev pub file_rows : Text → List (Text × Text)
file_rows file = rows_from [] (split 10 file)

-- the value spells the prefix, whose host bits count for nothing, and the key's text is that of the key
pub record IsRow (row : Text × Text) (p : PrefixValue) (key : Key) : Type 0 where
  pub address : AddrValue
  pub bits : ℕ
  pub spelled : Spells row.0 address bits
  pub masked : p ≡ mask address bits
  pub bytes : (length key.0 ≡ 32) × IsBytes key.0
  pub key_spelled : row.1 ≡ key_text key.0

abbrev pub AreRows : List (Text × Text) → List (PrefixValue × Key) → Type 0
AreRows [] [] = Unit {0}
AreRows [] (a ∷ assigned) = ⊥
AreRows (row ∷ rows) [] = ⊥
AreRows (row ∷ rows) (a ∷ assigned) = IsRow row a.0 a.1 × AreRows rows assigned

abbrev pub later_or : Option Key → Option Key → Option Key
later_or None first = first
later_or (Some key) first = Some key

-- the key to which a prefix leads: the last one to which it is assigned
abbrev pub key_of : List (PrefixValue × Key) → PrefixValue → Option Key
key_of [] p = None
key_of (a ∷ assigned) p = later_or (key_of assigned p) (cond (same_prefix a.0 p) (Some a.1) None)

-- the file leads each prefix to the key that this map gives
pub record cryptokey_routing (file : Text) (leads : PrefixValue → Option Key) : Type 0 where
  pub assigned : List (PrefixValue × Key)
  pub rows : AreRows (file_rows file) assigned
  pub last : (p : PrefixValue) → leads p ≡ key_of assigned p
