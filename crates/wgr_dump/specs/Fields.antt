-- The fields of `wg show <interface> dump` (wg(8)): where they end, and what they say.
use Rattle.std.specs.Prelude.{ℕ, ◌≡◌, ◌≢◌, ◌<◌, ◌≤◌, ◌⊎◌, ◌==◌, List, [], ◌∷◌, length, codes, All, Option, Some, None}
use Rattle.std.specs.List.{slice_split}
use Rattle.std.specs.Str.Parse.{IsNumeral, digits_value}
use Rattle.wgr_text.specs.declared.key.Key.{Key}
use Rattle.wgr_text.specs.KeyText.{SpellsKey}
use Rattle.wgr_text.specs.Prefix.{AddrValue, PrefixValue, mask}
use Rattle.wgr_text.specs.PrefixText.{Spells}
use Rattle.wgr_peers.specs.Limits.{kept_count}

-- the parts of a text between the bytes `c`
abbrev pub parts_between : ℕ → List ℕ → List (List ℕ)
parts_between c text = slice_split (λ b. b == c) text

-- the fields of a line: its parts between tabs
abbrev pub fields_of : List ℕ → List (List ℕ)
fields_of line = parts_between 9 line

-- the items are related one by one to those of another list
abbrev pub OneByOne : {A B : Type 0} → (A → B → Type 0) → List A → List B → Type 0
OneByOne R [] [] = Unit {0}
OneByOne R [] (y ∷ ys) = ⊥
OneByOne R (x ∷ xs) [] = ⊥
OneByOne R (x ∷ xs) (y ∷ ys) = R x y × OneByOne R xs ys

-- what is written in place of a key or of addresses if there are none
abbrev pub none_text : List ℕ
none_text = codes "(none)"

-- a key or `(none)`
abbrev pub SpellsOptionalKey : List ℕ → Option Key → Type 0
SpellsOptionalKey field None = field ≡ none_text
SpellsOptionalKey field (Some key) = SpellsKey field key

-- 1 to `most` decimal digits, and their number
abbrev pub SpellsDecimal : ℕ → List ℕ → ℕ → Type 0
SpellsDecimal most field n = IsNumeral 10 field × (length field ≤ most) × (n ≡ digits_value 10 field)

-- a UDP port or 0
abbrev pub SpellsPort : List ℕ → ℕ → Type 0
SpellsPort field n = SpellsDecimal 5 field n × (n ≤ 65535)

-- seconds, or `off` for 0
abbrev pub SpellsKeepalive : List ℕ → ℕ → Type 0
SpellsKeepalive field n = ((field ≡ codes "off") × (n ≡ 0)) ⊎ SpellsPort field n

-- a count of bytes or seconds: its digits as they are in the field, and the number as it is kept
pub record CountValue : Type 0 where
  pub digits : List ℕ
  pub value : ℕ

abbrev pub SpellsCount : List ℕ → CountValue → Type 0
SpellsCount field count = (count.digits ≡ field) × (written : ℕ) × SpellsDecimal 20 field written × (count.value ≡ kept_count written)

-- an address with a length or alone, with its host bits zero
abbrev pub SpellsMasked : List ℕ → PrefixValue → Type 0
SpellsMasked item p = (a : AddrValue) × (k : ℕ) × Spells item a k × (p ≡ mask a k)

-- `(none)`, or such prefixes joined by commas
abbrev pub SpellsAllowed : List ℕ → List PrefixValue → Type 0
SpellsAllowed field ps = ((field ≡ none_text) × (ps ≡ [])) ⊎ ((field ≢ none_text) × OneByOne SpellsMasked (parts_between 44 field) ps)

-- 1 to 256 bytes without blanks and control characters
abbrev pub IsWord : List ℕ → Type 0
IsWord field = (0 < length field) × (length field ≤ 256) × All (λ b. 33 ≤ b) field

-- the forms of fields
pub data Form : Type 0 where
  a_key : Form
  a_key_or_none : Form
  a_port : Form
  a_word : Form
  prefixes : Form
  a_count : Form
  a_keepalive : Form

-- the field is of the form
abbrev pub IsOf : Form → List ℕ → Type 0
IsOf a_key field = (key : Key) × SpellsKey field key
IsOf a_key_or_none field = (key : Option Key) × SpellsOptionalKey field key
IsOf a_port field = (n : ℕ) × SpellsPort field n
IsOf a_word field = IsWord field
IsOf prefixes field = (ps : List PrefixValue) × SpellsAllowed field ps
IsOf a_count field = (count : CountValue) × SpellsCount field count
IsOf a_keepalive field = (n : ℕ) × SpellsKeepalive field n

-- private-key, public-key, listen-port and fwmark
abbrev pub interface_forms : List Form
interface_forms = a_key_or_none ∷ a_key_or_none ∷ a_port ∷ a_word ∷ []

-- public-key, preshared-key, endpoint, allowed-ips, latest-handshake, transfer-rx, transfer-tx and
-- persistent-keepalive
abbrev pub peer_forms : List Form
peer_forms = a_key ∷ a_key_or_none ∷ a_word ∷ prefixes ∷ a_count ∷ a_count ∷ a_count ∷ a_keepalive ∷ []
