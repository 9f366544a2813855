-- Laws of dumps.
use Rattle.std.specs.Prelude.{ℕ, ◌≡◌, ◌≢◌, ◌↔◌, ◌⊎◌, List, ◌∷◌, ◌++◌, codes}
use Rattle.std.specs.List.{AllByRecursion, join_with_byte}
use Rattle.wgr_dump.specs.Dump.{InterfaceValue, LineValue, IsDump}
use Rattle.wgr_text.specs.Lines.{lines_or_one}
use Rattle.wgr_dump.specs.Fault.{IsFirstBad}
use Rattle.wgr_dump.specs.Fields.{OneByOne, IsOf, a_key_or_none, fields_of}

-- a text is a dump of at most one interface and one list of lines
abbrev pub OneDump : Type 0
OneDump = (text : List ℕ) (i j : InterfaceValue) (lines others : List LineValue) → IsDump text i lines → IsDump text j others → (i ≡ j) × (lines ≡ others)

-- it has at most one first bad field
abbrev pub OneFault : Type 0
OneFault = (text : List ℕ) (line field line' field' : ℕ) → IsFirstBad text line field → IsFirstBad text line' field' → (line ≡ line') × (field ≡ field')

-- a dump has no bad field
abbrev pub NotBoth : Type 0
NotBoth = (text : List ℕ) (i : InterfaceValue) (lines : List LineValue) (line field : ℕ) → IsDump text i lines → IsFirstBad text line field → ⊥

-- and no text is neither a dump nor one with a bad field
abbrev pub NotNeither : Type 0
NotNeither = (text : List ℕ) → ((i : InterfaceValue) (lines : List LineValue) → ¬ (IsDump text i lines)) → ((line field : ℕ) → ¬ (IsFirstBad text line field)) → ⊥

-- the lines differ only in the first field, a private key or `(none)` in both
pub record DifferInPrivateKey (line other : List ℕ) : Type 0 where
  pub key : List ℕ
  pub other_key : List ℕ
  pub rest : List (List ℕ)
  pub fields : fields_of line ≡ key ∷ rest
  pub other_fields : fields_of other ≡ other_key ∷ rest
  pub is_key : IsOf a_key_or_none key
  pub is_other_key : IsOf a_key_or_none other_key

-- the lines differ only in the second field, a preshared key or `(none)` in both
pub record DifferInPresharedKey (line other : List ℕ) : Type 0 where
  pub peer : List ℕ
  pub key : List ℕ
  pub other_key : List ℕ
  pub rest : List (List ℕ)
  pub fields : fields_of line ≡ peer ∷ key ∷ rest
  pub other_fields : fields_of other ≡ peer ∷ other_key ∷ rest
  pub is_key : IsOf a_key_or_none key
  pub is_other_key : IsOf a_key_or_none other_key

-- the texts differ only in private and preshared keys
pub record DifferInSecrets (text other : List ℕ) : Type 0 where
  pub first : List ℕ
  pub other_first : List ℕ
  pub peers : List (List ℕ)
  pub other_peers : List (List ℕ)
  pub split : lines_or_one text ≡ first ∷ peers
  pub other_split : lines_or_one other ≡ other_first ∷ other_peers
  pub interface : DifferInPrivateKey first other_first
  pub lines : OneByOne DifferInPresharedKey peers other_peers

-- then the same is read from them
abbrev pub SecretsAreUnread : Type 0
SecretsAreUnread = (text other : List ℕ) → DifferInSecrets text other → (i : InterfaceValue) (lines : List LineValue) → IsDump text i lines ↔ IsDump other i lines

-- and the same fault is found
abbrev pub SecretsAreNoFault : Type 0
SecretsAreNoFault = (text other : List ℕ) → DifferInSecrets text other → (line field : ℕ) → IsFirstBad text line field ↔ IsFirstBad other line field

-- a line is its fields with a tab between each two, and no field has a tab
abbrev pub FieldsAreJoined : Type 0
FieldsAreJoined = (line : List ℕ) → (join_with_byte 9 (fields_of line) ≡ line) × AllByRecursion (λ field. AllByRecursion (λ b. b ≢ 9) field) (fields_of line)

-- a text is its lines with a newline between each two, and with a last newline or without; no line has a newline
abbrev pub LinesAreJoined : Type 0
LinesAreJoined = (text : List ℕ) → ((join_with_byte 10 (lines_or_one text) ≡ text) ⊎ (join_with_byte 10 (lines_or_one text) ++ codes "\n" ≡ text)) × AllByRecursion (λ line. AllByRecursion (λ b. b ≢ 10) line) (lines_or_one text)
