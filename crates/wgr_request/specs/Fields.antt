-- The fields of JSON bodies.
use Rattle.std.specs.Prelude.{◌≡◌, ℕ, nat_le, cond, List, [], codes, Option, Some, None, option_and_then}
use Rattle.serde_json.specs.Data.{Data}
use Rattle.serde_json.specs.Find.{as_number, as_str, as_u64, get}
use Rattle.wgr_text.specs.declared.key.Key.{Key}
use Rattle.wgr_text.specs.Prefix.{AddrValue, PrefixValue, width}
use Rattle.wgr_text.specs.PrefixText.{Spells}
use Rattle.wgr_dump.specs.Fields.{SpellsMasked}
use Rattle.wgr_text.specs.KeyText.{SpellsKey}
use Rattle.wgr_peers.specs.Label.{IsLabel}

-- a field that may be absent: the value that is used then, or none
abbrev pub IsFieldValue : {A : Type 0} → (Option (List ℕ) → Option A → Type 0) → Option A → Option Data → Option A → Type 0
IsFieldValue Form absent None r = r ≡ absent
IsFieldValue Form absent (Some d) r = Form (as_str d) r

-- the value that a text spells; none where it spells none, or where there is no text
abbrev pub IsText : {A : Type 0} → (List ℕ → A → Type 0) → Option (List ℕ) → Option A → Type 0
IsText Form None r = r ≡ None
IsText Form (Some text) (Some a) = Form text a
IsText {A} Form (Some text) None = (a : A) → ¬ (Form text a)

-- an address at full length, or without a length
abbrev pub SpellsFull : List ℕ → AddrValue → Type 0
SpellsFull text a = Spells text a (width a.family)

abbrev pub SpellsLabel : List ℕ → List ℕ → Type 0
SpellsLabel text label = (label ≡ text) × IsLabel text

-- a named address
abbrev pub SpellsNamed : List ℕ → Option AddrValue → Type 0
SpellsNamed text None = ⊥
SpellsNamed text (Some a) = SpellsFull text a

abbrev pub KeyField : Data → Option Key → Type 0
KeyField d r = IsFieldValue (IsText SpellsKey) None (get (codes "key") d) r

-- without a label, the empty one
abbrev pub LabelField : Data → Option (List ℕ) → Type 0
LabelField d r = IsFieldValue (IsText SpellsLabel) (Some []) (get (codes "label") d) r

-- without an address, none is named
abbrev pub NamedField : Data → Option (Option AddrValue) → Type 0
NamedField d r = IsFieldValue (IsText SpellsNamed) (Some None) (get (codes "address") d) r

abbrev pub PrefixField : Data → Option PrefixValue → Type 0
PrefixField d r = IsFieldValue (IsText SpellsMasked) None (get (codes "prefix") d) r

-- a whole number, at most this
abbrev pub up_to : ℕ → ℕ → Option ℕ
up_to most n = cond (nat_le n most) (Some n) None

abbrev pub whole : ℕ → Data → Option ℕ
whole most d = option_and_then (up_to most) (option_and_then as_u64 (as_number d))

abbrev pub end_value : Data → Option ℕ
end_value d = whole 9007199254740991 d

abbrev pub keepalive_value : Data → Option ℕ
keepalive_value d = whole 65535 d

abbrev pub field_value : (Data → Option ℕ) → Option ℕ → Option Data → Option ℕ
field_value value absent None = absent
field_value value absent (Some d) = value d
