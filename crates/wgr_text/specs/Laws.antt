-- Laws of the texts.
use Rattle.std.specs.Prelude.{◌≡◌, ◌⊎◌, ◌↔◌, ℕ, ◌^◌, ◌<◌, List, length, All}
use Rattle.base64.specs.GeneralPurpose.{IsBytes}
use Rattle.wgr_text.specs.declared.addr.Family.TheVariants.{V6}
use Rattle.wgr_text.specs.Canonical.{IsLowerHex, IsRecommended}
use Rattle.wgr_text.specs.KeyText.{key_text}
use Rattle.wgr_text.specs.Prefix.{AddrValue, PrefixValue, IsAddr, IsPrefix}
use Rattle.wgr_text.specs.PrefixText.{SpellsAddr, Spells, canonical_addr, canonical_number, canonical_text, groups_of_number}

-- a text spells at most one address
abbrev pub SpellsOneAddr : Type 0
SpellsOneAddr = (text : List ℕ) (a b : AddrValue) → SpellsAddr text a → SpellsAddr text b → a ≡ b

-- a text spells at most one address and length
abbrev pub SpellsOnePair : Type 0
SpellsOnePair = (text : List ℕ) (a b : AddrValue) (k j : ℕ) → Spells text a k → Spells text b j → (a ≡ b) × (k ≡ j)

-- the written text of an address spells it
abbrev pub WrittenAddrSpells : Type 0
WrittenAddrSpells = (a : AddrValue) → IsAddr a → SpellsAddr (canonical_addr a) a

-- the written text of a prefix spells it
abbrev pub WrittenPrefixSpells : Type 0
WrittenPrefixSpells = (p : PrefixValue) → IsAddr p.address → IsPrefix p → Spells (canonical_text p) p.address p.length

-- the written text of an IPv6 address is the one that RFC 5952, section 4, recommends, and no other is
abbrev pub WrittenIsRecommended : Type 0
WrittenIsRecommended = (n : ℕ) → n < 2 ^ 128 → (text : List ℕ) → (text ≡ canonical_number V6 n) ↔ IsRecommended text (groups_of_number n)

-- it is made of lower-case hex digits and colons
abbrev pub WrittenIsLowerHex : Type 0
WrittenIsLowerHex = (n : ℕ) → n < 2 ^ 128 → All (λ c. IsLowerHex c ⊎ (c ≡ 58)) (canonical_number V6 n)

-- a key's text has 44 characters
abbrev pub KeyTextLength : Type 0
KeyTextLength = (key : List ℕ) → length key ≡ 32 → length (key_text key) ≡ 44

-- two keys have two texts
abbrev pub KeyTextsDiffer : Type 0
KeyTextsDiffer = (one other : List ℕ) → IsBytes one → IsBytes other → key_text one ≡ key_text other → one ≡ other
