-- The text of an IPv6 address in the words of RFC 5952, section 4.
use Rattle.std.specs.Prelude.{◌≡◌, ◌⊎◌, ℕ, ◌+◌, ◌<◌, ◌≤◌, List, [], ◌∷◌, ◌++◌, length, take, drop, replicate, slice_index, codes, All}
use Rattle.std.specs.Int.{IsInRange}
use Rattle.std.specs.Net.Grammar.{IsGroup}

-- `0` to `9`, or `a` to `f`
abbrev pub IsLowerHex : ℕ → Type 0
IsLowerHex c = IsInRange 48 57 c ⊎ IsInRange 97 102 c

-- one to four hex digits of the group, in lower case (section 4.3), the first of which is
-- `0` only if it is the only one (section 4.1)
pub record IsShortGroup (text : List ℕ) (group : ℕ) : Type 0 where
  pub writes : IsGroup text group
  pub lower : All IsLowerHex text
  pub short : slice_index text 0 ≡ 48 → length text ≡ 1

-- such groups with a colon between each two, or nothing
abbrev pub AreShortGroups : List ℕ → List ℕ → Type 0
AreShortGroups text [] = text ≡ []
AreShortGroups text (g ∷ []) = IsShortGroup text g
AreShortGroups text (g ∷ h ∷ groups) =
    (first rest : List ℕ) × (text ≡ first ++ codes ":" ++ rest) × IsShortGroup first g × AreShortGroups rest (h ∷ groups)

-- `len` groups from `start` on are zero
abbrev pub AreZeros : List ℕ → ℕ → ℕ → Type 0
AreZeros groups start len = (start + len ≤ length groups) × (take len (drop start groups) ≡ replicate len 0)

-- the run that `::` replaces: two groups or more (section 4.2.2), as many as there are in any
-- run (section 4.2.1), and of equal runs the first (section 4.2.3)
pub record IsElidedRun (groups : List ℕ) (start len : ℕ) : Type 0 where
  pub zeros : AreZeros groups start len
  pub many : 2 ≤ len
  pub longest : (s l : ℕ) → AreZeros groups s l → l ≤ len
  pub first : (s : ℕ) → AreZeros groups s len → start ≤ s

-- the groups before and after that run, and `::` in its place
pub record IsShortened (text groups : List ℕ) : Type 0 where
  pub head_text : List ℕ
  pub tail_text : List ℕ
  pub start : ℕ
  pub len : ℕ
  pub run : IsElidedRun groups start len
  pub head : AreShortGroups head_text (take start groups)
  pub tail : AreShortGroups tail_text (drop (start + len) groups)
  pub spelled : text ≡ head_text ++ codes "::" ++ tail_text

-- all groups, where no two zero groups are adjacent
pub record IsWhole (text groups : List ℕ) : Type 0 where
  pub none : (s l : ℕ) → AreZeros groups s l → l < 2
  pub all : AreShortGroups text groups

-- the text that RFC 5952, section 4, recommends for eight groups; no part of it is a dotted tail
abbrev pub IsRecommended : List ℕ → List ℕ → Type 0
IsRecommended text groups = IsShortened text groups ⊎ IsWhole text groups
