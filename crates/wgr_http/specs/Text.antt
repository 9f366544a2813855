-- Bytes that are UTF-8 (RFC 3629), or may still become it.
use Rattle.std.specs.Prelude.{ℕ, ◌<◌, ◌≤◌, List, ◌++◌, All, IsUtf8}

-- a byte of a character after its first
abbrev pub IsContinuationByte : ℕ → Type 0
IsContinuationByte b = (0x80 ≤ b) × (b < 0xC0)

-- the bytes are UTF-8, or are cut within a character, which the bytes of more complete
abbrev pub MayBecomeText : List ℕ → Type 0
MayBecomeText bytes = (more : List ℕ) × All IsContinuationByte more × IsUtf8 (bytes ++ more)

-- no bytes can follow that make these UTF-8
abbrev pub NeverBecomesText : List ℕ → Type 0
NeverBecomesText bytes = (more : List ℕ) → ¬ (IsUtf8 (bytes ++ more))
