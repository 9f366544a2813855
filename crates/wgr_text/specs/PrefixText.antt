-- The texts of addresses and prefixes.
use Rattle.std.specs.Prelude.{◌≡◌, ◌≢◌, ℕ, ◌≤◌, ◌⊎◌, List, ◌++◌, All, codes, decimal}
use Rattle.std.specs.Int.{w32, w128, to_be_bytes, from_be_bytes}
use Rattle.std.specs.Net.Addr.{segments_of, octets_of}
use Rattle.std.specs.Net.Grammar.{IsDotted, IsColonHex}
use Rattle.std.specs.Net.Text.{ipv4_text, hex_groups_text}
use Rattle.wgr_text.specs.declared.addr.Family.{Family}
use Rattle.wgr_text.specs.declared.addr.Family.TheVariants.{V4, V6}
use Rattle.wgr_text.specs.Prefix.{AddrValue, PrefixValue, width}

-- the number of four octets, the highest first
unfoldable pub number_of_octets : List ℕ → ℕ
number_of_octets octets = from_be_bytes w32 octets

-- the number of eight groups of 16 bits, the highest first
unfoldable pub number_of_groups : List ℕ → ℕ
number_of_groups groups = from_be_bytes w128 (octets_of groups)

-- the four octets of a number
unfoldable pub octets_of_number : ℕ → List ℕ
octets_of_number n = to_be_bytes w32 n

-- the eight groups of a number
unfoldable pub groups_of_number : ℕ → List ℕ
groups_of_number n = segments_of (to_be_bytes w128 n)

-- IPv4: four decimal octets without leading zeros, and dots between them.
-- IPv6: the forms of RFC 4291, section 2.2: eight groups, `::` for one zero group or more, and in
-- both a dotted tail for the last two groups.
abbrev pub SpellsNumber : List ℕ → Family → ℕ → Type 0
SpellsNumber text V4 n = (octets : List ℕ) × IsDotted text octets × (n ≡ number_of_octets octets)
SpellsNumber text V6 n = (groups : List ℕ) × IsColonHex text groups × (n ≡ number_of_groups groups)

-- the whole text spells the address, without a length
abbrev pub SpellsAddr : List ℕ → AddrValue → Type 0
SpellsAddr text a = SpellsNumber text a.family a.number

-- an address, `/` and a length without leading zeros (RFC 4632, section 3.1; RFC 4291, section 2.3)
pub record SpellsWithLength (text : List ℕ) (a : AddrValue) (k : ℕ) : Type 0 where
  pub front : List ℕ
  pub spelled : text ≡ front ++ codes "/" ++ decimal k
  pub address : SpellsAddr front a
  pub fits : k ≤ width a.family

-- the whole text spells the address and the length: an address alone has full length
abbrev pub Spells : List ℕ → AddrValue → ℕ → Type 0
Spells text a k = (SpellsAddr text a × (k ≡ width a.family)) ⊎ SpellsWithLength text a k

-- no byte of the text is a `/`
abbrev pub HasNoSlash : List ℕ → Type 0
HasNoSlash text = All (λ c. c ≢ 47) text

-- the one text written for an address (IPv6: RFC 5952, section 4)
abbrev pub canonical_number : Family → ℕ → List ℕ
canonical_number V4 n = ipv4_text (octets_of_number n)
canonical_number V6 n = hex_groups_text (groups_of_number n)

-- the same, for a family and a number together
abbrev pub canonical_addr : AddrValue → List ℕ
canonical_addr a = canonical_number a.family a.number

-- the one text written for a prefix
abbrev pub canonical_text : PrefixValue → List ℕ
canonical_text p = canonical_addr p.address ++ codes "/" ++ decimal p.length
