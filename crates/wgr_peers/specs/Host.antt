-- Hosts of endpoints.
use Rattle.std.specs.Prelude.{◌≡◌, ℕ, Bool, ◌&&◌, ◌||◌, ◌==◌, nat_le, List, length, map, MatchBool}
use Rattle.std.specs.List.{list_all}
use Rattle.std.specs.Char.{is_ascii_alphanumeric, to_ascii_lowercase}
use Rattle.wgr_text.specs.declared.addr.Family.TheVariants.{V6}
use Rattle.wgr_text.specs.PrefixText.{SpellsNumber, canonical_number}

-- a letter or a digit of ASCII, `.` or `-`
abbrev pub is_host_byte : ℕ → Bool
is_host_byte b = is_ascii_alphanumeric b || (b == 46) || (b == 45)

-- 1 to 253 such bytes
abbrev pub is_host_name : List ℕ → Bool
is_host_name text = nat_le 1 (length text) && nat_le (length text) 253 && list_all is_host_byte text

-- The text of a host, and what is kept of it. A name is kept in lower case, whether or not it looks
-- like an IPv4 address. Any other text is an IPv6 address (RFC 4291, section 2.2), which is kept as
-- its one canonical text (RFC 5952, section 4).
abbrev pub IsHostText : List ℕ → List ℕ → Type 0
IsHostText text kept = MatchBool (is_host_name text)
    (kept ≡ map to_ascii_lowercase text)
    ((n : ℕ) × SpellsNumber text V6 n × (kept ≡ canonical_number V6 n))

-- some text of a host is kept as this
abbrev pub IsHost : List ℕ → Type 0
IsHost kept = (text : List ℕ) × IsHostText text kept
