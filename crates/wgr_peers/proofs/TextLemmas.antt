-- Labels, hosts and names are ASCII.
use Rattle.std.proofs.Common.{◌≡◌, ℕ, ◌<◌, ◌≤◌, Bool, true, false, List, length, map, IsUtf8, arith, sym, subst, ◌∙◌}
use Rattle.std.specs.List.{list_all}
use Rattle.std.specs.Char.{to_ascii_lowercase}
use Rattle.std.proofs.lemmas.Bool.{and_parts, le-leb, MatchBool-at_false}
use Rattle.std.proofs.lemmas.Bool.Decides.{nat_tests}
use Rattle.std.proofs.lemmas.List.Elements.{All-weaker}
use Rattle.std.proofs.lemmas.List.Sums.{AllPass-from_list_all}
use Rattle.std.proofs.lemmas.Str.{IsUtf8-from_ascii}
use Rattle.std.proofs.lemmas.Str.Ascii.{IsAscii-from_all}
use Rattle.std.proofs.NetLemmas.Ipv6.{IsDotted-not_colon_hex}
use Rattle.wgr_text.specs.declared.addr.Family.{Family}
use Rattle.wgr_text.specs.declared.addr.Family.TheVariants.{V4, V6}
use Rattle.wgr_text.specs.Prefix.{AddrValue}
use Rattle.wgr_text.specs.PrefixText.{SpellsNumber, SpellsAddr, canonical_number}
use Rattle.wgr_peers.specs.Label.{IsLabel}
use Rattle.wgr_peers.specs.Host.{is_host_byte, is_host_name, IsHostText}
use Rattle.wgr_peers.specs.Name.{is_name, is_name_byte}

-- a label is text
pub label_is_utf8 : (text : List ℕ) → IsLabel text → IsUtf8 text
label_is_utf8 text is =
    let plain = All-weaker (λ b. (32 ≤ b) × (b ≤ 126)) (λ b. b < 128) (λ b h. omega (arith, h.1)) text is.printable in
    IsUtf8-from_ascii text (IsAscii-from_all text plain)

host_byte_small : (b : ℕ) → is_host_byte b ≡ true → b < 128
host_byte_small b is = grind (arith, nat_tests)

-- so is a name
pub name_is_utf8 : (text : List ℕ) → is_host_name text ≡ true → IsUtf8 text
name_is_utf8 text is =
    let each = AllPass-from_list_all is_host_byte text (and_parts _ _ is).1 in
    let plain = All-weaker (λ b. is_host_byte b ≡ true) (λ b. b < 128) host_byte_small text each in
    IsUtf8-from_ascii text (IsAscii-from_all text plain)

-- where the length is right, the bytes decide
pub name_by_bytes : (text : List ℕ) (r : Bool) → 1 ≤ length text → length text ≤ 253 → r ≡ list_all is_host_byte text → r ≡ is_host_name text
name_by_bytes text r some short is = rw (le-leb 1 (length text) some, le-leb (length text) 253 short) is

-- a name in lower case is a host
pub name_text : (text kept : List ℕ) → is_host_name text ≡ true → kept ≡ map to_ascii_lowercase text → IsHostText text kept
name_text text kept name is = rw name is

-- what isn't a name is the text of an IPv6 address
pub address_text : (text kept : List ℕ) (n : ℕ) → is_host_name text ≡ false → SpellsNumber text V6 n → kept ≡ canonical_number V6 n → IsHostText text kept
address_text text kept n not_name spelled is = rw not_name (n, spelled, is)

-- or no host
pub no_host : (text : List ℕ) → is_host_name text ≡ false → ((n : ℕ) → ¬ (SpellsNumber text V6 n)) → (kept : List ℕ) → ¬ (IsHostText text kept)
no_host text not_name none kept is =
    let address = MatchBool-at_false (kept ≡ map to_ascii_lowercase text) ((n : ℕ) × SpellsNumber text V6 n × (kept ≡ canonical_number V6 n)) not_name is in
    none address.0 address.1

-- the text of an IPv4 address is that of no IPv6 address
pub v4_only : (text : List ℕ) (a : AddrValue) (f : Family) → f ≡ a.family → f ≡ V4 → SpellsAddr text a → (n : ℕ) → ¬ (SpellsNumber text V6 n)
v4_only text a f same is spelled n other =
    let dotted = subst (λ g. SpellsNumber text g a.number) (sym same ∙ is) spelled in
    IsDotted-not_colon_hex text _ _ dotted.1 other.1

-- ---- names of networks and tenants

name_byte_small : (b : ℕ) → is_name_byte b ≡ true → b < 128
name_byte_small b is = grind (arith, nat_tests)

pub own_name_is_utf8 : (text : List ℕ) → is_name text ≡ true → IsUtf8 text
own_name_is_utf8 text is =
    let each = AllPass-from_list_all is_name_byte text (and_parts _ _ is).1 in
    let plain = All-weaker (λ b. is_name_byte b ≡ true) (λ b. b < 128) name_byte_small text each in
    IsUtf8-from_ascii text (IsAscii-from_all text plain)

-- where the length is right, the bytes decide
pub own_name_by_bytes : (text : List ℕ) (r : Bool) → 1 ≤ length text → length text ≤ 32 → r ≡ list_all is_name_byte text → r ≡ is_name text
own_name_by_bytes text r some short is = rw (le-leb 1 (length text) some, le-leb (length text) 32 short) is
