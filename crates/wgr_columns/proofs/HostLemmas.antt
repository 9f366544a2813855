-- Hosts, as they are kept.
use Rattle.std.proofs.Common.{◌≡◌, ◌/◌, ◌%◌, ◌^◌, ◌≤◌, ℕ, List, [], ◌∷◌, ◌++◌, true, false, ◌&&◌, nat_le, length, map, append_assoc, refl, sym, ap, ap₂, subst, ◌∙◌, inl, inr, arith}
use Rattle.std.specs.Char.{to_ascii_lowercase}
use Rattle.std.specs.List.{list_all}
use Rattle.std.specs.Net.Addr.{segments_of}
use Rattle.std.specs.Net.Text.{hex_groups_text}
use Rattle.std.specs.Net.Grammar.{IsColonHex, IsGroupsAfter}
use Rattle.std.proofs.lemmas.Bool.{MatchBool-at_true, MatchBool-at_false}
use Rattle.std.proofs.lemmas.Bool.Decides.{nat_tests}
use Rattle.std.proofs.lemmas.Str.Ascii.{lowercase-lowercase}
use Rattle.std.proofs.Math.ListN.{length-map}
use Rattle.wgr_text.specs.declared.addr.Family.TheVariants.{V6}
use Rattle.wgr_text.specs.Prefix.{AddrValue}
use Rattle.wgr_text.specs.PrefixText.{SpellsNumber, canonical_number, groups_of_number}
use Rattle.wgr_text.proofs.RoundTrips.{written_addr}
use Rattle.wgr_text.proofs.Spelled.{SpellsAddr_unique}
use Rattle.wgr_pool.proofs.Bools.{and_true, decide}
use Rattle.wgr_peers.specs.Host.{is_host_byte, is_host_name, IsHost, IsHostText}
use Rattle.wgr_peers.proofs.TextLemmas.{name_text, address_text}

abbrev IsAddressText : List ℕ → List ℕ → Type 0
IsAddressText text kept = (n : ℕ) × SpellsNumber text V6 n × (kept ≡ canonical_number V6 n)

-- one text at most is kept of a host's
pub kept_once : (text one other : List ℕ) → IsHostText text one → IsHostText text other → one ≡ other
kept_once text one other h k = elim (decide (is_host_name text)) [
  | inl name ↦ MatchBool-at_true (one ≡ map to_ascii_lowercase text) (IsAddressText text one) name h ∙ sym (MatchBool-at_true (other ≡ map to_ascii_lowercase text) (IsAddressText text other) name k)
  | inr not_name ↦
      let a = MatchBool-at_false (one ≡ map to_ascii_lowercase text) (IsAddressText text one) not_name h in
      let b = MatchBool-at_false (other ≡ map to_ascii_lowercase text) (IsAddressText text other) not_name k in
      let same = SpellsAddr_unique text (record { family = V6; number = a.0 }) (record { family = V6; number = b.0 }) a.1 b.1 in
      a.2 ∙ ap (λ (x : AddrValue). canonical_number V6 x.number) same ∙ sym b.2
]

-- ---- what is kept is a host's text, and kept as it is

name_byte : (b : ℕ) → is_host_byte b ≡ true → is_host_byte (to_ascii_lowercase b) ≡ true
name_byte b is = grind (arith, nat_tests)

name_bytes : (text : List ℕ) → list_all is_host_byte text ≡ true → list_all is_host_byte (map to_ascii_lowercase text) ≡ true
name_bytes [] all = refl
name_bytes (b ∷ text) all =
    let both = and_true (is_host_byte b) (list_all is_host_byte text) all in
    ap₂ (λ x y. x && y) (name_byte b both.0) (name_bytes text both.1)

name_again : (text : List ℕ) → is_host_name text ≡ true → is_host_name (map to_ascii_lowercase text) ≡ true
name_again text is =
    let both = and_true (nat_le 1 (length text) && nat_le (length text) 253) (list_all is_host_byte text) is in
    ap₂ (λ x y. x && y) (ap (λ n. nat_le 1 n && nat_le n 253) (length-map text to_ascii_lowercase) ∙ both.0) (name_bytes text both.1)

lower_again : (text : List ℕ) → map to_ascii_lowercase (map to_ascii_lowercase text) ≡ map to_ascii_lowercase text
lower_again [] = refl
lower_again (b ∷ text) = ap₂ (λ x xs. x ∷ xs) (lowercase-lowercase b) (lower_again text)

-- the text of an IPv6 address has a colon, and so is no name
colon_out : (front back : List ℕ) → list_all is_host_byte (front ++ 58 ∷ back) ≡ true → ⊥
colon_out [] back all = absurd cc
colon_out (b ∷ front) back all = colon_out front back (and_true (is_host_byte b) (list_all is_host_byte (front ++ 58 ∷ back)) all).1

later_colon : (text groups : List ℕ) → 1 ≤ length groups → IsGroupsAfter true (58 ∷ []) text groups → (back : List ℕ) × (text ≡ 58 ∷ back)
later_colon text [] some h = absurd (omega (arith, some))
later_colon text (g ∷ groups) some (inl (group, rest, spelled, is, after)) = (group ++ rest, spelled)
later_colon text (g ∷ groups) some (inr (last, octets, ipv4, spelled, dotted, value)) = (last, spelled)

has_colon : (text groups : List ℕ) → IsColonHex text groups → (front back : List ℕ) × (text ≡ front ++ 58 ∷ back)
has_colon text [] (inl (h, eight)) = absurd (omega (arith, eight))
has_colon text (g ∷ groups) (inl (inl (group, rest, spelled, is, after), eight)) =
    let next = later_colon rest groups (omega (arith, eight)) after in
    (group, next.0, spelled ∙ ap (λ t. group ++ t) next.1)
has_colon text (g ∷ groups) (inl (inr (last, octets, ipv4, spelled, dotted, value), eight)) =
    let two : length (g ∷ groups) ≡ 2 = ap length (value ∙ ap segments_of dotted.value) in
    absurd (omega (arith, eight, two))
has_colon text groups (inr elided) = (elided.head_text, 58 ∷ elided.tail_text, elided.spelled ∙ append_assoc elided.head_text (58 ∷ 58 ∷ []) elided.tail_text)

not_name : (text groups : List ℕ) → IsColonHex text groups → is_host_name text ≡ false
not_name text groups is = elim (decide (is_host_name text)) [
  | inl name ↦
      let colon = has_colon text groups is in
      let both = and_true (nat_le 1 (length text) && nat_le (length text) 253) (list_all is_host_byte text) name in
      absurd (colon_out colon.0 colon.1 (subst (λ t. list_all is_host_byte t ≡ true) colon.2 both.1))
  | inr none ↦ none
]

-- the groups of a number are those of its last 128 bits
same_groups : (n : ℕ) → groups_of_number (n % 2 ^ 128) ≡ groups_of_number n
unfolding groups_of_number
same_groups n =
    let at_15 : n % 2 ^ 128 / 256 ^ 15 % 256 ≡ n / 256 ^ 15 % 256 = omega arith in
    let at_14 : n % 2 ^ 128 / 256 ^ 14 % 256 ≡ n / 256 ^ 14 % 256 = omega arith in
    let at_13 : n % 2 ^ 128 / 256 ^ 13 % 256 ≡ n / 256 ^ 13 % 256 = omega arith in
    let at_12 : n % 2 ^ 128 / 256 ^ 12 % 256 ≡ n / 256 ^ 12 % 256 = omega arith in
    let at_11 : n % 2 ^ 128 / 256 ^ 11 % 256 ≡ n / 256 ^ 11 % 256 = omega arith in
    let at_10 : n % 2 ^ 128 / 256 ^ 10 % 256 ≡ n / 256 ^ 10 % 256 = omega arith in
    let at_9 : n % 2 ^ 128 / 256 ^ 9 % 256 ≡ n / 256 ^ 9 % 256 = omega arith in
    let at_8 : n % 2 ^ 128 / 256 ^ 8 % 256 ≡ n / 256 ^ 8 % 256 = omega arith in
    let at_7 : n % 2 ^ 128 / 256 ^ 7 % 256 ≡ n / 256 ^ 7 % 256 = omega arith in
    let at_6 : n % 2 ^ 128 / 256 ^ 6 % 256 ≡ n / 256 ^ 6 % 256 = omega arith in
    let at_5 : n % 2 ^ 128 / 256 ^ 5 % 256 ≡ n / 256 ^ 5 % 256 = omega arith in
    let at_4 : n % 2 ^ 128 / 256 ^ 4 % 256 ≡ n / 256 ^ 4 % 256 = omega arith in
    let at_3 : n % 2 ^ 128 / 256 ^ 3 % 256 ≡ n / 256 ^ 3 % 256 = omega arith in
    let at_2 : n % 2 ^ 128 / 256 ^ 2 % 256 ≡ n / 256 ^ 2 % 256 = omega arith in
    let at_1 : n % 2 ^ 128 / 256 ^ 1 % 256 ≡ n / 256 ^ 1 % 256 = omega arith in
    let at_0 : n % 2 ^ 128 % 256 ≡ n % 256 = omega arith in
    λ k. segments_of (at_15 k ∷ at_14 k ∷ at_13 k ∷ at_12 k ∷ at_11 k ∷ at_10 k ∷ at_9 k ∷ at_8 k ∷ at_7 k ∷ at_6 k ∷ at_5 k ∷ at_4 k ∷ at_3 k ∷ at_2 k ∷ at_1 k ∷ at_0 k ∷ [])

address_again : (kept : List ℕ) (n : ℕ) → kept ≡ canonical_number V6 n → IsHostText kept kept
unfolding groups_of_number
address_again kept n is =
    let m = n % 2 ^ 128 in
    let same : kept ≡ canonical_number V6 m = is ∙ sym (ap hex_groups_text (same_groups n)) in
    let spelled : SpellsNumber kept V6 m = subst (λ t. SpellsNumber t V6 m) (sym same) (written_addr (record { family = V6; number = m }) (omega arith)) in
    address_text kept kept m (not_name kept spelled.0 spelled.1) spelled same

pub kept_again : (kept : List ℕ) → IsHost kept → IsHostText kept kept
kept_again kept (text, is) = elim (decide (is_host_name text)) [
  | inl name ↦
      let lower = MatchBool-at_true (kept ≡ map to_ascii_lowercase text) (IsAddressText text kept) name is in
      name_text kept kept (subst (λ t. is_host_name t ≡ true) (sym lower) (name_again text name)) (lower ∙ sym (lower_again text) ∙ sym (ap (map to_ascii_lowercase) lower))
  | inr none ↦
      let address = MatchBool-at_false (kept ≡ map to_ascii_lowercase text) (IsAddressText text kept) none is in
      address_again kept address.0 address.2
]
