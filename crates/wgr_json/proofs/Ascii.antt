-- The text of a prefix is ASCII.
use Rattle.std.proofs.Common.{ℕ, ◌^◌, ◌<◌, [], codes, arith, inl, inr}
use Rattle.std.specs.Prelude.{IsUtf8}
use Rattle.std.specs.Str.{IsAscii}
use Rattle.std.proofs.lemmas.Fmt.{IsAscii-decimal}
use Rattle.std.proofs.lemmas.List.Elements.{All-weaker}
use Rattle.std.proofs.lemmas.Str.{IsAscii-append, IsUtf8-from_ascii}
use Rattle.std.proofs.lemmas.Str.Ascii.{IsAscii-cons, IsAscii-nil, IsAscii-from_all}
use Rattle.std.proofs.NetLemmas.Alphabet.{IsDigitOrDot, IsHexOrColon, All-ipv4_text, All-hex_groups_text}
use Rattle.wgr_text.specs.declared.addr.Family.{Family}
use Rattle.wgr_text.specs.declared.addr.Family.TheVariants.{V4, V6}
use Rattle.wgr_text.specs.Prefix.{PrefixValue}
use Rattle.wgr_text.specs.PrefixText.{canonical_number, canonical_text, octets_of_number, groups_of_number}
use Rattle.wgr_text.proofs.Bytes.{octets_small, groups_small}

digit_or_dot : (c : ℕ) → IsDigitOrDot c → c < 128
digit_or_dot c (inl in_range) = omega (arith, in_range.1)
digit_or_dot c (inr dot) = omega (arith, dot)

hex_or_colon : (c : ℕ) → IsHexOrColon c → c < 128
hex_or_colon c (inl in_range) = omega (arith, in_range.1)
hex_or_colon c (inr in_range) = omega (arith, in_range.1)

ascii_number : (family : Family) (n : ℕ) → IsAscii (canonical_number family n)
ascii_number V4 n = IsAscii-from_all _ (All-weaker IsDigitOrDot (λ c. c < 128) digit_or_dot _ (All-ipv4_text (octets_of_number n) (octets_small n)))
ascii_number V6 n = IsAscii-from_all _ (All-weaker IsHexOrColon (λ c. c < 128) hex_or_colon _ (All-hex_groups_text (groups_of_number n) (groups_small n)))

pub utf8_prefix : (p : PrefixValue) → p.length < 2 ^ 64 → IsUtf8 (canonical_text p)
utf8_prefix p small =
    let address = ascii_number p.address.family p.address.number in
    let slash : IsAscii (codes "/") = IsAscii-cons 47 [] (omega arith) IsAscii-nil in
    IsUtf8-from_ascii _ (IsAscii-append _ _ (IsAscii-append _ _ address slash) (IsAscii-decimal p.length small))
