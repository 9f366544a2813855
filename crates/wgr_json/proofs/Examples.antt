-- Values as JSON, by computation.
use Rattle.std.proofs.Common.{◌≡◌, ◌*◌, ◌+◌, ◌^◌, [], ◌∷◌, codes, map, refl}
use Rattle.std.specs.Fmt.{digits}
use Rattle.std.specs.Prelude.{replicate}
use Rattle.base64.specs.Rfc4648.{encode_symbols}
use Rattle.serde_json.proofs.OnLiterals.{serde_json_on_literals}
use Rattle.serde_json.specs.Written.{compact_text}
use Rattle.wgr_text.specs.declared.addr.Family.TheVariants.{V4}
use Rattle.wgr_text.specs.PrefixText.{octets_of_number}
use Rattle.wgr_json.specs.Values.{array_of, count, key_data, prefix_data}

numbers : compact_text (array_of (map count (1 ∷ 1000000 ∷ []))) ≡ codes "[1,1000000]"
unfolding serde_json_on_literals digits
numbers = refl

none : compact_text (array_of []) ≡ codes "[]"
unfolding serde_json_on_literals
none = refl

a_key : compact_text (key_data (record { 0 = replicate 32 1 })) ≡ codes "\"AQEBAQEBAQEBAQEBAQEBAQEBAQEBAQEBAQEBAQEBAQE=\""
unfolding serde_json_on_literals encode_symbols
a_key = refl

a_prefix : compact_text (prefix_data (record { address = record { family = V4; number = 10 * 2 ^ 24 + 8 * 2 ^ 16 }; length = 24 })) ≡ codes "\"10.8.0.0/24\""
unfolding serde_json_on_literals digits octets_of_number
a_prefix = refl
