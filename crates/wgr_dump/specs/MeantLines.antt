-- What the lines of peers say.
use Rattle.std.specs.Prelude.{ℕ, List, refl}
use Rattle.std.specs.Coded.{Coded, code_by, coded×, coded_ℕ, coded_list}
use Rattle.wgr_text.specs.Prefix.{PrefixValue}
use Rattle.wgr_dump.specs.MeantPrefixes.{coded_prefix}
use Rattle.wgr_dump.specs.Dump.{LineValue, IsPeerLine}
use Rattle.wgr_dump.specs.Fields.{CountValue}
use Rattle.wgr_dump.specs.Meant.{Meant, Meant-prop}
use Rattle.wgr_dump.specs.Unique.{one_peer_line}

abbrev pub coded_count : Coded CountValue
coded_count = code_by (List ℕ × ℕ) (coded× (coded_list coded_ℕ) coded_ℕ) (λ c. (c.digits, c.value)) (λ t. record { digits = t.0; value = t.1 }) (λ _. refl)

abbrev pub coded_line : Coded LineValue
coded_line = code_by (List ℕ × (List PrefixValue × (CountValue × (CountValue × (CountValue × ℕ))))) (coded× (coded_list coded_ℕ) (coded× (coded_list coded_prefix) (coded× coded_count (coded× coded_count (coded× coded_count coded_ℕ)))))
    (λ v. (v.key.0, (v.allowed, (v.handshake, (v.received, (v.sent, v.keepalive)))))) (λ t. record { key = record { 0 = t.0 }; allowed = t.1.0; handshake = t.1.1.0; received = t.1.1.1.0; sent = t.1.1.1.1.0; keepalive = t.1.1.1.1.1 }) (λ _. refl)

abbrev pub MeantLines : List (List ℕ) → Type 0
MeantLines lines = Meant IsPeerLine lines

pub MeantLines-prop : (lines : List (List ℕ)) → IsProp (MeantLines lines)
MeantLines-prop lines = Meant-prop IsPeerLine coded_line one_peer_line lines
