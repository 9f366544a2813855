-- A text spells one address at most, and with its length one pair.
use Rattle.std.proofs.Common.{◌≡◌, ℕ, ◌<◌, ◌≤◌, List, [], ◌∷◌, ◌++◌, codes, decimal, refl, sym, ap, subst, ◌∙◌, arith, inl, inr, append_assoc}
use Rattle.std.specs.declared.net.ipv4_addr.Ipv4Addr.{Ipv4Addr}
use Rattle.std.specs.declared.net.ipv6_addr.Ipv6Addr.{Ipv6Addr}
use Rattle.std.specs.Net.Addr.{ipv4_octets, ipv6_segments}
use Rattle.std.proofs.lemmas.Fmt.{decimal_injective}
use Rattle.std.proofs.NetLemmas.Ipv6.{IsDotted-not_colon_hex}
use Rattle.std.proofs.NetLemmas.Theorems.{IsIpv4Text_unique, IsIpv6Text_unique}
use Rattle.wgr_text.specs.declared.addr.Family.{Family}
use Rattle.wgr_text.specs.declared.addr.Family.TheVariants.{V4, V6}
use Rattle.wgr_text.specs.Prefix.{AddrValue, width}
use Rattle.wgr_text.specs.PrefixText.{SpellsNumber, SpellsAddr, Spells, HasNoSlash, number_of_octets, number_of_groups}
use Rattle.wgr_text.proofs.Slashes.{HasNoSlash-decimal, same_at_last}
use Rattle.wgr_text.proofs.Spans.{width_most}

same_number : (text : List ℕ) (f g : Family) (m n : ℕ) → SpellsNumber text f m → SpellsNumber text g n → (f ≡ g) × (m ≡ n)
same_number text V4 V4 m n s t =
    let same = IsIpv4Text_unique text (record { octets = s.0 }) (record { octets = t.0 }) s.1 t.1 in
    (refl, s.2 ∙ ap (λ (a : Ipv4Addr). number_of_octets (ipv4_octets a)) same ∙ sym t.2)
same_number text V4 V6 m n s t = absurd (IsDotted-not_colon_hex text _ _ s.1 t.1)
same_number text V6 V4 m n s t = absurd (IsDotted-not_colon_hex text _ _ t.1 s.1)
same_number text V6 V6 m n s t =
    let same = IsIpv6Text_unique text (record { segments = s.0 }) (record { segments = t.0 }) s.1 t.1 in
    (refl, s.2 ∙ ap (λ (a : Ipv6Addr). number_of_groups (ipv6_segments a)) same ∙ sym t.2)

pub SpellsAddr_unique : (text : List ℕ) (a b : AddrValue) → SpellsAddr text a → SpellsAddr text b → a ≡ b
SpellsAddr_unique text a b s t =
    let same = same_number text a.family b.family a.number b.number s t in
    λ i. record { family = same.0 i; number = same.1 i }

pub length_small : (a : AddrValue) (k : ℕ) → k ≤ width a.family → k < 256
length_small a k fits = omega (arith, width_most a.family)

-- nothing is spelled where the parts around the last `/` aren't an address and a length of it
pub nothing_spelled : (text front digits : List ℕ) → ((a : AddrValue) → ¬ (SpellsAddr text a)) → text ≡ front ++ codes "/" ++ digits → HasNoSlash digits → ((a : AddrValue) (k : ℕ) → SpellsAddr front a → digits ≡ decimal k → k ≤ width a.family → ⊥) → (a : AddrValue) (k : ℕ) → ¬ (Spells text a k)
nothing_spelled text front digits none split free not a k (inl alone) = none a alone.0
nothing_spelled text front digits none split free not a k (inr s) =
    let small = length_small a k s.fits in
    let same = same_at_last front digits s.front (decimal k) free (HasNoSlash-decimal k (omega arith)) (sym (append_assoc front (47 ∷ []) digits) ∙ sym split ∙ s.spelled ∙ append_assoc s.front (47 ∷ []) (decimal k)) in
    not a k (subst (λ t. SpellsAddr t a) (sym same.0) s.address) same.1 s.fits

-- a length that is written fits what is spelled before it
pub length_fits : (front digits : List ℕ) (a : AddrValue) (n : ℕ) → SpellsAddr front a → digits ≡ decimal n → n < 256 → (b : AddrValue) (k : ℕ) → SpellsAddr front b → digits ≡ decimal k → k ≤ width b.family → n ≤ width a.family
length_fits front digits a n read is small b k s e fits =
    let same = ap (λ (x : AddrValue). width x.family) (SpellsAddr_unique front a b read s) in
    let number = decimal_injective n k (omega arith) (omega (arith, length_small b k fits)) (sym is ∙ e) in
    omega (arith, same, number)
