-- A text spells one pair at most, and what is written spells what it shows.
use Rattle.std.proofs.Common.{◌≡◌, ℕ, ◌^◌, ◌<◌, List, [], ◌∷◌, decimal, refl, sym, ap, subst, ◌∙◌, arith, inl, inr, append_assoc}
use Rattle.std.proofs.lemmas.Fmt.{decimal_injective}
use Rattle.std.proofs.NetLemmas.Texts.{IsDotted-ipv4_text, IsColonHex-hex_groups_text}
use Rattle.wgr_text.specs.declared.addr.Family.{Family}
use Rattle.wgr_text.specs.declared.addr.Family.TheVariants.{V4, V6}
use Rattle.wgr_text.specs.Prefix.{AddrValue, PrefixValue, IsAddr, IsPrefix, width}
use Rattle.wgr_text.specs.PrefixText.{SpellsNumber, SpellsAddr, Spells, SpellsWithLength, HasNoSlash, canonical_number, canonical_addr, canonical_text, octets_of_number, groups_of_number}
use Rattle.wgr_text.proofs.AddrTexts.{HasNoSlash-address}
use Rattle.wgr_text.proofs.Bytes.{length-octets, octets_small, octets_back, length-groups, groups_small, groups_back}
use Rattle.wgr_text.proofs.Slashes.{HasNoSlash-decimal, same_at_last, slash_within}
use Rattle.wgr_text.proofs.Spelled.{SpellsAddr_unique, length_small}

-- an address alone has no length behind it
alone_or_not : (text : List ℕ) (a b : AddrValue) (j : ℕ) → SpellsAddr text a → SpellsWithLength text b j → ⊥
alone_or_not text a b j alone s =
    let split = s.spelled ∙ append_assoc s.front (47 ∷ []) (decimal j) in
    slash_within s.front (decimal j) (subst HasNoSlash split (HasNoSlash-address text a alone))

pub Spells_unique : (text : List ℕ) (a b : AddrValue) (k j : ℕ) → Spells text a k → Spells text b j → (a ≡ b) × (k ≡ j)
Spells_unique text a b k j (inl s) (inl t) =
    let same = SpellsAddr_unique text a b s.0 t.0 in
    (same, s.1 ∙ ap (λ (x : AddrValue). width x.family) same ∙ sym t.1)
Spells_unique text a b k j (inl s) (inr t) = absurd (alone_or_not text a b j s.0 t)
Spells_unique text a b k j (inr s) (inl t) = absurd (alone_or_not text b a k t.0 s)
Spells_unique text a b k j (inr s) (inr t) =
    let small_k = length_small a k s.fits in
    let small_j = length_small b j t.fits in
    let at_s = s.spelled ∙ append_assoc s.front (47 ∷ []) (decimal k) in
    let at_t = t.spelled ∙ append_assoc t.front (47 ∷ []) (decimal j) in
    let same = same_at_last s.front (decimal k) t.front (decimal j) (HasNoSlash-decimal k (omega arith)) (HasNoSlash-decimal j (omega arith)) (sym at_s ∙ at_t) in (
      SpellsAddr_unique t.front a b (subst (λ f. SpellsAddr f a) same.0 s.address) t.address,
      decimal_injective k j (omega arith) (omega arith) same.1,
    )

written_number : (f : Family) (n : ℕ) → n < 2 ^ width f → SpellsNumber (canonical_number f n) f n
written_number V4 n fits = (octets_of_number n, IsDotted-ipv4_text (octets_of_number n) (length-octets n) (octets_small n), sym (octets_back n fits))
written_number V6 n fits = (groups_of_number n, IsColonHex-hex_groups_text (groups_of_number n) (length-groups n) (groups_small n), sym (groups_back n fits))

pub written_addr : (a : AddrValue) → IsAddr a → SpellsAddr (canonical_addr a) a
written_addr a fits = written_number a.family a.number fits

pub written_prefix : (p : PrefixValue) → IsAddr p.address → IsPrefix p → Spells (canonical_text p) p.address p.length
written_prefix p fits is = inr (record { front = canonical_addr p.address; spelled = refl; address = written_addr p.address fits; fits = is.0 })
