-- What spells the address and the port at which to listen.
use Rattle.std.proofs.Common.{◌≡◌, ◌≢◌, ℕ, List, [], ◌∷◌, ◌++◌, All, codes, refl, ap, subst, sym, ◌∙◌, append_assoc, arith}
use Rattle.std.specs.Net.Grammar.{IsIpv4Text, IsIpv6Text}
use Rattle.std.specs.declared.net.ip_addr.IpAddr.{IpAddr}
use Rattle.std.specs.declared.net.ip_addr.IpAddr.TheVariants.{V4, V6}
use Rattle.std.specs.declared.net.ipv4_addr.Ipv4Addr.{Ipv4Addr}
use Rattle.std.specs.declared.net.ipv6_addr.Ipv6Addr.{Ipv6Addr}
use Rattle.std.specs.Prelude.{IsUtf8}
use Rattle.std.proofs.lemmas.Fmt.{IsAscii-from_digits}
use Rattle.std.proofs.lemmas.List.{append_cancel_right}
use Rattle.std.proofs.lemmas.List.Elements.{All-head, All-tail, All-from_get_or}
use Rattle.std.proofs.lemmas.Str.{IsUtf8-from_ascii}
use Rattle.std.proofs.lemmas.Str.Parse.{digit_at}
use Rattle.wgr_words.specs.Words.{SpellsEndpoint, SpellsListener, SpellsPortNumber}

-- no byte of the text is a colon
abbrev pub HasNoColon : List ℕ → Type 0
HasNoColon text = All (λ c. c ≢ 58) text

port_without : (digits : List ℕ) (n : ℕ) → SpellsPortNumber digits n → HasNoColon digits
port_without digits n is =
    All-from_get_or (λ c. c ≢ 58) digits 0 λ i h. let digit = digit_at digits i is.0.0.0.1 h in λ colon. omega (arith, digit.0)

colon_within : (front back : List ℕ) → HasNoColon (front ++ 58 ∷ back) → ⊥
colon_within [] back none = All-head (λ c. c ≢ 58) 58 back none refl
colon_within (c ∷ front) back none = colon_within front back (All-tail (λ c. c ≢ 58) c (front ++ 58 ∷ back) none)

-- the parts around the last colon
same_at_last : (front back front' back' : List ℕ) → HasNoColon back → HasNoColon back' → front ++ 58 ∷ back ≡ front' ++ 58 ∷ back' → (front ≡ front') × (back ≡ back')
same_at_last [] back [] back' none none' e = (refl, cc)
same_at_last [] back (c ∷ front') back' none none' e =
    let tail : back ≡ front' ++ 58 ∷ back' = cc in
    absurd (colon_within front' back' (subst HasNoColon tail none))
same_at_last (c ∷ front) back [] back' none none' e =
    let tail : back' ≡ front ++ 58 ∷ back = cc in
    absurd (colon_within front back (subst HasNoColon tail none'))
same_at_last (c ∷ front) back (d ∷ front') back' none none' e =
    let head : c ≡ d = cc in
    let tail : front ++ 58 ∷ back ≡ front' ++ 58 ∷ back' = cc in
    let same = same_at_last front back front' back' none none' tail in
    (ap (λ x. x ∷ front) head ∙ ap (λ t. d ∷ t) same.0, same.1)

-- the text between the brackets
same_inside : (xs ys : List ℕ) → codes "[" ++ xs ++ codes "]" ≡ codes "[" ++ ys ++ codes "]" → xs ≡ ys
same_inside xs ys e = let tail : xs ++ 93 ∷ [] ≡ ys ++ 93 ∷ [] = cc in append_cancel_right xs ys (93 ∷ []) tail

-- neither kind of address
pub no_listener : (text inner : List ℕ) → ((a : Ipv4Addr) → ¬ (IsIpv4Text text a)) → text ≡ codes "[" ++ inner ++ codes "]" → ((a : Ipv6Addr) → ¬ (IsIpv6Text inner a))
    → (address : IpAddr) → ¬ (SpellsListener text address)
no_listener text inner no_four split no_six (V4 a) is = no_four a is
no_listener text inner no_four split no_six (V6 a) is = no_six a (subst (λ t. IsIpv6Text t a) (same_inside is.0 inner (sym is.1 ∙ split)) is.2)

-- digits are ASCII
pub port_is_text : (digits : List ℕ) (n : ℕ) → SpellsPortNumber digits n → IsUtf8 digits
port_is_text digits n is = IsUtf8-from_ascii digits (IsAscii-from_digits digits is.0.0.0.1)

module _ (text : List ℕ) (endpoint : IpAddr × ℕ) (is : SpellsEndpoint text endpoint) where
  joined : text ≡ is.host ++ 58 ∷ is.digits
  joined = is.parted ∙ append_assoc is.host (58 ∷ []) is.digits

  pub colon_is_there : HasNoColon text → ⊥
  colon_is_there none = colon_within is.host is.digits (subst HasNoColon joined none)

  parts : (host digits : List ℕ) → text ≡ host ++ codes ":" ++ digits → HasNoColon digits → (is.host ≡ host) × (is.digits ≡ digits)
  parts host digits split free =
      same_at_last is.host is.digits host digits (port_without is.digits endpoint.1 is.port) free (sym joined ∙ split ∙ append_assoc host (58 ∷ []) digits)

  pub host_is : (host digits : List ℕ) → text ≡ host ++ codes ":" ++ digits → HasNoColon digits → SpellsListener host endpoint.0
  host_is host digits split free = subst (λ t. SpellsListener t endpoint.0) (parts host digits split free).0 is.address

  pub port_is : (host digits : List ℕ) → text ≡ host ++ codes ":" ++ digits → HasNoColon digits → SpellsPortNumber digits endpoint.1
  port_is host digits split free = subst (λ t. SpellsPortNumber t endpoint.1) (parts host digits split free).1 is.port
