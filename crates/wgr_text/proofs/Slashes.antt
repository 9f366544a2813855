-- Where the `/` of a text stands.
use Rattle.std.proofs.Common.{◌≡◌, ◌≢◌, ℕ, ◌^◌, ◌<◌, List, [], ◌∷◌, ◌++◌, decimal, refl, ap, subst, ◌∙◌, arith}
use Rattle.std.proofs.lemmas.Fmt.{decimal_is_IsNumeral}
use Rattle.std.proofs.lemmas.List.Elements.{All-head, All-tail, All-from_get_or}
use Rattle.std.proofs.lemmas.Str.Parse.{digit_at}
use Rattle.wgr_text.specs.PrefixText.{HasNoSlash}

pub HasNoSlash-decimal : (k : ℕ) → k < 2 ^ 64 → HasNoSlash (decimal k)
HasNoSlash-decimal k small = All-from_get_or (λ c. c ≢ 47) (decimal k) 0 λ i h. let digit = digit_at (decimal k) i (decimal_is_IsNumeral k small).0.1 h in λ slash. omega (arith, digit.0)

-- a text with a `/` in it isn't without
pub slash_within : (front back : List ℕ) → HasNoSlash (front ++ 47 ∷ back) → ⊥
slash_within [] back none = All-head (λ c. c ≢ 47) 47 back none refl
slash_within (c ∷ front) back none = slash_within front back (All-tail (λ c. c ≢ 47) c (front ++ 47 ∷ back) none)

-- the parts around the last `/`
pub same_at_last : (front back front' back' : List ℕ) → HasNoSlash back → HasNoSlash back' → front ++ 47 ∷ back ≡ front' ++ 47 ∷ back' → (front ≡ front') × (back ≡ back')
same_at_last [] back [] back' none none' e = (refl, cc)
same_at_last [] back (c ∷ front') back' none none' e =
    let tail : back ≡ front' ++ 47 ∷ back' = cc in
    absurd (slash_within front' back' (subst HasNoSlash tail none))
same_at_last (c ∷ front) back [] back' none none' e =
    let tail : back' ≡ front ++ 47 ∷ back = cc in
    absurd (slash_within front back (subst HasNoSlash tail none'))
same_at_last (c ∷ front) back (d ∷ front') back' none none' e =
    let head : c ≡ d = cc in
    let tail : front ++ 47 ∷ back ≡ front' ++ 47 ∷ back' = cc in
    let same = same_at_last front back front' back' none none' tail in
    (ap (λ x. x ∷ front) head ∙ ap (λ t. d ∷ t) same.0, same.1)
