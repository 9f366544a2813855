use Rattle.std.proofs.Common.{◌≡◌, ℕ, List, [], ◌∷◌, ◌++◌, codes, decimal, slice_index, sym, ◌∙◌, ap, ap₂}
use Rattle.wgr_text.specs.PrefixText.{octets_of_number}
use Rattle.wgr_text.proofs.text.dotted_text.Goals as goal

pub returns : goal.returns
unfolding octets_of_number
returns c =
    let then : (s t x y : List ℕ) → s ≡ t → x ≡ y → s ++ x ≡ t ++ y = λ s t x y first second. ap₂ (λ (l m : List ℕ). l ++ m) first second in
    let dot : (s t : List ℕ) → s ≡ t → s ++ 46 ∷ [] ≡ t ++ codes "." = λ s t same. ap (λ (l : List ℕ). l ++ codes ".") same in
    let octet = λ (k : ℕ). ap (λ (o : List ℕ). decimal (slice_index o k)) c.to_be_bytes-octets.ensures in
    c.in_ok-extend_from_slice-4.ensures.items ∙ then _ _ _ _
    (c.in_ok-push-3.ensures.items ∙ dot _ _ (c.in_ok-extend_from_slice-3.ensures.items ∙ then _ _ _ _
    (c.in_ok-push-2.ensures.items ∙ dot _ _ (c.in_ok-extend_from_slice-2.ensures.items ∙ then _ _ _ _
    (c.in_ok-push.ensures.items ∙ dot _ _ (c.in_ok-extend_from_slice.ensures.items ∙ then _ _ _ _ c.in_ok-text.ensures.items (c.as_bytes.ensures.value ∙ c.format.ensures.text ∙ octet 0)))
    (c.as_bytes-2.ensures.value ∙ c.format-2.ensures.text ∙ octet 1)))
    (c.as_bytes-3.ensures.value ∙ c.format-3.ensures.text ∙ octet 2)))
    (c.as_bytes-4.ensures.value ∙ c.format-4.ensures.text ∙ octet 3)
