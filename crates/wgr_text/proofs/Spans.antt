use Rattle.std.proofs.Common.{◌≡◌, ℕ, ◌+◌, ◌-◌, ◌^◌, ◌<◌, ◌≤◌, ◌↔◌, arith, refl, sym, ap, ◌∙◌}
use Rattle.std.proofs.lemmas.Nat.{pow_pos}
use Rattle.wgr_text.specs.declared.addr.Family.{Family}
use Rattle.wgr_text.specs.declared.addr.Family.TheVariants.{V4, V6}
use Rattle.wgr_text.specs.Prefix.{AddrValue, PrefixValue, IsAddr, IsPrefix, IsIn, IsSpanOf, Covers, AreDisjoint, block, width}
use Rattle.wgr_text.proofs.Blocks.{in_block, block_ends}

-- a prefix ends within its family
pub prefix_ends : (p : PrefixValue) → IsPrefix p → IsAddr p.address → p.address.number + block p.address.family p.length ≤ 2 ^ width p.address.family
prefix_ends p is fits = block_ends p.address.number (width p.address.family) (width p.address.family - p.length) (omega arith) fits is.1

pub is_in_iff : (p : PrefixValue) → IsPrefix p → (a : AddrValue) → IsIn p a ↔ ((a.family ≡ p.address.family) × (p.address.number ≤ a.number) × (a.number < p.address.number + block p.address.family p.length))
is_in_iff p is a =
    let i = in_block p.address.number a.number (block p.address.family p.length) (pow_pos (width p.address.family - p.length)) is.1 in
    ((λ h. let j = i.0 h.1 in (h.0, j.0, j.1)), (λ h. (h.0, i.1 (h.1, h.2))))

pub span_of_prefix : (p : PrefixValue) (hi : AddrValue) → IsPrefix p → IsAddr p.address → hi.family ≡ p.address.family → hi.number + 1 ≡ p.address.number + block p.address.family p.length → IsSpanOf p p.address hi
span_of_prefix p hi is fits same e =
    let ends = prefix_ends p is fits in
    let some = pow_pos (width p.address.family - p.length) in
    let wide = ap (λ f. 2 ^ width f) same in
    record {
      first_in = (fits, (is_in_iff p is p.address).1 (refl, omega arith, omega (arith, some)));
      last_in = (omega (arith, ends, e, wide), (is_in_iff p is hi).1 (same, omega (arith, e, some), omega (arith, e)));
      between = λ a. ((λ h. let j = (is_in_iff p is a).0 h in (j.0, j.1, omega (arith, e, j.2))), (λ h. (is_in_iff p is a).1 (h.0, h.1, omega (arith, e, h.2))));
    }

pub covers_by_span : (p q : PrefixValue) (lo hi lo' hi' : AddrValue) → IsSpanOf p lo hi → IsSpanOf q lo' hi' → Covers p q ↔ ((lo.family ≡ lo'.family) × (lo.number ≤ lo'.number) × (hi'.number ≤ hi.number))
covers_by_span p q lo hi lo' hi' s t = (
  (λ c. let first = (s.between lo').0 (c lo' t.first_in.0 t.first_in.1) in let last = (s.between hi').0 (c hi' t.last_in.0 t.last_in.1) in (sym first.0, first.1, last.2)),
  (λ h a fits is. let j = (t.between a).0 is in (s.between a).1 (j.0 ∙ sym h.0, omega (arith, h.1, j.1), omega (arith, h.2, j.2))),
)

pub apart_by_span : (p q : PrefixValue) (lo hi lo' hi' : AddrValue) → IsSpanOf p lo hi → IsSpanOf q lo' hi' → hi.number < lo'.number → AreDisjoint p q
apart_by_span p q lo hi lo' hi' s t h a fits is_p is_q = let j = (s.between a).0 is_p in let k = (t.between a).0 is_q in omega (arith, h, j.2, k.1)

pub width_most : (f : Family) → width f ≤ 128
width_most V4 = omega arith
width_most V6 = omega arith

pub last_fits : (a : AddrValue) (length : ℕ) (f : Family) (w n low : ℕ) → f ≡ a.family → w ≡ width f → n ≡ a.number → low + 1 ≡ 2 ^ (w - length) → IsPrefix (record { address = a; length = length }) → IsAddr a → n + low < 2 ^ width f
last_fits a length f w n low same is_width is_number e is fits =
    let ends = prefix_ends (record { address = a; length = length }) is fits in
    let wide = ap (λ f. 2 ^ width f) same in
    let size : 2 ^ (w - length) ≡ 2 ^ (width a.family - length) = ap (λ w. 2 ^ (w - length)) (is_width ∙ ap width same) in
    omega (arith, ends, wide, size, e, is_number)

pub fits_word : (n : ℕ) (f : Family) → n < 2 ^ width f → n < 2 ^ 128
fits_word n V4 h = omega arith
fits_word n V6 h = h
