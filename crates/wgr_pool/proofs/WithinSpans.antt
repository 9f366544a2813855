-- the model's tests of held addresses, and spans
use Rattle.std.proofs.Common.{◌≡◌, ℕ, ◌+◌, ◌^◌, ◌<◌, ◌↔◌, Bool, true, ◌||◌, List, length, get_or, take, ap, ◌∙◌, arith}
use Rattle.std.specs.List.{list_any}
use Rattle.std.proofs.lemmas.Grind.{common_steps}
use Rattle.std.proofs.lemmas.Bool.Decides.{nat_tests}
use Rattle.wgr_text.specs.Prefix.{AddrValue, PrefixValue, IsAddr, IsSpanOf, width, first_rank, rank}
use Rattle.wgr_pool.specs.PrefixTests.{same_family, same_address, has}
use Rattle.wgr_pool.specs.Spans.{IsWithin}
use Rattle.wgr_pool.proofs.Ranges.{between_family}
use Rattle.wgr_pool.proofs.PrefixLemmas.{same_family_is, same_family_self}
use Rattle.wgr_pool.proofs.Bridge.{has_iff}

pub same_rank : (a b : AddrValue) → same_address a b ≡ true → rank a ≡ rank b
same_rank a b h =
    let f = same_family_is a.family b.family (grind arith) in
    let n : a.number ≡ b.number = grind (arith, nat_tests) in
    let r = ap first_rank f in
    omega (arith, n, r)

pub same_within : (a b : AddrValue) → IsAddr a → IsAddr b → (same_address a b ≡ true) ↔ IsWithin (record { lo = a; hi = a }) b
same_within a b a_fits b_fits = (
  (λ h.
      let f = same_family_is a.family b.family (grind arith) in
      let n : a.number ≡ b.number = grind (arith, nat_tests) in
      let r = ap first_rank f in
      (omega (arith, n, r), omega (arith, n, r))),
  (λ h.
      let f = between_family b.family a.family b.number a.number a.number b_fits h.0 h.1 a_fits in
      let r = ap first_rank f in
      let n : a.number ≡ b.number = omega (arith, r, h.0, h.1) in
      let s : same_family a.family b.family ≡ true = ap (same_family a.family) f ∙ same_family_self a.family in
      grind (arith, nat_tests)),
)

pub has_within : (p : PrefixValue) (lo hi b : AddrValue) → IsSpanOf p lo hi → hi.family ≡ lo.family → IsAddr b → (has p b ≡ true) ↔ IsWithin (record { lo = lo; hi = hi }) b
has_within p lo hi b span same fits =
    let q = ap first_rank same in
    let w = ap (λ f. 2 ^ width f) same in (
      (λ h.
          let j = (span.between b).0 ((has_iff p b).0 h) in
          let r = ap first_rank j.0 in
          (omega (arith, j.1, r), omega (arith, j.2, r, q))),
      (λ h.
          let f = between_family b.family lo.family b.number lo.number hi.number fits h.0 (omega (arith, h.1, q)) (omega (arith, span.last_in.0, w)) in
          let r = ap first_rank f in
          (has_iff p b).1 ((span.between b).1 (f, omega (arith, h.0, r), omega (arith, h.1, r, q)))),
    )

-- one more item of a search
pub any_more : {X : Type 0} (q : X → Bool) (xs : List X) (i : ℕ) (d : X) → i < length xs → list_any q (take (i + 1) xs) ≡ (list_any q (take i xs) || q (get_or xs i d))
any_more q xs i d h = grind (arith, common_steps)
