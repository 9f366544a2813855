use Rattle.std.proofs.Common.{◌≡◌, ◌↔◌, Bool, true, false, IsTrue, refl, sym}
use Rattle.wgr_pool.proofs.PrefixLemmas.{covers_tells}
use Rattle.wgr_pool.proofs.pool.covers.Goals as goal

same_tests : (a b : Bool) → IsTrue a ↔ (b ≡ true) → a ≡ b
same_tests true b h = sym (h.0 refl)
same_tests false true h = h.1 refl
same_tests false false h = refl

pub returns : goal.returns
returns c =
    let told = c.covers.ensures.prefixes in
    let tells = covers_tells c.args.outer.now c.args.inner.now told.0 told.1 told.2 in
    let is = c.covers.ensures.value in
    same_tests _ _ ((λ so. tells.0 (is.0 so)), (λ so. is.1 (tells.1 so)))
