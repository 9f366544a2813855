use Rattle.std.proofs.Common.{inl, inr, subst, sym, refl, ◌∙◌}
use Rattle.wgr_pool.specs.Spans.{IsHeld}
use Rattle.wgr_pool.specs.Runs.{AreRunsFrom}
use Rattle.wgr_pool.proofs.Bools.{decide}
use Rattle.wgr_pool.proofs.Joining.{held_before, not_held}
use Rattle.wgr_pool.proofs.address_set.AddressSet.contains.Goals as goal

pub returns : goal.returns
returns c =
    let a = c.args.address.now in
    let seen = c.as_slice-runs.ensures.value ∙ c.self.view_is in
    let p = c.place_above-place in
    let runs = subst (AreRunsFrom 0) (sym c.as_slice-runs.ensures.value) c.self.invariant.0 in (
      (λ h. subst (λ xs. IsHeld xs a) seen (held_before c.as_slice-runs.result.now p.result a a p.ensures.within p.ensures.below (c.is_in_last.ensures.has h) refl)),
      (λ h. elim (decide c.is_in_last.result) [
        | inl t ↦ t
        | inr f ↦ absurd (not_held c.as_slice-runs.result.now p.result a runs (record { within = p.ensures.within; above = p.ensures.above; past = c.is_in_last.ensures.past f }) (subst (λ xs. IsHeld xs a) (sym seen) h))
      ]),
    )
