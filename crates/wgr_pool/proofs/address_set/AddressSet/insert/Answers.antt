use Rattle.std.proofs.Common.{inl, inr, subst, sym, ◌∙◌, arith}
use Rattle.wgr_pool.specs.Runs.{IsGapAt}
use Rattle.wgr_pool.specs.Spans.{IsHeld}
use Rattle.wgr_pool.proofs.WithinSpans.{same_rank}
use Rattle.wgr_pool.proofs.RunLists.{places_least}
use Rattle.wgr_pool.proofs.Joining.{held_before, not_held}
use Rattle.wgr_pool.proofs.address_set.AddressSet.insert.Goals as goal

pub returns-then-is_in_last-clause-held : goal.returns-then-is_in_last-clause-held
returns-then-is_in_last-clause-held c = λ b fits.
    let p = c.place_above-place in
    let runs = c.deref.result.now in
    let seen = c.deref.ensures.value ∙ c.self.view_is in
    let last = rw (c.deref-2.ensures.value ∙ sym c.deref.ensures.value) at (c.is_in_last.ensures.has c.if-is_in_last.true) in (
      (λ h. inr h),
      (λ h. elim h [
        | inl e ↦ subst (λ xs. IsHeld xs b) seen (held_before runs p.result c.args.address b p.ensures.within p.ensures.below last (same_rank _ _ e))
        | inr i ↦ i
      ]),
    )

pub overflow_sub-self-inside : goal.overflow_sub-self-inside
overflow_sub-self-inside c =
    let least = places_least 0 c.self.inside.runs.items c.self.invariant.0 in
    let len = c.self.inside.runs.ok.0 in
    let few = c.self.invariant.1 in
    let is = c.len.ensures in
    omega (arith, least, len, few, is)

pub returns-in_err-reserve-clause-succeeds : goal.returns-in_err-reserve-clause-succeeds
returns-in_err-reserve-clause-succeeds c = λ h.
    let p = c.place_above-place in
    let gap : IsGapAt c.self.inside.runs.items p.result c.args.address = record {
      within = rw c.deref.ensures.value at p.ensures.within;
      above = rw c.deref.ensures.value at p.ensures.above;
      past = rw c.deref-2.ensures.value at (c.is_in_last.ensures.past c.if-is_in_last.false);
    } in
    absurd (not_held c.self.inside.runs.items p.result c.args.address c.self.invariant.0 gap (subst (λ xs. IsHeld xs c.args.address) (sym c.self.view_is) h))
