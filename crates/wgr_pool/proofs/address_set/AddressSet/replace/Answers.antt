use Rattle.std.proofs.Common.{inl, inr, subst, sym, ◌∙◌, arith}
use Rattle.wgr_pool.specs.Runs.{IsGapAt}
use Rattle.wgr_pool.specs.Spans.{IsHeld}
use Rattle.wgr_pool.proofs.WithinSpans.{same_rank}
use Rattle.wgr_pool.proofs.RunLists.{places_least}
use Rattle.wgr_pool.proofs.Joining.{held_before, not_held}
use Rattle.wgr_pool.proofs.address_set.AddressSet.replace.Goals as goal

pub unreachable-requires : goal.unreachable-requires
unreachable-requires c =
    let p = c.place_above-place in
    let a = c.args.address.now in
    let gap : IsGapAt c.self.inside.runs.items p.result a = record {
      within = rw c.deref.ensures.value at p.ensures.within;
      above = rw c.deref.ensures.value at p.ensures.above;
      past = rw c.deref-2.ensures.value at (c.is_in_last.ensures.past c.if-not-is_in_last.true);
    } in
    not_held c.self.inside.runs.items p.result a c.self.invariant.0 gap (subst (λ xs. IsHeld xs a) (sym c.self.view_is) c.requires)

pub returns-then-is_in_last : goal.returns-then-is_in_last
returns-then-is_in_last c = λ b fits.
    let p = c.place_above-place-2 in
    let runs = c.deref-3.result.now in
    let last = rw (c.deref-4.ensures.value ∙ sym c.deref-3.ensures.value) at (c.is_in_last-2.ensures.has c.if-is_in_last.true) in
    let left = rw c.self.view_is at (c.part.ensures.parted.held b fits) in (
      (λ h. inr (left.0 h)),
      (λ h. elim h [
        | inl e ↦ subst (λ xs. IsHeld xs b) c.deref-3.ensures.value (held_before runs p.result c.args.by b p.ensures.within p.ensures.below last (same_rank _ _ e))
        | inr i ↦ left.1 i
      ]),
    )

pub join-requires-clause-room : goal.join-requires-clause-room
join-requires-clause-room c =
    let parted = c.part.ensures.parted in
    let least = places_least 0 c.part.new.runs.items parted.runs in
    let len = c.part.new.runs.ok.0 in
    let fewer = parted.fewer in
    let few = c.self.invariant in
    let room = c.part.ensures.room in
    omega (arith, least, len, fewer, few.1, few.2, room)
