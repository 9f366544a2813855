use Rattle.std.proofs.Common.{arith}
use Rattle.wgr_model.specs.Consistent.{same_slot}
use Rattle.wgr_checks.proofs.SortedLemmas.{rising_differ, differing_items, slot_tells, slot_total}
use Rattle.wgr_checks.proofs.keys.slots_differ.Goals as goal

pub returns-clause-is : goal.returns-clause-is
returns-clause-is c so = rising_differ slot_total same_slot slot_tells c.args.slots.now (λ k d low. c.loop-at.invariant k d (omega (arith, low, c.loop-at-test.false)))

pub returns-then-not-is_slot_below-clause-only : goal.returns-then-not-is_slot_below-clause-only
returns-then-not-is_slot_below-clause-only c up apart =
    c.if-not-is_slot_below.ensures.1 (differing_items slot_total same_slot slot_tells c.args.slots.now up apart c.loop-at.at c.index-slots-at.result c.index-slots-at-in-loop-at.result (omega (arith, c.loop-at.auto)) c.loop-at-test.true c.index-slots-at.is c.index-slots-at-in-loop-at.is)
