use Rattle.std.proofs.Common.{arith}
use Rattle.wgr_model.specs.Consistent.{overlaps}
use Rattle.wgr_checks.specs.Sorted.{IsBelow}
use Rattle.wgr_checks.proofs.SortedLemmas.{differ_by, below_chains, below_apart, apart_rise}
use Rattle.wgr_checks.proofs.pools.pools_are_apart.Goals as goal

pub returns-clause-is : goal.returns-clause-is
returns-clause-is c so = differ_by IsBelow below_chains overlaps below_apart c.args.pools.now (λ k d low. c.loop-at.invariant k d (omega (arith, low, c.loop-at-test.false)))

pub returns-then-not-ends_before-clause-only : goal.returns-then-not-ends_before-clause-only
returns-then-not-ends_before-clause-only c up apart =
    c.if-not-ends_before.ensures.is.1 (apart_rise c.args.pools.now up apart c.loop-at.at c.index-pools-at.result c.index-pools-at-in-loop-at.result (omega (arith, c.loop-at.auto)) c.loop-at-test.true c.index-pools-at.is c.index-pools-at-in-loop-at.is
    c.if-not-ends_before.ensures.one c.if-not-ends_before.ensures.next)
