use Rattle.std.proofs.Common.{arith}
use Rattle.wgr_model.specs.Consistent.{same_endpoint}
use Rattle.wgr_checks.proofs.SortedLemmas.{rising_differ, differing_items, endpoint_tells, endpoint_total}
use Rattle.wgr_checks.proofs.keys.endpoints_differ.Goals as goal

pub returns-clause-is : goal.returns-clause-is
returns-clause-is c so = rising_differ endpoint_total same_endpoint endpoint_tells c.args.endpoints.now (λ k d low. c.loop-at.invariant k d (omega (arith, low, c.loop-at-test.false)))

pub returns-then-not-is_endpoint_below-clause-only : goal.returns-then-not-is_endpoint_below-clause-only
returns-then-not-is_endpoint_below-clause-only c up apart =
    c.if-not-is_endpoint_below.ensures.1 (differing_items endpoint_total same_endpoint endpoint_tells c.args.endpoints.now up apart c.loop-at.at c.index-endpoints-at.result c.index-endpoints-at-in-loop-at.result (omega (arith, c.loop-at.auto)) c.loop-at-test.true c.index-endpoints-at.is c.index-endpoints-at-in-loop-at.is)
