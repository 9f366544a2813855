use Rattle.std.proofs.Common.{[], arith}
use Rattle.std.specs.Cmp.Lexicographic.{nat_list_cmp_total}
use Rattle.wgr_model.specs.Register.{is_same}
use Rattle.wgr_checks.proofs.SortedLemmas.{rising_differ, differing_at, text_tells}
use Rattle.wgr_checks.proofs.keys.digests_differ.Goals as goal

pub returns-clause-is : goal.returns-clause-is
returns-clause-is c so = rising_differ nat_list_cmp_total is_same text_tells c.args.digests.now (λ k d low. c.loop-at.invariant k d (omega (arith, low, c.loop-at-test.false)))

pub returns-then-not-is_below-clause-only : goal.returns-then-not-is_below-clause-only
returns-then-not-is_below-clause-only c up apart =
    c.if-not-is_below.ensures.1 (differing_at nat_list_cmp_total is_same text_tells c.args.digests.now up apart c.loop-at.at [] (omega (arith, c.loop-at.auto)) c.loop-at-test.true)
