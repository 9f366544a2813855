use Rattle.std.proofs.Common.{arith}
use Rattle.std.specs.Cmp.Lexicographic.{nat_list_cmp_total}
use Rattle.wgr_model.specs.Register.{is_same}
use Rattle.wgr_checks.proofs.SortedLemmas.{rising_differ, differing_items, text_tells}
use Rattle.wgr_checks.proofs.keys.names_differ.Goals as goal

pub returns-clause-is : goal.returns-clause-is
returns-clause-is c so = rising_differ nat_list_cmp_total is_same text_tells c.args.names.now (λ k d low. c.loop-at.invariant k d (omega (arith, low, c.loop-at-test.false)))

pub returns-then-not-is_name_below-clause-only : goal.returns-then-not-is_name_below-clause-only
returns-then-not-is_name_below-clause-only c up apart =
    c.if-not-is_name_below.ensures.1 (differing_items nat_list_cmp_total is_same text_tells c.args.names.now up apart c.loop-at.at c.index-names-at.result c.index-names-at-in-loop-at.result (omega (arith, c.loop-at.auto)) c.loop-at-test.true c.index-names-at.is c.index-names-at-in-loop-at.is)
