use Rattle.std.proofs.Common.{ℕ, ◌-◌, ◌<◌, nat_eq, get_or, arith}
use Rattle.std.proofs.lemmas.Cmp.{nat_cmp_total}
use Rattle.wgr_checks.proofs.SortedLemmas.{differ_by, differing_at, nat_tells, below_differ, less_is}
use Rattle.wgr_checks.proofs.keys.ids_differ.Goals as goal

pub returns-clause-is : goal.returns-clause-is
returns-clause-is c so = differ_by (λ (a b : ℕ). a < b) (λ a b d h k. omega (arith, h, k)) nat_eq below_differ c.args.ids.now (λ k d low. c.loop-at.invariant k d (omega (arith, low, c.loop-at-test.false)))

pub returns-then-ids-at-clause-only : goal.returns-then-ids-at-clause-only
returns-then-ids-at-clause-only c up apart =
    let h = less_is (get_or c.args.ids.now (c.loop-at.at - 1) 0) (get_or c.args.ids.now c.loop-at.at 0) (differing_at nat_cmp_total nat_eq nat_tells c.args.ids.now up apart c.loop-at.at 0 (omega (arith, c.loop-at.auto)) c.loop-at-test.true) in
    absurd (omega (arith, h, c.if-ids-at.true))
