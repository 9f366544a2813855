use Rattle.std.proofs.Common.{◌-◌, rules, pos, get_or, arith, SFits, w64}
use Rattle.std.specs.Ordering.{int_eq}
use Rattle.std.proofs.lemmas.Cmp.{int_cmp_total}
use Rattle.std.proofs.lemmas.Int.{to_z-of_z}
use Rattle.wgr_checks.proofs.SortedLemmas.{rising_differ, differing_at}
use Rattle.wgr_checks.proofs.TokenLemmas.{int_tells}
use Rattle.wgr_checks.proofs.tokens.rowids_differ.Goals as goal

pub returns-clause-is : goal.returns-clause-is
returns-clause-is c so = rising_differ int_cmp_total int_eq int_tells c.args.rowids.now (λ k d low. c.loop-at.invariant k d (omega (arith, low, c.loop-at-test.false)))

pub returns-then-not-is_below-clause-only : goal.returns-then-not-is_below-clause-only
returns-then-not-is_below-clause-only c up apart =
    let rowids = c.args.rowids.now in
    let at = c.loop-at.at in
    let one : SFits w64 (get_or rowids (at - 1) (pos 0)) = search rules in
    let next : SFits w64 (get_or rowids at (pos 0)) = search rules in
    let less = differing_at int_cmp_total int_eq int_tells rowids up apart at (pos 0) (omega (arith, c.loop-at.auto)) c.loop-at-test.true in
    c.if-not-is_below.ensures.1 (rw (to_z-of_z w64 (get_or rowids (at - 1) (pos 0)) one, to_z-of_z w64 (get_or rowids at (pos 0)) next) less)
