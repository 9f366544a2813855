use Rattle.std.proofs.Common.{◌≡◌, ◌<◌, true, nat_eq, get_or, refl, sym, arith, true≢false}
use Rattle.std.specs.List.{list_any}
use Rattle.wgr_checks.proofs.SortedLemmas.{rises_to, any_at, all_places, one_of, not_among, above}
use Rattle.wgr_checks.proofs.owners.are_among.Goals as goal

pub returns-clause-is : goal.returns-clause-is
returns-clause-is c so = all_places (λ owner. list_any (λ id. nat_eq owner id) c.args.ids.now ≡ true) c.args.owners.now (λ k low. c.loop-owner.invariant.0 k (omega (arith, low, c.loop-owner-test.false)))

pub loop-next-preserved : goal.loop-next-preserved
loop-next-preserved c =
    let less = c.loop-next-test.ensures.0 refl in
    let low = less.1 in (
      c.loop-next.invariant.0,
      λ up k j passed after high.
          one_of (λ k. get_or c.args.ids.now k 0 < get_or c.args.owners.now j 0) c.loop-next.next (λ i before. c.loop-next.invariant.1 up i j before after high)
          (let more = rises_to c.args.owners.now up c.loop-owner.owner-index j after high in omega (arith, low, more)) k passed,
    )

pub loop-owner-preserved : goal.loop-owner-preserved
loop-owner-preserved c =
    let ids = c.args.ids.now in
    let owners = c.args.owners.now in
    let at = c.loop-owner.owner-index in (
      one_of (λ k. list_any (λ id. nat_eq (get_or owners k 0) id) ids ≡ true) at c.loop-next.invariant.0 (any_at (get_or owners at 0) ids c.loop-next.next (omega (arith, c.if-next-ids.false)) c.if-ids-next.false),
      λ up k j low after high. c.loop-next.invariant.1 up k j low (omega (arith, after)) high,
    )

pub returns-then-next-ids-clause-only : goal.returns-then-next-ids-clause-only
returns-then-next-ids-clause-only c up rise among =
    absurd (not_among c.args.owners.now c.args.ids.now c.loop-owner.owner-index c.loop-next.next c.loop-owner-test.true rise among (λ k low. c.loop-next.invariant.1 up k c.loop-owner.owner-index low (omega arith) c.loop-owner-test.true)
    (λ low. absurd (omega (arith, low, c.if-next-ids.true))))

pub returns-then-ids-next-clause-only : goal.returns-then-ids-next-clause-only
returns-then-ids-next-clause-only c up rise among =
    absurd (not_among c.args.owners.now c.args.ids.now c.loop-owner.owner-index c.loop-next.next c.loop-owner-test.true rise among (λ k low. c.loop-next.invariant.1 up k c.loop-owner.owner-index low (omega arith) c.loop-owner-test.true)
    (λ low. above (get_or c.args.ids.now c.loop-next.next 0) (get_or c.args.owners.now c.loop-owner.owner-index 0) (λ less. true≢false (sym (c.loop-next-test.ensures.1 (low, less)))) c.if-ids-next.true))
