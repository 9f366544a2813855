use Rattle.std.proofs.Common.{subst, sym, ap, ◌∙◌, arith, add-one}
use Rattle.std.specs.Prelude.{set}
use Rattle.std.specs.List.{insert}
use Rattle.wgr_pool.specs.Runs.{IsParted, IsPartBelow, IsPartAbove}
use Rattle.wgr_pool.specs.Spans.{IsWithin}
use Rattle.wgr_pool.proofs.Parting.{Holds, whole_run, run_below, run_above, run_in_two, room_for_two}
use Rattle.wgr_pool.proofs.address_set.part.Goals as goal

pub unreachable-requires : goal.unreachable-requires
unreachable-requires c =
    let items = c.args.runs.now.items in
    let a = c.args.address.now in
    let x = c.index.result.now in
    let holds : Holds items c.args.at x a = record { fits = c.requires.fits; within = c.requires.within; is = c.index.ensures; has = subst (λ s. IsWithin s a) (sym c.index.ensures) (c.requires.has x) } in
    let room = room_for_two items c.args.at x _ _ a c.requires.in_order holds (subst (λ o. IsPartBelow x a o) c.in-Some-Some.is-0 c.part_below.ensures) (subst (λ o. IsPartAbove x a o) c.in-Some-Some.is-1 c.part_above.ensures) in
    let full = c.in_default.ensures.full in
    let has = c.requires.room in
    let len = c.args.runs.now.ok.0 in
    omega (arith, room, full, has, len)

pub returns-in-None-None-clause-parted : goal.returns-in-None-None-clause-parted
returns-in-None-None-clause-parted c =
    let items = c.args.runs.now.items in
    let a = c.args.address.now in
    let x = c.index.result.now in
    let holds : Holds items c.args.at x a = record { fits = c.requires.fits; within = c.requires.within; is = c.index.ensures; has = subst (λ s. IsWithin s a) (sym c.index.ensures) (c.requires.has x) } in
    subst (λ xs. IsParted items xs a) (sym c.remove.ensures.items)
    (whole_run items c.args.at x a c.requires.in_order holds (subst (λ o. IsPartBelow x a o) c.in-None-None.is-0 c.part_below.ensures) (subst (λ o. IsPartAbove x a o) c.in-None-None.is-1 c.part_above.ensures))

pub returns-in-None-Some-clause-parted : goal.returns-in-None-Some-clause-parted
returns-in-None-Some-clause-parted c =
    let items = c.args.runs.now.items in
    let a = c.args.address.now in
    let x = c.index.result.now in
    let holds : Holds items c.args.at x a = record { fits = c.requires.fits; within = c.requires.within; is = c.index.ensures; has = subst (λ s. IsWithin s a) (sym c.index.ensures) (c.requires.has x) } in
    run_above items c.args.at x c.in-None-Some.above a c.requires.in_order holds (subst (λ o. IsPartBelow x a o) c.in-None-Some.is-0 c.part_below.ensures) (subst (λ o. IsPartAbove x a o) c.in-None-Some.is-1 c.part_above.ensures)

pub returns-in-Some-None-clause-parted : goal.returns-in-Some-None-clause-parted
returns-in-Some-None-clause-parted c =
    let items = c.args.runs.now.items in
    let a = c.args.address.now in
    let x = c.index.result.now in
    let holds : Holds items c.args.at x a = record { fits = c.requires.fits; within = c.requires.within; is = c.index.ensures; has = subst (λ s. IsWithin s a) (sym c.index.ensures) (c.requires.has x) } in
    run_below items c.args.at x c.in-Some-None.below a c.requires.in_order holds (subst (λ o. IsPartBelow x a o) c.in-Some-None.is-0 c.part_below.ensures) (subst (λ o. IsPartAbove x a o) c.in-Some-None.is-1 c.part_above.ensures)

pub returns-in-Ok-clause-parted : goal.returns-in-Ok-clause-parted
returns-in-Ok-clause-parted c =
    let items = c.args.runs.now.items in
    let at = c.args.at in
    let a = c.args.address.now in
    let x = c.index.result.now in
    let holds : Holds items at x a = record { fits = c.requires.fits; within = c.requires.within; is = c.index.ensures; has = subst (λ s. IsWithin s a) (sym c.index.ensures) (c.requires.has x) } in
    let is = ap (λ xs. set xs at c.in-Some-Some.below) (c.in-Ok.ensures.items ∙ ap (λ k. insert items k c.in-Some-Some.above) (add-one at)) in
    subst (λ xs. IsParted items xs a) (sym is)
    (run_in_two items at x c.in-Some-Some.below c.in-Some-Some.above a c.requires.in_order holds (subst (λ o. IsPartBelow x a o) c.in-Some-Some.is-0 c.part_below.ensures) (subst (λ o. IsPartAbove x a o) c.in-Some-Some.is-1 c.part_above.ensures))
