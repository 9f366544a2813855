use Rattle.std.proofs.Common.{rules, ◌≡◌, [], ◌∷◌, ◌++◌, map, ap, ◌∙◌, arith}
use Rattle.std.proofs.lemmas.List.{take_all}
use Rattle.wgr_checks.specs.NetworkRows.{IsSlotRow, slot_at}
use Rattle.wgr_checks.proofs.ListLemmas.{all_places, one_more, one_longer}
use Rattle.wgr_checks.proofs.networks.slots_of.Goals as goal

pub loop-row-preserved : goal.loop-row-preserved
loop-row-preserved c =
    let found = rw c.in-Some.is at c.in_ok-slot.ensures.some in
    let longer = one_longer slot_at c.args.rows.now c.loop-row.all.items c.loop-row.row-index c.row-item.result c.in-Some.slot c.loop-row-test.true c.row-item.is found.1 c.loop-row.invariant.0 in
    let grown : c.push.new.self.items ≡ c.loop-row.all.items ++ c.in-Some.slot ∷ [] = search rules in (
      grown ∙ longer,
      one_more IsSlotRow c.args.rows.now c.loop-row.row-index c.row-item.result [] c.loop-row-test.true c.row-item.is found.0 c.loop-row.invariant.1,
    )

pub returns-clause-some : goal.returns-clause-some
returns-clause-some c = (
  all_places IsSlotRow c.args.rows.now [] (λ k low. c.loop-row.invariant.1 k (omega (arith, low, c.loop-row-test.false))),
  c.loop-row.invariant.0 ∙ ap (map slot_at) (take_all c.loop-row.row-index c.args.rows.now (omega (arith, c.loop-row-test.false))),
)
