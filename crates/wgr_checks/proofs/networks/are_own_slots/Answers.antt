use Rattle.std.proofs.Common.{sym, subst}
use Rattle.std.specs.List.{IsDistinct}
use Rattle.std.specs.List.Sorted.{IsSorted}
use Rattle.wgr_model.specs.Consistent.{same_slot}
use Rattle.wgr_model.proofs.SameLemmas.{slot_sym}
use Rattle.wgr_checks.specs.Sorted.{slot_cmp}
use Rattle.wgr_checks.specs.NetworkRows.{slot_at}
use Rattle.wgr_checks.proofs.NetworkLemmas.{put_apart, apart_put}
use Rattle.wgr_checks.proofs.networks.are_own_slots.Goals as goal

pub returns-clause-answer : goal.returns-clause-answer
returns-clause-answer c =
    let some = rw c.in-Some.is at c.in_ok-all.ensures.some in
    let all = c.in-Some.all.items in
    let put = c.sort_slots.new.all.items in
    let value = c.as_slice.ensures.value in (
      (λ told. record { each = some.0; slots = put_apart same_slot slot_sym slot_at c.args.rows.now all put some.1 c.sort_slots.ensures.same (subst (IsDistinct same_slot) value (c.slots_differ.ensures.is told)) }),
      (λ own. c.slots_differ.ensures.only (subst (IsSorted slot_cmp) (sym value) c.sort_slots.ensures.sorted) (subst (IsDistinct same_slot) (sym value) (apart_put same_slot slot_sym slot_at c.args.rows.now all put some.1 c.sort_slots.ensures.same own.slots))),
    )
