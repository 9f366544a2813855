use Rattle.std.proofs.Common.{sym, subst, ◌∙◌, arith}
use Rattle.wgr_text.specs.Prefix.{IsAddr}
use Rattle.wgr_peers.specs.RouteSlots.{AreSlots, IsMasked}
use Rattle.wgr_peers.proofs.SlotLemmas.{slots_push, slots_first}
use Rattle.wgr_peers.proofs.route_slots.push_vacant.Goals as goal
use Rattle.wgr_peers.proofs.route_slots.push_vacant.Goals.{in-Some, in-None}

pub returns-in_ok-push-clause-slots : goal.returns-in_ok-push-clause-slots
returns-in_ok-push-clause-slots c =
    let slots = c.args.slots.now.items in
    let masked : IsMasked (c.args.prefix, 0) = (subst IsAddr c.address-address.ensures.value c.address-address.ensures.fits, c.length-length.ensures.fits) in
    subst AreSlots (sym c.in_ok-push.ensures.items) (elim c.match-last.branch [
      | in-Some w ↦
          let item = rw c.deref.ensures.value at w.in-Some.ensures.item in
          let before = sym w.comes_before-is_last.ensures ∙ sym w.is_last-is ∙ c.if-is_last.true in
          slots_push slots w.in-Some.last.now (c.args.prefix, 0) c.requires.slots masked item.3.0 item.3.1 before
      | in-None w ↦
          let item = rw c.deref.ensures.value at w.in-None.ensures.item in
          slots_first slots (c.args.prefix, 0) (omega (arith, item.3)) c.requires.slots masked
    ])
