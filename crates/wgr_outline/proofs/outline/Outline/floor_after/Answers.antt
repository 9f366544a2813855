use Rattle.std.proofs.Common.{ℕ, subst, sym}
use Rattle.wgr_core.specs.Change.{applied_if}
use Rattle.wgr_outline.specs.Outline.{IsFloor}
use Rattle.wgr_outline.proofs.AfterLemmas.{added_floor, lowest_added}
use Rattle.wgr_outline.proofs.FloorLemmas.{from_zero}
use Rattle.wgr_outline.proofs.outline.Outline.floor_after.Goals as goal

pub returns-in_default : goal.returns-in_default
returns-in_default c n change is o meets = from_zero (applied_if change n)

pub returns-in-None-Peer : goal.returns-in-None-Peer
returns-in-None-Peer c n change is o meets =
    let lowest = rw (c.in-Add.is, c.in-None-Peer.is-0, c.in-None-Peer.is-1) at meets in
    subst (λ (f : ℕ). IsFloor (applied_if change n) f) (sym c.number.ensures.value)
    (lowest_added n c.args.now c.in-Add.key c.in-Add.label c.in-Add.until c.in-Add.keepalive change is c.in-None-Peer.view lowest)

pub returns-in_default-2 : goal.returns-in_default-2
returns-in_default-2 c n change is o meets =
    added_floor n c.args.now c.in-Add.key c.in-Add.label c.in-Add.until c.in-Add.keepalive change c.in-Add.address c.args.reply.now c.floor_at.result (c.floor_at.ensures n is o) (rw c.in-Add.is at meets)
