use Rattle.std.proofs.Common.{◌≡◌, ◌↔◌, false, subst}
use Rattle.wgr_pool.specs.PrefixTests.{same_address}
use Rattle.wgr_pool.specs.Runs.{IsGapAt}
use Rattle.wgr_pool.specs.Spans.{IsHeld}
use Rattle.wgr_pool.proofs.Parting.{leaves_none}
use Rattle.wgr_pool.proofs.address_set.AddressSet.remove.Goals as goal

pub returns-else-is_in_last : goal.returns-else-is_in_last
returns-else-is_in_last c = λ b fits.
    let p = c.place_above-place in
    let a = c.args.address.now in
    let gap : IsGapAt c.self.inside.runs.items p.result a = record {
      within = rw c.deref.ensures.value at p.ensures.within;
      above = rw c.deref.ensures.value at p.ensures.above;
      past = rw c.deref-2.ensures.value at (c.is_in_last.ensures.past c.if-is_in_last.false);
    } in
    subst (λ xs. IsHeld xs b ↔ ((same_address a b ≡ false) × IsHeld xs b)) c.self.view_is (leaves_none c.self.inside.runs.items p.result a b c.self.invariant.0 gap)
