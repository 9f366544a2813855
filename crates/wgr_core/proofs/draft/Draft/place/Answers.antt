use Rattle.std.proofs.Common.{◌≡◌, ◌||◌, Option, Some, None, refl, sym, ap, subst, ◌∙◌}
use Rattle.std.specs.Prelude.{Result}
use Rattle.std.specs.Option.{ok_or}
use Rattle.wgr_text.specs.Prefix.{AddrValue}
use Rattle.wgr_core.specs.declared.fault.AdoptFault.{AdoptFault}
use Rattle.wgr_core.specs.declared.fault.AdoptFault.TheVariants as adopt_fault
use Rattle.wgr_core.specs.declared.refusal.Refusal.TheVariants.{PoolFull}
use Rattle.wgr_core.specs.Refusals.{or_full, place}
use Rattle.wgr_core.specs.Draft.{drafted, DraftValue, MeetsAddress}
use Rattle.wgr_core.specs.Network.{lowest_free}
use Rattle.wgr_core.proofs.AloneLemmas.{members_alone}
use Rattle.wgr_core.proofs.FreedLemmas.{free_alone}
use Rattle.wgr_core.proofs.draft.Draft.place.Goals as goal

lowest_meets : (o : Option AddrValue) → MeetsAddress (ok_or o (adopt_fault.Refused PoolFull)) (or_full o)
lowest_meets None = refl
lowest_meets (Some a) = refl

pub returns-in_default-clause-place : goal.returns-in_default-clause-place
returns-in_default-clause-place c =
    let n = c.args.self.now.network in
    let pool = c.args.pool.now in
    let m = drafted c.self.inside.start.now c.self.inside.peers c.self.inside.routes c.self.inside.next in
    let found : c.in_ok-lowest.lowest ≡ lowest_free n pool = c.in_ok-lowest.ensures.lowest ∙ sym (free_alone m pool (members_alone m c.self.invariant.rules)) ∙ ap (λ (d : DraftValue). lowest_free d.network pool) c.self.view_is in
    subst (λ (o : Option AddrValue). MeetsAddress c.ok_or.result (place n pool o)) (sym c.in_default.is)
    (subst (λ (r : Result AddrValue AdoptFault). MeetsAddress r (or_full (lowest_free n pool))) (sym c.ok_or.ensures.value)
    (subst (λ (o : Option AddrValue). MeetsAddress (ok_or c.in_ok-lowest.lowest (adopt_fault.Refused PoolFull)) (or_full o)) found (lowest_meets c.in_ok-lowest.lowest)))
