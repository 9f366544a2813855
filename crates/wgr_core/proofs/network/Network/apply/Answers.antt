use Rattle.std.proofs.Common.{◌≡◌, ◌∙◌, refl, sym, subst}
use Rattle.std.specs.Prelude.{OnOk}
use Rattle.wgr_core.specs.Network.{NetworkValue, IsNetwork}
use Rattle.wgr_core.proofs.ApplyLemmas.{puts_one, removes_none, removes_one}
use Rattle.wgr_core.proofs.network.Network.apply.Goals as goal

pub put-requires : goal.put-requires
put-requires c =
    let puts = puts_one c.args.change c.args.self.now c.pop.new.self.items c.in-Some.peer (c.only_puts.ensures c.if-only_puts.true) (sym c.into_vec.ensures ∙ c.in-Some.ensures.items) in
    subst IsNetwork (sym puts) c.requires

pub returns-then-only_puts-clause-ok : goal.returns-then-only_puts-clause-ok
returns-then-only_puts-clause-ok c =
    let puts = puts_one c.args.change c.args.self.now c.pop.new.self.items c.in-Some.peer (c.only_puts.ensures c.if-only_puts.true) (sym c.into_vec.ensures ∙ c.in-Some.ensures.items) in
    subst (λ (n : NetworkValue). OnOk c.put.result (c.put.new.self ≡ n)) puts c.put.ensures.ok

pub assign_route-requires : goal.assign_route-requires
assign_route-requires c = subst IsNetwork (sym (removes_none c.args.change _ c.args.self.now c.in-Some-sole_route.ensures refl)) c.requires

pub returns-in-Some-sole_route-clause-ok : goal.returns-in-Some-sole_route-clause-ok
returns-in-Some-sole_route-clause-ok c =
    subst (λ (n : NetworkValue). OnOk c.assign_route.result (c.assign_route.new.self ≡ n)) (removes_none c.args.change _ c.args.self.now c.in-Some-sole_route.ensures refl) c.assign_route.ensures.ok

pub drop_route-requires : goal.drop_route-requires
drop_route-requires c = subst IsNetwork (sym (removes_none c.args.change _ c.args.self.now c.in-Some-sole_unroute.ensures refl)) c.requires

pub returns-in-Some-sole_unroute-clause-ok : goal.returns-in-Some-sole_unroute-clause-ok
returns-in-Some-sole_unroute-clause-ok c = c.drop_route.ensures ∙ removes_none c.args.change _ c.args.self.now c.in-Some-sole_unroute.ensures refl

pub leave-requires : goal.leave-requires
leave-requires c = subst IsNetwork (removes_one c.args.change c.args.self.now c.in-Some-sole_removal.number c.in-Some-sole_removal.ensures) c.requires

pub returns-in-Some-sole_removal-clause-ok : goal.returns-in-Some-sole_removal-clause-ok
returns-in-Some-sole_removal-clause-ok c =
    c.leave.ensures ∙ sym (removes_one c.args.change c.args.self.now c.in-Some-sole_removal.number c.in-Some-sole_removal.ensures)
