use Rattle.std.proofs.Common.{sym, subst}
use Rattle.wgr_core.specs.Network.{IsNetwork}
use Rattle.wgr_core.proofs.LeaveLemmas.{left_by_one}
use Rattle.wgr_core.proofs.network.Network.leave.Goals as goal

pub invariant_of-self : goal.invariant_of-self
invariant_of-self c = subst IsNetwork (sym (left_by_one _ c.args.self.now c.args.number c.args.next c.remove.new.self c.drop_routes_to.new.routes.items c.self.view_is c.remove.ensures c.drop_routes_to.ensures)) c.requires

pub returns : goal.returns
returns c = left_by_one _ c.args.self.now c.args.number c.args.next c.remove.new.self c.drop_routes_to.new.routes.items c.self.view_is c.remove.ensures c.drop_routes_to.ensures
