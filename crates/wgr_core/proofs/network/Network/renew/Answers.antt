use Rattle.std.proofs.Common.{ℕ, not, sym, subst}
use Rattle.std.specs.List.{AllPairs}
use Rattle.wgr_text.specs.Prefix.{PrefixValue}
use Rattle.wgr_peers.specs.Routes.{ComesBefore}
use Rattle.wgr_core.specs.Network.{IsNetwork, is_among}
use Rattle.wgr_pool.proofs.Lists.{AllPairs-filter}
use Rattle.wgr_core.proofs.LeaveLemmas.{left_by_some}
use Rattle.wgr_core.proofs.network.Network.renew.Goals as goal

pub drop_each-requires : goal.drop_each-requires
drop_each-requires c =
    subst (AllPairs ComesBefore) (sym c.drop_routes_of.ensures) (AllPairs-filter ComesBefore (λ (r : PrefixValue × ℕ). not (is_among c.args.gone r.1)) c.self.inside.routes.items c.self.invariant.ordered)

pub invariant_of-self : goal.invariant_of-self
invariant_of-self c =
    subst IsNetwork (sym (left_by_some _ c.args.self.now c.args.gone c.args.coming c.args.routes_gone.now c.args.next c.change.new.self c.drop_routes_of.new.routes.items c.drop_each.new.routes.items c.self.view_is c.in-Ok.ensures.ok c.drop_routes_of.ensures c.drop_each.ensures)) c.requires.fits

pub returns : goal.returns
returns c =
    left_by_some _ c.args.self.now c.args.gone c.args.coming c.args.routes_gone.now c.args.next c.change.new.self c.drop_routes_of.new.routes.items c.drop_each.new.routes.items c.self.view_is c.in-Ok.ensures.ok c.drop_routes_of.ensures c.drop_each.ensures
