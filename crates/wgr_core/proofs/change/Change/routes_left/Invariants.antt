use Rattle.std.proofs.Common.{◌≡◌, drop}
use Rattle.std.specs.List.{All}
use Rattle.wgr_peers.specs.Routes.{AreOrdered, HasAddr}
use Rattle.wgr_core.specs.Network.{without_peers}
use Rattle.wgr_core.specs.Change.{without_routes}
use Rattle.wgr_core.proofs.change.Change.routes_left.Given as goal

abbrev pub invariant-loop-prefix : goal.invariant-loop-prefix
invariant-loop-prefix l = record {
  left : without_routes l.routes.items (drop l.prefix-index l.prefix-items) ≡ without_routes (without_peers l.network l.self.removed).routes l.self.routes_gone;
  ordered : AreOrdered l.routes.items;
  masked : All HasAddr l.routes.items;
}
