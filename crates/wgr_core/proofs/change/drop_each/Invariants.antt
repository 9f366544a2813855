use Rattle.std.proofs.Common.{◌≡◌, drop}
use Rattle.wgr_peers.specs.Routes.{AreOrdered}
use Rattle.wgr_core.specs.Change.{without_routes}
use Rattle.wgr_core.proofs.change.drop_each.Given as goal

abbrev pub invariant-loop-prefix : goal.invariant-loop-prefix
invariant-loop-prefix l = record {
  left : without_routes l.routes.items (drop l.prefix-index l.prefixes) ≡ without_routes l.fn.routes.items l.prefixes;
  ordered : AreOrdered l.routes.items;
}
