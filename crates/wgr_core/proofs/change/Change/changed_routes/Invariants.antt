use Rattle.std.proofs.Common.{◌≡◌, drop}
use Rattle.wgr_core.specs.Change.{applied, assign_routes}
use Rattle.wgr_core.proofs.change.Change.changed_routes.Given as goal

abbrev pub invariant-loop-route : goal.invariant-loop-route
invariant-loop-route l = assign_routes l.slots (drop l.route-index l.routes_put) ≡ (applied l.self l.network).routes
