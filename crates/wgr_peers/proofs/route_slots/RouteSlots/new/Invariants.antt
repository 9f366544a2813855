use Rattle.std.proofs.Common.{◌≡◌, take}
use Rattle.wgr_peers.proofs.route_slots.RouteSlots.new.Given as goal

abbrev pub invariant-loop-route : goal.invariant-loop-route
invariant-loop-route l = l.made ≡ take l.route-index l.routes
