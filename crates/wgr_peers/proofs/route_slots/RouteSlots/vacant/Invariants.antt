use Rattle.std.proofs.Common.{◌≡◌}
use Rattle.std.specs.List.{All}
use Rattle.wgr_peers.specs.RouteSlots.{AreSlots}
use Rattle.wgr_peers.proofs.route_slots.RouteSlots.vacant.Given as goal

abbrev pub invariant-loop-prefix : goal.invariant-loop-prefix
invariant-loop-prefix l = AreSlots l.slots.items × All (λ s. s.1 ≡ 0) l.slots.items
