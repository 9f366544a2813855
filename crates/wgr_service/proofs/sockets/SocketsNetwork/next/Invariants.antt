use Rattle.std.proofs.Common.{◌≡◌, ◌<◌, ◌≤◌}
use Rattle.wgr_service.specs.declared.network.Door.TheVariants as door
use Rattle.wgr_service.proofs.sockets.SocketsNetwork.next.Given as goal

-- no order has come more, and one at least where the last that was missed is an order's
abbrev pub invariant-loop : goal.invariant-loop
invariant-loop g l =
    record { no_more : l.self.orders_left ≤ l.fn.self.orders_left; missed : l.missed.door ≡ door.Orders → l.self.orders_left < l.fn.self.orders_left }
