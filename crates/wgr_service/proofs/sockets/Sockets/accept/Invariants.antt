use Rattle.std.proofs.Common.{◌≤◌}
use Rattle.wgr_service.proofs.sockets.Sockets.accept.Given as goal

-- no order has come more
abbrev pub invariant-loop : goal.invariant-loop
invariant-loop g l = record { no_more : l.self.orders_left ≤ l.fn.self.orders_left }
