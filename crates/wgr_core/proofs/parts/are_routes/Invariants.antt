use Rattle.std.proofs.Common.{◌≡◌}
use Rattle.std.specs.List.{AllWithin}
use Rattle.wgr_core.specs.Network.{AreAlone, NetworkValue, IsRoute}
use Rattle.wgr_core.proofs.parts.are_routes.Given as goal

abbrev pub invariant-loop-route : goal.invariant-loop-route
invariant-loop-route l = (n : NetworkValue) → AreAlone n.peers → n.pool ≡ l.pool → n.peers ≡ l.peers → AllWithin (IsRoute n) l.routes 0 l.route-index
