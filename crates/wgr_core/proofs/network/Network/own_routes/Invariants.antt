use Rattle.std.proofs.Common.{◌≡◌, take, nat_eq}
use Rattle.std.specs.List.{filter}
use Rattle.wgr_core.proofs.network.Network.own_routes.Given as goal

abbrev pub invariant-loop-route : goal.invariant-loop-route
invariant-loop-route l = (l.own.items ≡ filter (λ r. nat_eq r.1 l.number) (take l.route-index l.route-items)) × (l.route-items ≡ l.self.routes)
