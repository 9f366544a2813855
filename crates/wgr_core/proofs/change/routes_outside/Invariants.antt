use Rattle.std.proofs.Common.{◌≡◌, nat_eq, not, take}
use Rattle.std.specs.List.{filter}
use Rattle.std.specs.HashSet.{contains}
use Rattle.wgr_core.proofs.change.routes_outside.Given as goal

abbrev pub invariant-loop-route : goal.invariant-loop-route
invariant-loop-route l = l.kept.items ≡ filter (λ r. not (contains nat_eq l.removed r.1)) (take l.route-index l.routes)
