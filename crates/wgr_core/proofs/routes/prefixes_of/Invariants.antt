use Rattle.std.proofs.Common.{◌≡◌, take, map}
use Rattle.wgr_core.proofs.routes.prefixes_of.Given as goal

abbrev pub invariant-loop-route : goal.invariant-loop-route
invariant-loop-route l = l.prefixes ≡ map (λ r. r.0) (take l.route-index l.routes)
