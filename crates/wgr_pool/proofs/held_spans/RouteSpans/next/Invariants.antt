use Rattle.std.proofs.Common.{◌≡◌, nat_eq, length}
use Rattle.std.specs.HashSet.{contains}
use Rattle.wgr_pool.specs.HeldSpans.{standing_spans}
use Rattle.wgr_pool.proofs.held_spans.RouteSpans.next.Given as goal

abbrev pub invariant-loop-route : goal.invariant-loop-route
invariant-loop-route l = (standing_spans l.self.pool (contains nat_eq l.self.expired.now) l.self.routes.now ≡ standing_spans l.initial.self.pool (contains nat_eq l.initial.self.expired.now) l.initial.self.routes.now) × (l.self.pool ≡ l.initial.self.pool)

abbrev pub decreases-loop-route : goal.decreases-loop-route
decreases-loop-route l = length l.self.routes.now
