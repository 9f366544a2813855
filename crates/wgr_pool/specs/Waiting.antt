-- The remaining spans of routes.
use Rattle.std.specs.Prelude.{◌≡◌, ◌+◌, List, [], MatchOption, Option, nat_eq}
use Rattle.std.specs.HashSet.{contains}
use Rattle.wgr_text.specs.declared.prefix.Span.{Span}
use Rattle.wgr_text.specs.Prefix.{rank}
use Rattle.wgr_pool.specs.HeldSpans.{from_first, standing_spans}
use Rattle.wgr_pool.specs.Spans.{RisesFrom}
use Rattle.wgr_pool.specs.declared.held_spans.RouteSpans.{RouteSpans}

abbrev pub to_come : RouteSpans → List Span
to_come r = standing_spans r.pool (contains nat_eq r.expired.now) r.routes.now

-- with the one that was taken before its turn
abbrev pub waiting : Option Span → RouteSpans → List Span
waiting route r = from_first route (to_come r)

-- no run is left, or the route begins before all of them
abbrev pub BeginLater : Option Span → List Span → Type 0
BeginLater route runs = MatchOption route (runs ≡ []) (λ r. RisesFrom (rank r.lo + 1) runs)
