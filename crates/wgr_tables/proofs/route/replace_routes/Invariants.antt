use Rattle.std.proofs.Common.{◌≡◌}
use Rattle.sqlite.specs.Held.{state}
use Rattle.wgr_tables.specs.TableSteps.{RoutePuts}
use Rattle.wgr_tables.proofs.Loops.{HasDone}
use Rattle.wgr_tables.proofs.route.replace_routes.Given as goal

abbrev pub invariant-loop-route : goal.invariant-loop-route
invariant-loop-route g l =
    (l.tx.conn.ghost_name ≡ l.fn.tx.conn.ghost_name)
    × HasDone (RoutePuts l.network) l.routes l.route-index (state g.S.Store l.fn.tx.conn.now) (state g.S.Store l.tx.conn.now)
