use Rattle.std.proofs.Common.{◌≡◌}
use Rattle.sqlite.specs.Held.{state}
use Rattle.wgr_tables.specs.TableSteps.{RouteComes}
use Rattle.wgr_tables.proofs.Loops.{HasDone}
use Rattle.wgr_tables.proofs.route.add_routes.Given as goal

abbrev pub invariant-loop-route : goal.invariant-loop-route
invariant-loop-route g l =
    (l.tx.conn.ghost_name ≡ l.fn.tx.conn.ghost_name)
    × HasDone (RouteComes l.network) l.routes l.route-index (state g.S.Store l.fn.tx.conn.now) (state g.S.Store l.tx.conn.now)
