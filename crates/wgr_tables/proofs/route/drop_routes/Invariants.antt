use Rattle.std.proofs.Common.{◌≡◌}
use Rattle.sqlite.specs.Held.{state}
use Rattle.wgr_tables.specs.TableSteps.{RouteGoes}
use Rattle.wgr_tables.proofs.Loops.{HasDone}
use Rattle.wgr_tables.proofs.route.drop_routes.Given as goal

abbrev pub invariant-loop-prefix : goal.invariant-loop-prefix
invariant-loop-prefix g l =
    (l.tx.conn.ghost_name ≡ l.fn.tx.conn.ghost_name)
    × HasDone (RouteGoes l.network) l.prefixes l.prefix-index (state g.S.Store l.fn.tx.conn.now) (state g.S.Store l.tx.conn.now)
