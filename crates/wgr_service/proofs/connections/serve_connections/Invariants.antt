use Rattle.std.proofs.Common.{◌+◌, ◌-◌, ◌≤◌, ◌≡◌, List}
use Rattle.std.specs.Prelude.{flat_map}
use Rattle.sqlite.specs.Held.{state}
use Rattle.sqlite.specs.State.{HasCleanDisk}
use Rattle.wgr_service.specs.Connections.{IsAppended, ConnectionEnd, contacts_of, counted_all, line_of}
use Rattle.wgr_service.specs.Counts.{replies_of}
use Rattle.wgr_service.specs.Network.{Logs}
use Rattle.wgr_service.proofs.ConnectionLemmas.{AreServedSoFar}
use Rattle.wgr_service.proofs.connections.serve_connections.Given as goal

-- the connections so far were served and reported, and all came to the log
abbrev pub invariant-loop-served : goal.invariant-loop-served
invariant-loop-served g l = record {
  clean : HasCleanDisk (state g.S.Store l.office) → HasCleanDisk (state g.S.Store l.fn.office);
  within : l.served ≤ l.count;
  so_far : (outcomes : List ConnectionEnd) × AreServedSoFar g.S.Store l.fn.office l.office l.now l.served outcomes
      × IsAppended (g.E.Write.failed l.err) (g.E.Write.contents l.fn.err) (g.E.Write.contents l.err) (flat_map line_of outcomes)
      × Logs (g.N.Network.log l.fn.network) (g.N.Network.log l.network) (flat_map contacts_of outcomes)
      × (replies_of l.desk ≡ counted_all outcomes (replies_of l.fn.desk));
}

-- each connection is one of the requests that are left to serve, or one of the orders that may still come
abbrev pub decreases-loop-served : goal.decreases-loop-served
decreases-loop-served g l = (l.count - l.served) + g.N.Network.orders l.network
