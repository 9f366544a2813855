use Rattle.std.proofs.Common.{◌≡◌}
use Rattle.sqlite.specs.Held.{state}
use Rattle.wgr_peers.specs.declared.peer.Peer.{Peer}
use Rattle.wgr_tables.specs.TableSteps.{PeerRowsGo}
use Rattle.wgr_tables.proofs.Loops.{HasDone}
use Rattle.wgr_tables.proofs.enter.drop_one_by_one.Given as goal

abbrev pub invariant-loop-peer : goal.invariant-loop-peer
invariant-loop-peer g l =
    (l.tx.conn.ghost_name ≡ l.fn.tx.conn.ghost_name)
    × HasDone (λ (p : Peer). PeerRowsGo l.network p.number) l.peers l.peer-index (state g.S.Store l.fn.tx.conn.now) (state g.S.Store l.tx.conn.now)
