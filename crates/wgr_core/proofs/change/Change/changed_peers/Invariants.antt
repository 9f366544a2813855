use Rattle.std.proofs.Common.{◌≡◌, drop}
use Rattle.wgr_peers.specs.Peers.{AreNumbered}
use Rattle.wgr_core.specs.Change.{applied, put_peers}
use Rattle.wgr_core.proofs.change.Change.changed_peers.Given as goal

abbrev pub invariant-loop-peer : goal.invariant-loop-peer
invariant-loop-peer l = record {
  left : put_peers l.peers.items (drop l.peer-index l.peer-items) ≡ (applied l.self l.network).peers;
  numbered : AreNumbered l.peers.items;
}
