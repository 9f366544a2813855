use Rattle.std.proofs.Common.{◌≡◌, ◌++◌}
use Rattle.wgr_peers.specs.Peers.{AreNumbered, AreApart}
use Rattle.wgr_peers.proofs.peer_table.PeerTable.of.Given as goal

abbrev pub invariant-loop-peer : goal.invariant-loop-peer
invariant-loop-peer l = record {
  parts : l.fn.peers.items ≡ l.draft ++ l.peer-iterator.rest.items;
  numbered : AreNumbered l.draft;
  apart : AreApart l.draft;
}
