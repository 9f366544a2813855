use Rattle.std.proofs.Common.{◌≡◌, take}
use Rattle.std.specs.List.{filter}
use Rattle.wgr_peers.specs.Peers.{is_live}
use Rattle.wgr_peers.proofs.peer_table.PeerTable.live.Given as goal

abbrev pub invariant-loop-peer : goal.invariant-loop-peer
invariant-loop-peer l = (l.peers.items ≡ filter (is_live l.now) (take l.peer-index l.peer-items)) × (l.peer-items ≡ l.self)
