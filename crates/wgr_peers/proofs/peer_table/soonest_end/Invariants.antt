use Rattle.std.proofs.Common.{take}
use Rattle.std.specs.List.{All}
use Rattle.wgr_peers.specs.PeerIndex.{EndsFrom}
use Rattle.wgr_peers.proofs.peer_table.soonest_end.Given as goal

abbrev pub invariant-loop-peer : goal.invariant-loop-peer
invariant-loop-peer l = All (EndsFrom l.soonest) (take l.peer-index l.peers)
