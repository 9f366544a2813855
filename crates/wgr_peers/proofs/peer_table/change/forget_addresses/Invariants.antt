use Rattle.std.proofs.Common.{take}
use Rattle.wgr_peers.specs.Peers.{is_first, is_second}
use Rattle.wgr_peers.specs.PeerIndex.{HasThose}
use Rattle.wgr_peers.specs.PeersLeft.{peers_left}
use Rattle.wgr_peers.proofs.peer_table.change.forget_addresses.Given as goal

abbrev pub invariant-loop-number : goal.invariant-loop-number
invariant-loop-number l = record {
  first : HasThose is_first (peers_left l.peers (take l.number-index l.gone)) l.addresses;
  second : HasThose is_second (peers_left l.peers (take l.number-index l.gone)) l.seconds;
}
