use Rattle.std.proofs.Common.{◌≡◌, take}
use Rattle.wgr_peers.specs.Peers.{expired, expired_addresses}
use Rattle.wgr_peers.proofs.peer_table.PeerTable.expired.Given as goal

abbrev pub invariant-loop-peer : goal.invariant-loop-peer
invariant-loop-peer l = (l.found.numbers ≡ expired l.now (take l.peer-index l.peer-items)) × (l.found.addresses ≡ expired_addresses l.now (take l.peer-index l.peer-items)) × (l.peer-items ≡ l.self)
