use Rattle.std.proofs.Common.{◌≡◌, map, take}
use Rattle.wgr_core.specs.Network.{AreAlone}
use Rattle.wgr_model.specs.Rows.{peer_row, address_row}
use Rattle.wgr_columns.specs.Decode.{allowed_in, peer_in}
use Rattle.wgr_tables.proofs.read.peers_of.Given as goal

abbrev pub invariant-loop-at : goal.invariant-loop-at
invariant-loop-at l = (map (peer_row l.network) l.peers.items ≡ map peer_in (take l.at l.rows)) × (map (address_row l.network) l.peers.items ≡ map allowed_in (take l.at l.addresses)) × AreAlone l.peers.items
