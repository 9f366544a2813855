use Rattle.std.proofs.Common.{◌≡◌, take}
use Rattle.std.specs.List.{flat_map}
use Rattle.std.specs.Prelude.{option_to_list}
use Rattle.wgr_peers.proofs.peer_table.own.second_addresses.Given as goal

abbrev pub invariant-loop-peer : goal.invariant-loop-peer
invariant-loop-peer l = l.addresses.items ≡ flat_map (λ p. option_to_list p.second) (take l.peer-index l.peers)
