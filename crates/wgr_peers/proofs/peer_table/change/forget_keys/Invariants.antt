use Rattle.std.proofs.Common.{◌≡◌, take, ◌≤◌}
use Rattle.std.specs.HashMap.{get, spare}
use Rattle.wgr_text.specs.declared.key.Key.{Key}
use Rattle.wgr_peers.specs.Peers.{key_holder, same_key}
use Rattle.wgr_peers.specs.PeersLeft.{peers_left}
use Rattle.wgr_peers.proofs.peer_table.change.forget_keys.Given as goal

abbrev pub invariant-loop-number : goal.invariant-loop-number
invariant-loop-number l = record {
  by_key : (key : Key) → get same_key l.numbers key ≡ key_holder (peers_left l.peers (take l.number-index l.gone)) key;
  room : spare l.fn.numbers ≤ spare l.numbers;
}
