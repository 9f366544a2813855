use Rattle.std.proofs.Common.{◌≡◌, take}
use Rattle.std.specs.HashMap.{get}
use Rattle.wgr_text.specs.declared.key.Key.{Key}
use Rattle.wgr_peers.specs.Peers.{key_holder, same_key}
use Rattle.wgr_peers.proofs.peer_table.numbers_by_key.Given as goal

abbrev pub invariant-loop-peer : goal.invariant-loop-peer
invariant-loop-peer l = (key : Key) → get same_key l.numbers key ≡ key_holder (take l.peer-index l.peers) key
