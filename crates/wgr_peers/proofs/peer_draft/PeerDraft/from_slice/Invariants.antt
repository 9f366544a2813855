use Rattle.std.proofs.Common.{◌≡◌, take}
use Rattle.wgr_peers.proofs.peer_draft.PeerDraft.from_slice.Given as goal

abbrev pub invariant-loop-peer : goal.invariant-loop-peer
invariant-loop-peer l = l.draft ≡ take l.peer-index l.peers
