use Rattle.std.proofs.Common.{◌≡◌}
use Rattle.std.specs.List.{AllWithin}
use Rattle.wgr_core.specs.Network.{IsMember}
use Rattle.wgr_core.specs.Parts.{network_of}
use Rattle.wgr_core.proofs.parts.Parts.has_members.Given as goal

abbrev pub invariant-loop-peer : goal.invariant-loop-peer
invariant-loop-peer l = AllWithin (IsMember (network_of l.self)) l.peer-items 0 l.peer-index × (l.peer-items ≡ l.self.peers.items)
