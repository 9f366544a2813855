use Rattle.std.proofs.Common.{◌≡◌, true, is_some, drop}
use Rattle.wgr_peers.specs.Peers.{peer_of}
use Rattle.wgr_core.specs.Adoption.{give_all, other_prefixes}
use Rattle.wgr_core.proofs.draft.Draft.give_all.Given as goal

abbrev pub invariant-loop-prefix : goal.invariant-loop-prefix
invariant-loop-prefix l = record {
  left : give_all l.self.network l.number (other_prefixes l.fn.address (drop l.prefix-index l.allowed)) ≡ give_all l.initial.self.network l.number (other_prefixes l.fn.address l.allowed);
  kept : l.self ≡ record l.initial.self { network = l.self.network };
  stands : is_some (peer_of l.self.network.peers l.number) ≡ true;
}
