use Rattle.std.proofs.Common.{rules}
use Rattle.std.proofs.lemmas.List.Sorted.{IsNonDecreasingBy-from_sort_by_key}
use Rattle.wgr_peers.specs.declared.peer.Peer.{Peer}
use Rattle.wgr_core.proofs.arrange.sort_peers.Goals as goal

pub returns-then-not-are_numbered-clause-sorted : goal.returns-then-not-are_numbered-clause-sorted
returns-then-not-are_numbered-clause-sorted c = IsNonDecreasingBy-from_sort_by_key (λ (p : Peer). p.number) _ c.sort_unstable_by_key.ensures.sorted (λ a r q k. search rules)
