use Rattle.std.proofs.Common.{◌≡◌, nat_eq, not, take}
use Rattle.std.specs.List.{filter}
use Rattle.std.specs.HashSet.{contains}
use Rattle.wgr_core.proofs.change.peers_outside.Given as goal

abbrev pub invariant-loop-peer : goal.invariant-loop-peer
invariant-loop-peer l = l.kept.items ≡ filter (λ p. not (contains nat_eq l.removed p.number)) (take l.peer-index l.peers)
