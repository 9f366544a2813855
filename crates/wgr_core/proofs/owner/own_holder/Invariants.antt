use Rattle.std.proofs.Common.{◌≡◌, drop}
use Rattle.wgr_core.specs.Owner.{longest_match, own_prefixes}
use Rattle.wgr_core.proofs.owner.own_holder.Given as goal

abbrev pub invariant-loop-peer : goal.invariant-loop-peer
invariant-loop-peer l = longest_match (own_prefixes (drop l.peer-index l.peers)) l.address ≡ longest_match (own_prefixes l.fn.peers) l.address
