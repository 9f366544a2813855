use Rattle.std.proofs.Common.{◌≡◌, take}
use Rattle.wgr_pool.specs.Allot.{lowest_where}
use Rattle.wgr_core.proofs.FreedLemmas.{held_but}
use Rattle.wgr_core.proofs.live.Live.lowest_free.Given as goal

abbrev pub invariant-loop-address : goal.invariant-loop-address
invariant-loop-address l = l.lowest ≡ lowest_where l.self.pool (held_but (take l.address-index l.address-items) l.self.pool l.self-inside.network.now.peers l.self.routes)
