use Rattle.std.proofs.Common.{◌≡◌, take}
use Rattle.std.specs.List.{sum_by}
use Rattle.wgr_show.specs.Figures.{capped}
use Rattle.wgr_show.proofs.figures.count_peers.Given as goal

abbrev pub invariant-loop-counted : goal.invariant-loop-counted
invariant-loop-counted l = l.peers ≡ capped (sum_by (λ n. n.peers) (take l.counted-index l.networks))
