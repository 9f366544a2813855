use Rattle.std.proofs.Common.{◌≡◌, map, take}
use Rattle.wgr_columns.specs.Decode.{network_in}
use Rattle.wgr_entries.specs.Lookups.{settled}
use Rattle.wgr_entries.proofs.all.settled_in.Given as goal

abbrev pub invariant-loop-row : goal.invariant-loop-row
invariant-loop-row l = l.networks.items ≡ map (λ r. settled (network_in r)) (take l.row-index l.rows)
