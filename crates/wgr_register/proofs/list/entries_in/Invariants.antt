use Rattle.std.proofs.Common.{◌≡◌, ◌≤◌, length, drop, map}
use Rattle.wgr_columns.specs.Decode.{network_in}
use Rattle.wgr_entries.specs.Lookups.{settled}
use Rattle.wgr_register.specs.Listing.{by_name}
use Rattle.wgr_register.proofs.list.entries_in.Given as goal

-- the networks from here on are there
abbrev pub invariant-loop-rest : goal.invariant-loop-rest
invariant-loop-rest l = record {
  within : l.rest ≤ length l.rows;
  there : l.networks ≡ by_name (map (λ r. settled (network_in r)) (drop l.rest l.rows));
}

abbrev pub decreases-loop-rest : goal.decreases-loop-rest
decreases-loop-rest l = l.rest
