use Rattle.std.proofs.Common.{◌≤◌, length, drop}
use Rattle.wgr_model.specs.Listing.{EntriesOf}
use Rattle.wgr_plain.proofs.listing.listed.Given as goal

-- the networks from here on are listed
abbrev pub invariant-loop-rest : goal.invariant-loop-rest
invariant-loop-rest l = record {
  within : l.rest ≤ length l.networks;
  listed : EntriesOf (drop l.rest l.networks) l.id l.listed;
}

abbrev pub decreases-loop-rest : goal.decreases-loop-rest
decreases-loop-rest l = l.rest
