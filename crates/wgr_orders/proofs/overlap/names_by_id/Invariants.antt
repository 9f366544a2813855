use Rattle.std.proofs.Common.{◌≤◌, length, drop}
use Rattle.wgr_orders.specs.Names.{NamesOf}
use Rattle.wgr_orders.proofs.overlap.names_by_id.Given as goal

-- the tenants from here on are named
abbrev pub invariant-loop-rest : goal.invariant-loop-rest
invariant-loop-rest l = record {
  within : l.rest ≤ length l.tenants;
  named : NamesOf (drop l.rest l.tenants) l.names;
}

abbrev pub decreases-loop-rest : goal.decreases-loop-rest
decreases-loop-rest l = l.rest
