use Rattle.std.proofs.Common.{◌≡◌, List, take}
use Rattle.wgr_model.specs.Register.{Tenant}
use Rattle.wgr_model.specs.Steps.{overlapping}
use Rattle.wgr_orders.specs.Names.{NamesOf}
use Rattle.wgr_orders.proofs.overlap.overlapping.Given as goal

abbrev pub invariant-loop-network_entry : goal.invariant-loop-network_entry
invariant-loop-network_entry l = (named : List Tenant) → NamesOf named l.tenants → l.names.items ≡ overlapping named (take l.network_entry-index l.networks) l.pool
