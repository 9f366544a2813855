use Rattle.std.proofs.Common.{◌≡◌, drop}
use Rattle.wgr_model.specs.Steps.{has_endpoint}
use Rattle.wgr_orders.proofs.look.has_endpoint.Given as goal

-- no network before has the endpoint
abbrev pub invariant-loop-network_entry : goal.invariant-loop-network_entry
invariant-loop-network_entry l = has_endpoint l.networks (l.host, l.port) ≡ has_endpoint (drop l.network_entry-index l.networks) (l.host, l.port)
