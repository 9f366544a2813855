use Rattle.wgr_laws.proofs.RouteOwners.{routed_elsewhere, routed_leads, routed_yields, unrouted_elsewhere}
use Rattle.wgr_laws.proofs.routes_change_their_own.Goals as goal

pub returns : goal.returns
returns c = record { elsewhere = routed_elsewhere; lead = routed_leads; yield_to = routed_yields; go_elsewhere = unrouted_elsewhere }
