use Rattle.wgr_laws.proofs.MapLemmas.{same_peers, same_routes}
use Rattle.wgr_core.proofs.Arranged.{one_network}
use Rattle.wgr_laws.proofs.lists_are_maps.Goals as goal

pub returns : goal.returns
returns c = record { peers = same_peers; routes = same_routes; parts = one_network }
