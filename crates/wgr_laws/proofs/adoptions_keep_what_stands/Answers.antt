use Rattle.wgr_laws.proofs.AdoptedPeers.{standing_peers_stay, unnamed_routes_stay, unseen_peers_stay}
use Rattle.wgr_laws.proofs.adoptions_keep_what_stands.Goals as goal

pub returns : goal.returns
returns c = record { standing = standing_peers_stay; unseen = unseen_peers_stay; routes = unnamed_routes_stay }
