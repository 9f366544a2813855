use Rattle.wgr_laws.proofs.FrameLemmas.{other_peers_stay, other_routes_stay, settings_stay}
use Rattle.wgr_laws.proofs.others_stay.Goals as goal

pub returns : goal.returns
returns c = record { settings = settings_stay; peers = other_peers_stay; routes = other_routes_stay }
