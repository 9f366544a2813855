use Rattle.wgr_core.proofs.LookLemmas.{live_routes}
use Rattle.wgr_laws.proofs.LaterLemmas.{live_is_found, live_of_live, live_until, sweeps_are_unseen}
use Rattle.wgr_laws.proofs.live_until_the_end.Goals as goal

pub returns : goal.returns
returns c = record { found = live_is_found; routes = live_routes; until = live_until; later = live_of_live; unseen = sweeps_are_unseen }
