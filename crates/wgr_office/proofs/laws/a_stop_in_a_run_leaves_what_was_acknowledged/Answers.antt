use Rattle.wgr_office.proofs.BetweenLemmas.{stops_keep}
use Rattle.wgr_office.proofs.laws.a_stop_in_a_run_leaves_what_was_acknowledged.Goals as goal

pub returns : goal.returns
returns g c = stops_keep g.S.Store
