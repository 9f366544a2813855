use Rattle.wgr_model.proofs.PoolLemmas.{first_is_named, overlaps_are_decided, pools_are_decided}
use Rattle.wgr_model.proofs.laws.pools_are_decided.Goals as goal

pub returns : goal.returns
returns c = record { pool = pools_are_decided; overlap = overlaps_are_decided; first = first_is_named }
