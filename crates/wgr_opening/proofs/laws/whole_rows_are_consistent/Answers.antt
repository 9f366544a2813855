use Rattle.wgr_opening.proofs.ConsistentLemmas.{consistent_is_whole}
use Rattle.wgr_opening.proofs.WholeLemmas.{whole_is_consistent}
use Rattle.wgr_opening.proofs.laws.whole_rows_are_consistent.Goals as goal

pub returns : goal.returns
returns c t = (whole_is_consistent t, consistent_is_whole t)
