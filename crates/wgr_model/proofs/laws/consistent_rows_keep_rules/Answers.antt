use Rattle.wgr_model.proofs.RuleLemmas.{rows_keep_rules}
use Rattle.wgr_model.proofs.laws.consistent_rows_keep_rules.Goals as goal

pub returns : goal.returns
returns c = rows_keep_rules
