use Rattle.wgr_checks.proofs.TokenLaws.{good_tokens_are}
use Rattle.wgr_checks.proofs.laws.good_tokens_are_consistent.Goals as goal

pub returns : goal.returns
returns c = good_tokens_are
