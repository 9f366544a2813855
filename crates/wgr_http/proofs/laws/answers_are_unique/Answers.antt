use Rattle.wgr_http.proofs.Growing.{answers_unique}
use Rattle.wgr_http.proofs.laws.answers_are_unique.Goals as goal

pub returns : goal.returns
returns c = answers_unique
