use Rattle.wgr_request.proofs.OneRequest.{beginnings}
use Rattle.wgr_request.proofs.laws.beginnings_ask.Goals as goal

pub returns : goal.returns
returns c = beginnings
