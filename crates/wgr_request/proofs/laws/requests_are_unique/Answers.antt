use Rattle.wgr_request.proofs.OneOutcome.{one_outcome}
use Rattle.wgr_request.proofs.OneRequest.{one_request}
use Rattle.wgr_request.proofs.laws.requests_are_unique.Goals as goal

pub returns : goal.returns
returns c = record { request = one_request; outcome = one_outcome }
