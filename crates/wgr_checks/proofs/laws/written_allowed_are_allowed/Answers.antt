use Rattle.wgr_checks.proofs.MemberLaws.{allowed_are}
use Rattle.wgr_checks.proofs.laws.written_allowed_are_allowed.Goals as goal

pub returns : goal.returns
returns c = allowed_are
