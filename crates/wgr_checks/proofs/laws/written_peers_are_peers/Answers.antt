use Rattle.wgr_checks.proofs.MemberLaws.{peers_are}
use Rattle.wgr_checks.proofs.laws.written_peers_are_peers.Goals as goal

pub returns : goal.returns
returns c = peers_are
