use Rattle.wgr_laws.proofs.OwnPeers.{replies_show_what_stands}
use Rattle.wgr_laws.proofs.replies_show_what_stands.Goals as goal

pub returns : goal.returns
returns c = replies_show_what_stands
