use Rattle.wgr_laws.proofs.NextLemmas.{changes_leave_live, owner_stands, replies_show_live}
use Rattle.wgr_laws.proofs.RunLemmas.{over_never_returns}
use Rattle.wgr_laws.proofs.expired_peers_are_gone.Goals as goal

pub returns : goal.returns
returns c = record { replies = replies_show_live; owners = owner_stands; changes = changes_leave_live; numbers = over_never_returns }
