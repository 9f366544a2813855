use Rattle.wgr_http.proofs.Ending.{messages_end}
use Rattle.wgr_http.proofs.laws.messages_end.Goals as goal

pub returns : goal.returns
returns c = messages_end
