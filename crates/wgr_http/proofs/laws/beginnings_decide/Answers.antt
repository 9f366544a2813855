use Rattle.wgr_http.proofs.Deciding.{head_decides, no_head_decides, refused_decides}
use Rattle.wgr_http.proofs.laws.beginnings_decide.Goals as goal

pub returns-clause-head : goal.returns-clause-head
returns-clause-head c = head_decides

pub returns-clause-no_head : goal.returns-clause-no_head
returns-clause-no_head c = no_head_decides

pub returns-clause-refused : goal.returns-clause-refused
returns-clause-refused c = refused_decides
