use Rattle.wgr_http.proofs.Undecided.{head_undecided, no_head_undecided}
use Rattle.wgr_http.proofs.laws.shorter_beginnings_are_open.Goals as goal

pub returns-clause-head : goal.returns-clause-head
returns-clause-head c = head_undecided

pub returns-clause-no_head : goal.returns-clause-no_head
returns-clause-no_head c = no_head_undecided
