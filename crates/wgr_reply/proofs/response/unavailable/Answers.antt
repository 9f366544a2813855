use Rattle.std.proofs.Common.{refl, subst, sym}
use Rattle.std.specs.Fmt.{digits}
use Rattle.serde_json.proofs.OnLiterals.{serde_json_on_literals}
use Rattle.wgr_http.specs.Reply.{first_lines, last_lines}
use Rattle.wgr_reply.specs.Response.{unavailable_shown}
use Rattle.wgr_reply.specs.StatusLine.{IsOfStatus}
use Rattle.wgr_reply.proofs.StatusLemmas.{of_shown}
use Rattle.wgr_reply.proofs.response.unavailable.Goals as goal

pub returns-clause-bytes : goal.returns-clause-bytes
unfolding serde_json_on_literals first_lines last_lines digits
returns-clause-bytes c = refl

pub returns-clause-status : goal.returns-clause-status
returns-clause-status c = subst (IsOfStatus unavailable_shown.status) (sym (returns-clause-bytes c)) (of_shown unavailable_shown)
