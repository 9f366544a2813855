use Rattle.std.proofs.Common.{append_assoc, ◌∙◌}
use Rattle.std.proofs.lemmas.Result.{IfOk-weaker}
use Rattle.wgr_http.specs.Reply.{first_lines}
use Rattle.wgr_http.proofs.reply.first_lines_of.Goals as goal

pub returns : goal.returns
unfolding first_lines
returns c =
    IfOk-weaker c.format.result _ _ (λ s h. h ∙ rw (c.number-number.ensures, c.reason-reason.ensures, c.media_type_of-kind.ensures) (simp append_assoc)) c.format.ensures.ok
