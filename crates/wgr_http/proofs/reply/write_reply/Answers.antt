use Rattle.std.proofs.Common.{refl}
use Rattle.wgr_http.specs.Reply.{last_lines}
use Rattle.wgr_http.proofs.reply.write_reply.Goals as goal

pub returns : goal.returns
unfolding last_lines
returns c =
    rw (
      c.in_ok-extend_from_slice-3.ensures.items,
      c.in_ok-extend_from_slice-2.ensures.items,
      c.in_ok-push_extra_line.ensures,
      c.in_ok-extend_from_slice.ensures.items,
      c.new-reply.ensures.items,
      c.as_bytes.ensures.value,
      c.in_ok-head.ensures,
    ) refl
