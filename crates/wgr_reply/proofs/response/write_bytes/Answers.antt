use Rattle.std.proofs.Common.{subst, sym}
use Rattle.wgr_reply.specs.StatusLine.{IsOfStatus}
use Rattle.wgr_reply.proofs.StatusLemmas.{of_status}
use Rattle.wgr_reply.proofs.response.write_bytes.Goals as goal

pub returns : goal.returns
returns c = record {
  bytes = c.in_ok-bytes.ensures;
  status = subst (IsOfStatus c.args.status) (sym c.in_ok-bytes.ensures) (of_status c.args.status c.args.kind c.args.allow.now c.args.body.now);
}
