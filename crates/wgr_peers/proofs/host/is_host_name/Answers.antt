use Rattle.std.proofs.Common.{◌≤◌, length, arith}
use Rattle.wgr_peers.proofs.TextLemmas.{name_by_bytes}
use Rattle.wgr_peers.proofs.host.is_host_name.Goals as goal

pub returns-then-text-le253 : goal.returns-then-text-le253
returns-then-text-le253 c =
    let some : 1 ≤ length c.args.text.now = grind arith in
    name_by_bytes _ _ some c.if-text-le253.true.1 c.has_host_bytes.ensures
