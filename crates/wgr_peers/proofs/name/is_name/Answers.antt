use Rattle.std.proofs.Common.{◌≤◌, length, arith}
use Rattle.wgr_peers.proofs.TextLemmas.{own_name_by_bytes}
use Rattle.wgr_peers.proofs.name.is_name.Goals as goal

pub returns-then-text-le32 : goal.returns-then-text-le32
returns-then-text-le32 c =
    let some : 1 ≤ length c.args.text.now = grind arith in
    own_name_by_bytes _ _ some c.if-text-le32.true.1 c.has_name_bytes.ensures
