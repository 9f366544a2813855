use Rattle.std.proofs.Common.{◌≡◌, ◌+◌, ◌-◌, length, get_or, arith}
use Rattle.wgr_tables.proofs.RangeLemmas.{from_start, number_from}
use Rattle.wgr_tables.proofs.range.range_of.Goals as goal

pub returns : goal.returns
returns c =
    let peers = c.args.peers.now in
    let d = c.index-peers-peers.result in
    let many = c.if-peers-lt2.false in
    let first = (get_or peers 0 c.index-peers-0.result).number in
    let are = from_start peers c.index-peers-0.result (omega (arith, many)) (c.follow_one_another.ensures c.if-not-follow_one_another.false) in
    let last : (get_or peers (length peers - 1) d).number ≡ first + (length peers - 1) = number_from first peers (length peers - 1) d are (omega (arith, many)) in
    (are, omega (arith, last, many))
