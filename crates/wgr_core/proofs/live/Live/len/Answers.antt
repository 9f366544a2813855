use Rattle.std.proofs.Common.{length, ap, ◌∙◌, arith}
use Rattle.wgr_core.specs.Network.{NetworkValue}
use Rattle.wgr_core.proofs.LiveLooks.{live_count}
use Rattle.wgr_core.proofs.live.Live.len.Goals as goal

pub overflow_sub-result : goal.overflow_sub-result
overflow_sub-result c =
    let n = c.self.inside.network.now in
    let count = live_count c.self.inside.moment n.peers c.self.inside.addresses c.self.invariant.addresses in
    let all = c.len.ensures ∙ ap length c.table.ensures.value in
    let over = ap length c.as_slice.ensures in omega (arith, count, all, over)

pub returns : goal.returns
returns c =
    let n = c.self.inside.network.now in
    let count = live_count c.self.inside.moment n.peers c.self.inside.addresses c.self.invariant.addresses in
    let all = c.len.ensures ∙ ap length c.table.ensures.value in
    let over = ap length c.as_slice.ensures in
    let live = ap (λ (m : NetworkValue). length m.peers) c.self.view_is in omega (arith, count, all, over, live)
