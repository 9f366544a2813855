use Rattle.std.proofs.Common.{sym, ◌∙◌, arith}
use Rattle.wgr_peers.proofs.RouteLengths.{found_routed, absent_unrouted, absent_next}
use Rattle.wgr_core.proofs.live.Live.is_routed.Goals as goal

pub returns-then-is_route_of_length : goal.returns-then-is_route_of_length
returns-then-is_route_of_length c =
    let n = c.args.self.now in
    let i = c.loop-length.invariant in
    sym (found_routed n.pool n.routes c.args.address.now c.loop-length.length c.requires i.1 (sym c.is_route_of_length.ensures ∙ c.if-is_route_of_length.true))

pub returns-else-is_route_of_length : goal.returns-else-is_route_of_length
returns-else-is_route_of_length c =
    let n = c.args.self.now in
    let a = c.args.address.now in
    let i = c.loop-length.invariant in
    let next = absent_next n.routes a n.pool.length c.loop-length.length i.2 (sym c.is_route_of_length.ensures ∙ c.if-is_route_of_length.false) in
    sym (absent_unrouted n.pool n.routes a (λ k d h. (c.pool.ensures.rules.routes k d h).masked.1) (λ k lo hi. next k lo (omega arith)))

pub returns : goal.returns
returns c =
    let n = c.args.self.now in
    let i = c.loop-length.invariant in
    let past = c.loop-length-test.false in
    sym (absent_unrouted n.pool n.routes c.args.address.now (λ k d h. (c.pool.ensures.rules.routes k d h).masked.1) (λ k lo hi. i.2 k lo (omega (arith, hi, past, i.0))))
