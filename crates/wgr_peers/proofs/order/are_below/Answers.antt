use Rattle.wgr_peers.proofs.TestLemmas.{below_iff}
use Rattle.wgr_peers.proofs.order.are_below.Goals as goal

pub returns-in-Some : goal.returns-in-Some
returns-in-Some c =
    below_iff c.args.peers.now c.in-Some.last.now c.args.number c.requires c.in-Some.ensures.item.3.0 c.in-Some.ensures.item.3.1
