use Rattle.wgr_core.proofs.Arranged.{made_exactly, made_of}
use Rattle.wgr_core.proofs.network.Network.of.Goals as goal

pub returns-clause-some : goal.returns-clause-some
returns-clause-some c =
    made_of c.args.parts c.sort_peers.new.peers.items c.sort_routes.new.routes.items c.of_sorted.result c.sort_peers.ensures.same c.sort_routes.ensures.same c.of_sorted.ensures.some c.of_sorted.ensures.exact

pub returns-clause-exact : goal.returns-clause-exact
returns-clause-exact c =
    made_exactly c.args.parts c.sort_peers.new.peers.items c.sort_routes.new.routes.items c.of_sorted.result
    c.sort_peers.ensures.same c.sort_peers.ensures.sorted c.sort_routes.ensures.same c.sort_routes.ensures.sorted c.of_sorted.ensures.exact
