use Rattle.std.proofs.Common.{◌≡◌, ◌&&◌, is_some, map, take}
use Rattle.std.specs.List.{filter}
use Rattle.wgr_peers.specs.Peers.{peer_of}
use Rattle.wgr_core.specs.Network.{live_at}
use Rattle.wgr_conf.specs.Files.{is_beside}
use Rattle.wgr_conf.proofs.peer.routes_beside.Given as goal

abbrev pub invariant-loop-route : goal.invariant-loop-route
invariant-loop-route l =
    (l.beside.items ≡ map (λ r. r.0) (filter (λ r. is_some (peer_of (live_at l.network l.now).peers r.1) && is_beside l.network l.number r) (take l.route-index l.route-items)))
    × (l.route-items ≡ l.network.routes)
