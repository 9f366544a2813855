use Rattle.std.proofs.Common.{◌≡◌, [], take, map}
use Rattle.std.specs.List.{filter}
use Rattle.wgr_peers.specs.Peers.{is_live}
use Rattle.wgr_core.specs.Outcome.{peer_view}
use Rattle.wgr_core.proofs.live.Live.bare_views.Given as goal

abbrev pub invariant-loop-peer : goal.invariant-loop-peer
invariant-loop-peer l = (l.views.items ≡ map (peer_view []) (filter (is_live l.self-inside.moment) (take l.peer-index l.peer-items))) × (l.peer-items ≡ l.self-inside.network.now.peers)
