use Rattle.std.proofs.Common.{◌≡◌, ℕ, take}
use Rattle.std.specs.List.{filter}
use Rattle.wgr_peers.specs.Peers.{is_live}
use Rattle.wgr_register.specs.Moments.{IsInSpan}
use Rattle.wgr_register.proofs.files.steady_moments.Given as goal

abbrev pub invariant-loop-peer : goal.invariant-loop-peer
invariant-loop-peer l = record {
  within : IsInSpan l.moments l.now;
  steady : (m : ℕ) → IsInSpan l.moments m → filter (is_live m) (take l.peer-index l.peers) ≡ filter (is_live l.now) (take l.peer-index l.peers);
}
