use Rattle.std.proofs.Common.{◌≡◌, false, ℕ, ◌<◌, ◌≤◌, is_some}
use Rattle.wgr_text.specs.Prefix.{width, mask}
use Rattle.wgr_peers.specs.Routes.{route_of}
use Rattle.wgr_core.proofs.live.Live.is_routed.Given as goal

-- the prefixes of the lengths so far lead nowhere
abbrev pub invariant-loop-length : goal.invariant-loop-length
invariant-loop-length l = (l.length-end ≡ width l.address.family) × (l.self.pool.length ≤ l.length) × ((k : ℕ) → l.self.pool.length ≤ k → k < l.length → is_some (route_of l.self.routes (mask l.address k)) ≡ false)
