-- What is known of a network that isn't in memory.
use Rattle.std.specs.Prelude.{◌≡◌, ℕ, ◌+◌, ◌<◌, ◌≤◌, true, All}
use Rattle.wgr_text.specs.Prefix.{AddrValue, PrefixValue, block}
use Rattle.wgr_pool.specs.Allot.{is_assignable}
use Rattle.wgr_pool.specs.PrefixTests.{covers}
use Rattle.wgr_peers.specs.PeerIndex.{EndsFrom}
use Rattle.wgr_core.specs.Network.{NetworkValue, is_held}
use Rattle.wgr_outline.specs.declared.outline.Outline.{Outline}

-- a route in the pool that begins below this address ends below it
abbrev pub EndsBelow : PrefixValue → ℕ → PrefixValue × ℕ → Type 0
EndsBelow pool floor r = covers pool r.0 ≡ true → r.0.address.number < floor → r.0.address.number + block r.0.address.family r.0.length ≤ floor

-- each address below this one that the pool may give is held, and no route in the pool has addresses on both sides
pub record IsFloor (n : NetworkValue) (floor : ℕ) : Type 0 where
  pub held : (a : AddrValue) → is_assignable n.pool a ≡ true → a.number < floor → is_held n n.pool a ≡ true
  pub routes : All (EndsBelow n.pool floor) n.routes

-- no lease of the network ends before the moment, and none of its addresses below the floor is free
pub record IsOutline (o : Outline) (n : NetworkValue) : Type 0 where
  pub ends : All (EndsFrom o.end) n.peers
  pub floor : IsFloor n o.floor
