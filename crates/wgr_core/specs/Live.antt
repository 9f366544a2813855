-- What is live of a network.
use Rattle.std.specs.Prelude.{ℕ, ◌≡◌, Bool, List}
use Rattle.wgr_text.specs.Prefix.{AddrValue}
use Rattle.wgr_peers.specs.Peers.{expired, expired_addresses}
use Rattle.wgr_core.specs.Network.{NetworkValue, IsNetwork, is_among, live_at}

-- the expired peers are those with these numbers and addresses
pub record IsLive (n : NetworkValue) (now : ℕ) (is_expired : ℕ → Bool) (given_up : List AddrValue) : Type 0 where
  pub whole : IsNetwork n
  pub live : IsNetwork (live_at n now)
  pub numbers : (i : ℕ) → is_expired i ≡ is_among (expired now n.peers) i
  pub addresses : given_up ≡ expired_addresses now n.peers
