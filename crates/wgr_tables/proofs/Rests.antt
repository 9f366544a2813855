-- The rows between the steps of a commit.
use Rattle.std.proofs.Common.{◌≡◌, ℕ, ◌⊎◌, ◌↔◌, false, nat_eq, ◌++◌, map}
use Rattle.wgr_core.specs.Network.{NetworkValue}
use Rattle.wgr_model.specs.Laws.{Has}
use Rattle.wgr_model.specs.Rows.{PeerRow, AllowedRow, Tables, AreKeyed, peer_row, address_row, route_row}

-- Between the steps of a commit: the rows `u` are the rows `t` with those of the network of this id in place of its old ones,
-- but for the row of the network itself.
pub record Rests (id : ℕ) (t : Tables) (n : NetworkValue) (u : Tables) : Type 0 where
  pub meta : u.meta ≡ t.meta
  pub tenants : u.tenants ≡ t.tenants
  pub tokens : u.tokens ≡ t.tokens
  pub networks : u.networks ≡ t.networks
  pub seconds : u.seconds ≡ t.seconds
  pub readers : u.readers ≡ t.readers
  pub peers : (a : PeerRow) → Has u.peers a ↔ (Has (map (peer_row id) n.peers) a ⊎ (Has t.peers a × (nat_eq a.network id ≡ false)))
  pub allowed : (a : AllowedRow) → Has u.allowed a ↔ (Has (map (address_row id) n.peers ++ map (route_row id) n.routes) a ⊎ (Has t.allowed a × (nat_eq a.network id ≡ false)))
  pub keyed : AreKeyed u
