-- A network that its rows form.
use Rattle.std.specs.Prelude.{◌≡◌, ◌&&◌, ℕ, filter, map, nat_eq, not}
use Rattle.std.specs.List.Sorted.{IsPermutation}
use Rattle.wgr_peers.specs.Host.{IsHost}
use Rattle.wgr_core.specs.Forms.{HasForms}
use Rattle.wgr_core.specs.Network.{NetworkValue, IsNetwork}
use Rattle.wgr_model.specs.Laws.{Has}
use Rattle.wgr_model.specs.Rows.{NetworkRow, Tables, address_row, peer_row, route_row}
use Rattle.wgr_tables.specs.Loads.{network_with}

-- The rows of the network of this id, of its peers, of their addresses and of its routes are those
-- of `n`, which keeps the rules.
pub record IsStored (t : Tables) (id : ℕ) (n : NetworkValue) : Type 0 where
  pub row : NetworkRow
  pub there : Has t.networks row
  pub id_is : row.id ≡ id
  pub value : n ≡ network_with row n.peers n.routes
  pub rules : IsNetwork n
  pub forms : HasForms n
  pub host : IsHost n.host
  pub peers : IsPermutation (filter (λ p. nat_eq p.network id) t.peers) (map (peer_row id) n.peers)
  pub addresses : IsPermutation (filter (λ a. nat_eq a.network id && not a.is_route) t.allowed) (map (address_row id) n.peers)
  pub routes : IsPermutation (filter (λ a. a.is_route && nat_eq a.network id) t.allowed) (map (route_row id) n.routes)
