-- What queries return for a network, and a network with the settings of a row.
use Rattle.std.specs.Prelude.{◌≡◌, ◌&&◌, ℕ, List, filter, map, nat_eq, not}
use Rattle.std.specs.List.Sorted.{IsPermutation}
use Rattle.wgr_peers.specs.declared.peer.Peer.{Peer}
use Rattle.wgr_peers.specs.Routes.{Routes}
use Rattle.wgr_core.specs.Network.{NetworkValue, IsNetwork}
use Rattle.sqlite_value.specs.Order.{Row}
use Rattle.wgr_model.specs.Rows.{NetworkRow, Tables}
use Rattle.wgr_columns.specs.Decode.{network_in, peer_in, allowed_in}

-- these are the rows of the network's peers, in any order; of their addresses; of its routes
abbrev pub ShowPeers : ℕ → Tables → List Row → Type 0
ShowPeers id t rows = IsPermutation (filter (λ p. nat_eq p.network id) t.peers) (map peer_in rows)

abbrev pub ShowAddresses : ℕ → Tables → List Row → Type 0
ShowAddresses id t rows = IsPermutation (filter (λ a. nat_eq a.network id && not a.is_route) t.allowed) (map allowed_in rows)

abbrev pub ShowRoutes : ℕ → Tables → List Row → Type 0
ShowRoutes id t rows = IsPermutation (filter (λ a. a.is_route && nat_eq a.network id) t.allowed) (map allowed_in rows)

-- those of the network of this id
abbrev pub ShowNetwork : ℕ → Tables → List Row → Type 0
ShowNetwork id t rows = IsPermutation (filter (λ w. nat_eq w.id id) t.networks) (map network_in rows)

abbrev pub network_with : NetworkRow → List Peer → Routes → NetworkValue
network_with w peers routes = record { pool = w.pool; host = w.host; port = w.port; server = w.server; capacity = w.capacity; next = w.next; peers = peers; routes = routes }

-- the network of a row with these peers and routes, in the order of their keys, which keeps the rules
pub record IsMade (w : NetworkRow) (joined : List Peer) (led : Routes) (n : NetworkValue) : Type 0 where
  pub value : n ≡ network_with w n.peers n.routes
  pub peers : IsPermutation joined n.peers
  pub routes : IsPermutation led n.routes
  pub rules : IsNetwork n
