-- All entries of a register, as its rows have them.
use Rattle.std.specs.Prelude.{◌≡◌, List, map, IsPermutation}
use Rattle.wgr_model.specs.Register.{Bytes, NetworkEntry, Token, right_of}
use Rattle.wgr_model.specs.Rows.{NetworkRow, Tables}
use Rattle.wgr_entries.specs.Lookups.{peer_count, route_count, settled}
use Rattle.wgr_orders.specs.declared.census.Census.{Census}
use Rattle.wgr_orders.specs.declared.census.Counted.{Counted}
use Rattle.wgr_orders.specs.declared.census.Granted.{Granted}

-- the network, with how many peers and how many routes there are in rows of its id
abbrev pub with_counts : Tables → NetworkEntry → Counted
with_counts t h = record { network_entry = h; peers = peer_count t h.id; routes = route_count t h.id }

-- the token, with its right, where these are the digests of the tokens that only read
abbrev pub with_right : List Bytes → Token → Granted
with_right readers x = record { token = x; right = right_of readers x.digest }

-- each token has one place, in some order, with its right
abbrev pub AreGranted : Tables → List Granted → Type 0
AreGranted t granted = (held : List Token) × IsPermutation t.tokens held × (granted ≡ map (with_right t.readers) held)

-- Each tenant, each token and each network has one place, in some order. A token is there with its right,
-- a network as it was added, with its counts.
pub record IsCensus (t : Tables) (census : Census) : Type 0 where
  pub tenants : IsPermutation t.tenants census.tenants.items
  pub tokens : AreGranted t census.tokens.items
  pub rows : List NetworkRow
  pub same : IsPermutation t.networks rows
  pub networks : census.networks.items ≡ map (λ w. with_counts t (settled w)) rows
