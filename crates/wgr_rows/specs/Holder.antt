-- To which peer a prefix leads, and what rows of `allowed` and of `peer` say of it.
use Rattle.std.specs.Prelude.{◌≡◌, ℕ, Bool, not, ◌&&◌, nat_eq, List, [], ◌∷◌, filter, map, Option, Some, None, ⊤}
use Rattle.std.specs.List.Sorted.{IsPermutation}
use Rattle.sqlite_value.specs.Order.{Row}
use Rattle.wgr_text.specs.Prefix.{PrefixValue}
use Rattle.wgr_pool.specs.PrefixTests.{same_prefix}
use Rattle.wgr_peers.specs.Limits.{is_expired}
use Rattle.wgr_peers.specs.Routes.{route_of}
use Rattle.wgr_core.specs.Network.{NetworkValue}
use Rattle.wgr_core.specs.Owner.{allowed}
use Rattle.wgr_model.specs.Rows.{AllowedRow, Tables, peer_id}
use Rattle.wgr_columns.specs.declared.columns.allowed.TheConstants as allowed_row
use Rattle.wgr_columns.specs.declared.columns.peer.TheConstants as peer
use Rattle.wgr_columns.specs.Decode.{allowed_in, number_at, peer_in}
use Rattle.wgr_columns.specs.Fields.{IsLeaseEndAt, IsPeerIdAt}

-- the number of the peer to which this prefix leads: as its address at full length, or as a route
abbrev pub prefix_holder : NetworkValue → PrefixValue → Option ℕ
prefix_holder n p = route_of (allowed n) p

-- the row allows this prefix in this network
abbrev pub is_allowed : ℕ → PrefixValue → AllowedRow → Bool
is_allowed network p a = nat_eq a.network network && same_prefix a.prefix p

-- the rows are those of the prefix in the network; of the peer of the id
abbrev pub ShowPrefix : ℕ → PrefixValue → Tables → List Row → Type 0
ShowPrefix network p t rows = IsPermutation (filter (is_allowed network p) t.allowed) (map allowed_in rows)

abbrev pub ShowPeer : ℕ → Tables → List Row → Type 0
ShowPeer id t rows = IsPermutation (filter (λ p. nat_eq p.id id) t.peers) (map peer_in rows)

-- the number of the network's peer to which the one row leads, or none where there is no row
abbrev pub IsLed : List Row → ℕ → Option ℕ → Type 0
IsLed rows network None = rows ≡ []
IsLed rows network (Some number) = (r : Row) × (rows ≡ r ∷ []) × (peer_id network number ≡ number_at r allowed_row.PEER)

-- no row, or one that leads to a peer of the network
abbrev pub HasLead : List Row → ℕ → Type 0
HasLead [] network = ⊤
HasLead (r ∷ []) network = IsPeerIdAt r allowed_row.PEER network
HasLead (r ∷ s ∷ more) network = ⊥

-- whether the lease of the peer of the one row goes on
abbrev pub IsLasting : List Row → ℕ → Bool → Type 0
IsLasting rows now lasts = (r : Row) × (rows ≡ r ∷ []) × (lasts ≡ not (is_expired now (number_at r peer.UNTIL)))

-- one row, with the end of a lease
abbrev pub HasEnd : List Row → Type 0
HasEnd [] = ⊥
HasEnd (r ∷ []) = IsLeaseEndAt r peer.UNTIL
HasEnd (r ∷ s ∷ more) = ⊥
