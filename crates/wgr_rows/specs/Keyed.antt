-- What the query by a peer's key shows.
use Rattle.std.specs.Prelude.{◌≡◌, ◌⊎◌, ℕ, true, false, ◌&&◌, nat_eq, Bool, List, [], ◌∷◌, filter, map, Option, Some, None, ⊤}
use Rattle.std.specs.List.Sorted.{IsPermutation}
use Rattle.sqlite_value.specs.Order.{Row}
use Rattle.sqlite_rules.specs.Lists as rules
use Rattle.wgr_peers.specs.Limits.{is_expired}
use Rattle.wgr_model.specs.Register.{Bytes, is_same}
use Rattle.wgr_model.specs.Rows.{PeerRow, Tables, peer_id}
use Rattle.wgr_columns.specs.declared.columns.peer.TheConstants as peer
use Rattle.wgr_columns.specs.Decode.{IsNumberAt, number_at, peer_in}
use Rattle.wgr_columns.specs.Fields.{IsLeaseEndAt, IsPeerIdAt}

abbrev pub has_key : ℕ → Bytes → PeerRow → Bool
has_key network key p = nat_eq p.network network && is_same p.key.0 key

-- these are the rows of the network's peers that have the key
abbrev pub ShowKey : ℕ → Bytes → Tables → List Row → Type 0
ShowKey network key t rows = IsPermutation (filter (has_key network key) t.peers) (map peer_in rows)

-- the ids of peers and the ends of their leases are numbers
abbrev pub HaveNumbers : List Row → Type 0
HaveNumbers rows = (r : Row) → rules.Has rows r → IsNumberAt r peer.ID × IsNumberAt r peer.UNTIL

-- no row, or one with the id of a peer of the network and the end of a lease
abbrev pub IsPeerIn : List Row → ℕ → Type 0
IsPeerIn [] network = ⊤
IsPeerIn (row ∷ []) network = IsPeerIdAt row peer.ID network × IsLeaseEndAt row peer.UNTIL
IsPeerIn (row ∷ next ∷ more) network = ⊥

-- the number of the peer of the one row whose lease isn't over, or none
abbrev pub IsLiveIn : List Row → ℕ → ℕ → Option ℕ → Type 0
IsLiveIn rows network now None = (rows ≡ []) ⊎ ((r : Row) × (rows ≡ r ∷ []) × (is_expired now (number_at r peer.UNTIL) ≡ true))
IsLiveIn rows network now (Some number) = (r : Row) × (rows ≡ r ∷ []) × (is_expired now (number_at r peer.UNTIL) ≡ false) × (peer_id network number ≡ number_at r peer.ID)
