-- What the queries by the range of a network's ids show.
use Rattle.std.specs.Prelude.{ℕ, ◌&&◌, nat_eq, nat_le, Bool, true, List, filter, length, map}
use Rattle.std.specs.List.Sorted.{IsPermutation}
use Rattle.sqlite_value.specs.Order.{Row}
use Rattle.wgr_peers.specs.Limits.{kept_count, max_number}
use Rattle.wgr_model.specs.Rows.{PeerRow, Tables, peer_id}
use Rattle.wgr_columns.specs.Decode.{peer_in}

-- whether the row is one of the network's, with an id that its peers may have, and the end of the lease passes the test
abbrev pub is_owned : ℕ → (ℕ → Bool) → PeerRow → Bool
is_owned network test p = nat_eq p.network network && (nat_le (peer_id network 1) p.id && (nat_le p.id (peer_id network max_number) && test p.until))

abbrev pub ShowOwned : ℕ → (ℕ → Bool) → Tables → List Row → Type 0
ShowOwned network test t rows = IsPermutation (filter (is_owned network test) t.peers) (map peer_in rows)

-- how many rows pass
abbrev pub owned_count : ℕ → (ℕ → Bool) → Tables → ℕ
owned_count network test t = length (filter (is_owned network test) t.peers)

abbrev pub any_end : ℕ → Bool
any_end until = true

-- whether a lease has ended by the moment, as a query tests it
abbrev pub is_over : ℕ → ℕ → Bool
is_over now until = nat_le 1 until && nat_le until (kept_count now)
