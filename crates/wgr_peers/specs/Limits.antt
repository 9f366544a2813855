-- The limits of numbers.
use Rattle.std.specs.Prelude.{ℕ, ◌≤◌, Bool, not, ◌&&◌, nat_eq, nat_lt, cond}

-- how many peers a network may have at a time
abbrev pub max_peers : ℕ
max_peers = 4096

-- how many routes a network may have
abbrev pub max_routes : ℕ
max_routes = 4096

-- the greatest number of a peer
abbrev pub max_number : ℕ
max_number = 1000000

-- how many characters a label may have
abbrev pub max_label : ℕ
max_label = 64

abbrev pub IsPort : ℕ → Type 0
IsPort n = (1 ≤ n) × (n ≤ 65535)

abbrev pub IsCapacity : ℕ → Type 0
IsCapacity n = (1 ≤ n) × (n ≤ max_peers)

-- 2 ^ 53 - 1 at most
abbrev pub IsLeaseEnd : ℕ → Type 0
IsLeaseEnd n = n ≤ 9007199254740991

-- 2 ^ 63 - 1 at most
abbrev pub IsCount : ℕ → Type 0
IsCount n = n ≤ 9223372036854775807

abbrev pub kept_count : ℕ → ℕ
kept_count n = cond (nat_lt 9223372036854775807 n) 9223372036854775807 n

-- whether a lease with this end has ended by the moment; 0 is no end
abbrev pub is_expired : ℕ → ℕ → Bool
is_expired now until = not (nat_eq until 0) && not (nat_lt now until)
