-- The rows that hold addresses of a network's pool from a floor on, in the order of their prefixes.
use Rattle.std.specs.Prelude.{◌≡◌, ℕ, pos, ◌+◌, ◌-◌, Bool, true, false, ◌&&◌, nat_eq, nat_le, nat_lt, if◌then◌else◌, List, [], ◌∷◌, map, filter, drop, codes, Option, Some, None}
use Rattle.sqlite_value.specs.Order.{Row}
use Rattle.sqlite.specs.declared.types.Value.TheVariants.{Int, Blob}
use Rattle.wgr_text.specs.declared.prefix.Span.{Span}
use Rattle.wgr_text.specs.Prefix.{AddrValue, PrefixValue, block}
use Rattle.wgr_pool.specs.HeldSpans.{span_of}
use Rattle.wgr_peers.specs.Limits.{max_peers, max_routes}
use Rattle.wgr_model.specs.Rows.{AllowedRow, Tables, family_number, in_order, number_in, prefix_cmp, prefix_key}
use Rattle.wgr_columns.specs.Decode.{bytes_of}
use Rattle.wgr_rows.specs.declared.progress.Progress.{Progress}
use Rattle.wgr_rows.specs.declared.progress.Progress.TheVariants.{Running, Done, Stopped}

abbrev pub last_number : PrefixValue → ℕ
last_number p = p.address.number + block p.address.family p.length - 1

-- how many prefixes a network may have: an address of each peer, and the routes
abbrev pub max_holds : ℕ
max_holds = max_peers + max_routes

-- the row is of a prefix in the network that begins in the pool, from this address on, and is no shorter than it
abbrev pub is_hold : ℕ → PrefixValue → ℕ → AllowedRow → Bool
is_hold network pool start a =
    nat_eq a.network network && (nat_eq (family_number a.prefix.address.family) (family_number pool.address.family)
    && (nat_le start a.prefix.address.number && (nat_le a.prefix.address.number (last_number pool) && nat_le pool.length a.prefix.length)))

abbrev pub holds_in : Tables → ℕ → PrefixValue → ℕ → List AllowedRow
holds_in t network pool start = in_order prefix_cmp (map (λ a. (prefix_key a.prefix, a)) (filter (is_hold network pool start) t.allowed))

-- the statement that shows them, with the peers to which they lead or without, and its parameters
abbrev pub holds_text : Bool → List ℕ
holds_text true = codes "SELECT NULL, network, family, lo, length, hi, peer, kind FROM allowed WHERE network = ?1 AND family = ?2 AND lo >= ?3 AND lo <= ?4 AND length >= ?5 ORDER BY lo, length"
holds_text false = codes "SELECT NULL, network, family, lo, length FROM allowed WHERE network = ?1 AND family = ?2 AND lo >= ?3 AND lo <= ?4 AND length >= ?5 ORDER BY lo, length"

abbrev pub hold_params : ℕ → PrefixValue → ℕ → Row
hold_params network pool start = Int (pos network) ∷ Int (pos (family_number pool.address.family)) ∷ Blob (bytes_of start) ∷ Blob (bytes_of (last_number pool)) ∷ Int (pos pool.length) ∷ []

-- the pool's addresses below this one, if there are any
abbrev pub below : PrefixValue → AddrValue → Option Span
below pool start = if nat_lt pool.address.number start.number then Some (record { lo = pool.address; hi = record start { number = start.number - 1 } }) else None

-- the addresses of a row's prefix, and the number of the peer to which it leads, if it is shown
abbrev pub HeldSpan : Type 0
HeldSpan = Span × Option ℕ

abbrev pub brief : Bool → ℕ → AllowedRow → HeldSpan
brief shows_peers network a = (span_of a.prefix, if shows_peers then Some (number_in network a.peer) else None)

-- what a reading that took so many rows has still to give
abbrev pub rows_to_come : Bool → Progress → Tables → ℕ → PrefixValue → ℕ → ℕ → List HeldSpan
rows_to_come shows_peers Running t network pool start taken = drop taken (map (brief shows_peers network) (holds_in t network pool start))
rows_to_come shows_peers Done t network pool start taken = []
rows_to_come shows_peers (Stopped why) t network pool start taken = []

-- whether a row leads to an expired peer; one that doesn't show its peer leads to none
abbrev pub is_passed_over : (ℕ → Bool) → Option ℕ → Bool
is_passed_over expired None = false
is_passed_over expired (Some number) = expired number

-- the spans of those that lead to peers that stay
abbrev pub staying : (ℕ → Bool) → List HeldSpan → List Span
staying expired [] = []
staying expired (h ∷ holds) = if is_passed_over expired h.1 then staying expired holds else h.0 ∷ staying expired holds

-- the spans, and one before them if there is one
abbrev pub behind : Option Span → List Span → List Span
behind None spans = spans
behind (Some s) spans = s ∷ spans

-- the spans that a reading has still to give: one that comes first, and those of its rows
abbrev pub rest : Option Span → (ℕ → Bool) → Bool → Progress → Tables → ℕ → PrefixValue → ℕ → ℕ → List Span
rest first expired shows_peers at t network pool start taken = behind first (staying expired (rows_to_come shows_peers at t network pool start taken))

-- and all that it gives: the addresses below the start, and those of the rows from there on
abbrev pub coming : Bool → (ℕ → Bool) → Tables → ℕ → PrefixValue → AddrValue → List Span
coming shows_peers expired t network pool start = rest (below pool start) expired shows_peers Running t network pool start.number 0

-- a call that gave `given` took the first of what was to come
abbrev pub TakesFirst : List HeldSpan → Option HeldSpan → List HeldSpan → Type 0
TakesFirst old None new = (old ≡ []) × (new ≡ [])
TakesFirst old (Some h) new = old ≡ h ∷ new
