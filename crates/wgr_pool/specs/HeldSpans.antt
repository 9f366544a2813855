-- The spans of a network's held addresses: its peers' runs and the routes in its pool.
use Rattle.std.specs.Prelude.{ℕ, ◌+◌, ◌-◌, Bool, not, ◌&&◌, nat_lt, nat_le, if◌then◌else◌, List, [], ◌∷◌, Option, Some, None}
use Rattle.std.specs.List.{filter, list_any}
use Rattle.wgr_text.specs.declared.prefix.Span.{Span}
use Rattle.wgr_text.specs.Prefix.{AddrValue, PrefixValue, block, rank}
use Rattle.wgr_pool.specs.PrefixTests.{has, covers}

-- from the prefix's first address to its last
abbrev pub span_of : PrefixValue → Span
span_of p = record { lo = p.address; hi = record { family = p.address.family; number = p.address.number + block p.address.family p.length - 1 } }

-- whether a route that lies wholly in the pool has the address
abbrev pub is_routed : PrefixValue → List (PrefixValue × ℕ) → AddrValue → Bool
is_routed pool routes a = list_any (λ r. covers pool r.0 && has r.0 a) routes

-- the spans of the routes that lie wholly in the pool
abbrev pub route_spans : PrefixValue → List (PrefixValue × ℕ) → List Span
route_spans pool [] = []
route_spans pool (r ∷ routes) = if covers pool r.0 then span_of r.0 ∷ route_spans pool routes else route_spans pool routes

-- the routes that begin in the pool: no other lies wholly in it
abbrev pub routes_in : PrefixValue → List (PrefixValue × ℕ) → List (PrefixValue × ℕ)
routes_in pool routes = filter (λ r. nat_le (rank (span_of pool).lo) (rank r.0.address) && nat_le (rank r.0.address) (rank (span_of pool).hi)) routes

-- the routes to peers that aren't expired
abbrev pub standing : (ℕ → Bool) → List (PrefixValue × ℕ) → List (PrefixValue × ℕ)
standing expired routes = filter (λ r. not (expired r.1)) routes

-- the spans of those that lie wholly in the pool
abbrev pub standing_spans : PrefixValue → (ℕ → Bool) → List (PrefixValue × ℕ) → List Span
standing_spans pool expired routes = route_spans pool (standing expired routes)

-- a span before the first that begins no lower
abbrev pub put_span : Span → List Span → List Span
put_span s [] = s ∷ []
put_span s (t ∷ spans) = if nat_lt (rank t.lo) (rank s.lo) then t ∷ put_span s spans else s ∷ t ∷ spans

-- the spans of both, in the order in which they begin
abbrev pub merged : List Span → List Span → List Span
merged [] spans = spans
merged (s ∷ more) spans = put_span s (merged more spans)

-- the first span, if there is one, and those after it
abbrev pub from_first : Option Span → List Span → List Span
from_first None spans = []
from_first (Some s) spans = s ∷ spans
