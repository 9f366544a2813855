-- Routes in the order of their prefixes: each leads to the peer with a number.
use Rattle.std.specs.Prelude.{ℕ, ◌≡◌, true, not, cond, nat_eq, List, [], ◌∷◌, map, Option, Some, None, AllPairs}
use Rattle.std.specs.List.{filter}
use Rattle.wgr_text.specs.Prefix.{PrefixValue, IsAddr}
use Rattle.wgr_peers.specs.Ordered.{put_in_order}
use Rattle.wgr_pool.specs.PrefixTests.{same_prefix, is_before}

abbrev pub Routes : Type 0
Routes = List (PrefixValue × ℕ)

-- the number to which the prefix leads
abbrev pub route_of : Routes → PrefixValue → Option ℕ
route_of [] p = None
route_of (r ∷ routes) p = cond (same_prefix r.0 p) (Some r.1) (route_of routes p)

-- the prefixes that lead to the peer with the number
abbrev pub routes_to : Routes → ℕ → List PrefixValue
routes_to routes number = map (λ r. r.0) (filter (λ r. nat_eq r.1 number) routes)

-- the routes with `p` leading to the number, and otherwise unchanged
abbrev pub assign_route : Routes → PrefixValue → ℕ → Routes
assign_route routes p number = put_in_order (λ r. is_before r.0 p) (λ r. same_prefix r.0 p) routes (p, number)

-- the routes without `p`
abbrev pub without_route : Routes → PrefixValue → Routes
without_route routes p = filter (λ r. not (same_prefix r.0 p)) routes

-- the number of the prefix's address fits the family
abbrev pub HasAddr : PrefixValue × ℕ → Type 0
HasAddr r = IsAddr r.0.address

abbrev pub ComesBefore : PrefixValue × ℕ → PrefixValue × ℕ → Type 0
ComesBefore r s = is_before r.0 s.0 ≡ true

-- each prefix is before the next one
abbrev pub AreOrdered : Routes → Type 0
AreOrdered = AllPairs ComesBefore
