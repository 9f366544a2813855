-- What the statements of a commit do to the rows.
use Rattle.std.specs.Prelude.{◌≡◌, ℕ, suc, Bool, false, not, ◌&&◌, nat_eq, nat_le, List, [], ◌∷◌, map, ⊤}
use Rattle.std.specs.List.{filter}
use Rattle.std.specs.List.Sorted.{IsPermutation}
use Rattle.wgr_text.specs.Prefix.{PrefixValue}
use Rattle.wgr_peers.specs.declared.peer.Peer.{Peer}
use Rattle.wgr_peers.specs.Routes.{HasAddr}
use Rattle.wgr_core.specs.declared.change.Change.{Change}
use Rattle.wgr_model.specs.Laws.{Has}
use Rattle.wgr_model.specs.Rows.{NetworkRow, PeerRow, AllowedRow, Tables, peer_id, peer_row, address_row, route_row, family_number, allowed_key, same_allowed, with_next}
use Rattle.wgr_sql.specs.Steps.{Then, Each}

-- ---- peers that are removed

abbrev pub is_peer : ℕ → ℕ → PeerRow → Bool
is_peer network id p = nat_eq p.network network && nat_eq p.id id

abbrev pub is_of_peer : ℕ → ℕ → AllowedRow → Bool
is_of_peer network id a = nat_eq a.network network && nat_eq a.peer id

abbrev pub PeerGoes : ℕ → ℕ → Tables → Tables → Type 0
PeerGoes network id t u = u ≡ record t { peers = filter (λ p. not (is_peer network id p)) t.peers }

abbrev pub AllowedGoes : (AllowedRow → Bool) → Tables → Tables → Type 0
AllowedGoes q t u = u ≡ record t { allowed = filter (λ a. not (q a)) t.allowed }

-- a peer is removed with all prefixes that lead to it
abbrev pub PeerLeaves : ℕ → ℕ → Tables → Tables → Type 0
PeerLeaves network number = Then (PeerGoes network (peer_id network number)) (AllowedGoes (is_of_peer network (peer_id network number)))

-- ---- routes that are added or deleted

-- a row is added, whose key no other has
abbrev pub AllowedComes : AllowedRow → Tables → Tables → Type 0
AllowedComes row t u = (rows : List AllowedRow) × IsPermutation (row ∷ t.allowed) rows × (u ≡ record t { allowed = rows }) × ((a : AllowedRow) → Has t.allowed a → same_allowed (allowed_key a) (allowed_key row) ≡ false)

-- the route for this prefix of the network
abbrev pub is_route_at : ℕ → PrefixValue → AllowedRow → Bool
is_route_at network p a = nat_eq a.network network && (nat_eq (family_number a.prefix.address.family) (family_number p.address.family) && (nat_eq a.prefix.address.number p.address.number && (nat_eq a.prefix.length p.length && a.is_route)))

abbrev pub RouteGoes : ℕ → PrefixValue → Tables → Tables → Type 0
RouteGoes network p = AllowedGoes (is_route_at network p)

abbrev pub RouteComes : ℕ → PrefixValue × ℕ → Tables → Tables → Type 0
RouteComes network r t u = HasAddr r × AllowedComes (route_row network r) t u

-- from now on the prefix is routed to the peer with the number
abbrev pub RoutePuts : ℕ → PrefixValue × ℕ → Tables → Tables → Type 0
RoutePuts network r = Then (RouteGoes network r.0) (RouteComes network r)

-- no row is a route of the network
abbrev pub HasNoRoute : ℕ → Tables → Type 0
HasNoRoute network t = filter (λ a. a.is_route && nat_eq a.network network) t.allowed ≡ []

-- ---- peers that are added, or replace the one with their number

abbrev pub is_address_of : ℕ → ℕ → AllowedRow → Bool
is_address_of network id a = nat_eq a.network network && (nat_eq a.peer id && not a.is_route)

-- the row of the peer with the number is deleted, and that of its address; routes to it stay
abbrev pub PeerRowsGo : ℕ → ℕ → Tables → Tables → Type 0
PeerRowsGo network number = Then (PeerGoes network (peer_id network number)) (AllowedGoes (is_address_of network (peer_id network number)))

-- the numbers are consecutive, and the first is this one
abbrev pub AreFrom : ℕ → List Peer → Type 0
AreFrom first [] = ⊤
AreFrom first (p ∷ ps) = (p.number ≡ first) × AreFrom (suc first) ps

abbrev pub is_peer_within : ℕ → ℕ → ℕ → PeerRow → Bool
is_peer_within network first last p = nat_eq p.network network && (nat_le first p.id && nat_le p.id last)

abbrev pub is_address_within : ℕ → ℕ → ℕ → AllowedRow → Bool
is_address_within network first last a = nat_eq a.network network && (nat_le first a.peer && (nat_le a.peer last && not a.is_route))

-- the rows of the peers with ids from the first to the last are deleted
abbrev pub PeersGo : ℕ → ℕ → ℕ → Tables → Tables → Type 0
PeersGo network first last t u = u ≡ record t { peers = filter (λ p. not (is_peer_within network first last p)) t.peers }

-- the same for the peers with numbers from the first to the last, and for the rows of their addresses
abbrev pub RangeGoes : ℕ → ℕ → ℕ → Tables → Tables → Type 0
RangeGoes network first last = Then (PeersGo network (peer_id network first) (peer_id network last)) (AllowedGoes (is_address_within network (peer_id network first) (peer_id network last)))

-- a row is added, whose id no other has
abbrev pub PeerRowComes : PeerRow → Tables → Tables → Type 0
PeerRowComes row t u = (rows : List PeerRow) × IsPermutation (row ∷ t.peers) rows × (u ≡ record t { peers = rows }) × ((a : PeerRow) → Has t.peers a → nat_eq a.id row.id ≡ false)

abbrev pub PeerComes : ℕ → Peer → Tables → Tables → Type 0
PeerComes network p = Then (PeerRowComes (peer_row network p)) (AllowedComes (address_row network p))

-- all old rows are deleted before the first is added, since two peers may exchange their addresses
abbrev pub PeersPut : ℕ → List Peer → Tables → Tables → Type 0
PeersPut network ps = Then (Each (λ p. PeerRowsGo network p.number) ps) (Each (PeerComes network) ps)

-- ---- the whole change

-- the network of this id gets another next number
abbrev pub NextSets : ℕ → ℕ → Tables → Tables → Type 0
NextSets id next t u = (rows : List NetworkRow) × IsPermutation (map (with_next id next) t.networks) rows × (u ≡ record t { networks = rows })

-- what the statements of a change do
abbrev pub ChangeMakes : ℕ → Change → Tables → Tables → Type 0
ChangeMakes id c = Then (Each (PeerLeaves id) c.removed) (Then (Each (RouteGoes id) c.routes_gone) (Then (PeersPut id c.peers) (Then (Each (RoutePuts id) c.routes_put) (NextSets id c.next))))
