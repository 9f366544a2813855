-- Adoption: a network takes over the peers that a running interface shows (wg(8), `show dump`).
use Rattle.std.specs.Prelude.{ℕ, ◌+◌, Bool, not, ◌&&◌, cond, nat_eq, List, [], ◌∷◌, ◌++◌, Option, Some, None, Result, Ok, Err, is_some}
use Rattle.std.specs.List.{filter}
use Rattle.wgr_text.specs.declared.key.Key.{Key}
use Rattle.wgr_text.specs.Prefix.{AddrValue, PrefixValue, width}
use Rattle.wgr_pool.specs.PrefixTests.{full, same_prefix}
use Rattle.wgr_pool.specs.Allot.{is_assignable}
use Rattle.wgr_peers.specs.declared.peer.Peer.{Peer}
use Rattle.wgr_peers.specs.Peers.{put_peer, same_key}
use Rattle.wgr_peers.specs.Routes.{assign_route}
use Rattle.wgr_core.specs.declared.refusal.Refusal.{Refusal}
use Rattle.wgr_core.specs.declared.seen_peer.SeenPeer.{SeenPeer}
use Rattle.wgr_core.specs.Network.{NetworkValue}
use Rattle.wgr_core.specs.Refusals.{join_refusal, place, route_refusal, unless_refused}

-- what follows from a value, if there is one
abbrev pub and_then : {T U E : Type 0} → Result T E → (T → Result U E) → Result U E
and_then (Err e) next = Err e
and_then (Ok x) next = next x

-- ---- the address that a line names

abbrev pub is_one_address : PrefixValue → Bool
is_one_address p = nat_eq p.length (width p.address.family)

-- the first of the prefixes that is one address which the pool may give
abbrev pub named_address : PrefixValue → List PrefixValue → Option AddrValue
named_address pool [] = None
named_address pool (p ∷ more) = cond (is_one_address p && is_assignable pool p.address) (Some p.address) (named_address pool more)

abbrev pub names_address : PrefixValue → SeenPeer → Bool
names_address pool line = is_some (named_address pool line.allowed)

-- ---- a line whose key nobody has

-- the peer of a line, and the network with it
abbrev pub peer_of_line : NetworkValue → SeenPeer → AddrValue → Peer
peer_of_line n line a = record { number = n.next; key = line.key; label = []; address = a; second = None; until = 0; keepalive = line.keepalive; status = Some line.status }

abbrev pub with_line : NetworkValue → SeenPeer → AddrValue → NetworkValue
with_line n line a = record n { next = n.next + 1; peers = n.peers ++ peer_of_line n line a ∷ [] }

-- the prefixes lead to the peer with the number, one after the other
abbrev pub give_all : NetworkValue → ℕ → List PrefixValue → Result NetworkValue Refusal
give_all n number [] = Ok n
give_all n number (p ∷ more) = and_then (unless_refused (route_refusal n p) (record n { routes = assign_route n.routes p number })) (λ next. give_all next number more)

-- the prefixes except the peer's own address
abbrev pub other_prefixes : AddrValue → List PrefixValue → List PrefixValue
other_prefixes a prefixes = filter (λ p. not (same_prefix p (full a))) prefixes

-- ---- the lines, one after the other

-- the network so far, the numbers of its new peers, and how many lines had a key that was already held
pub record Adoption : Type 0 where
  pub network : NetworkValue
  pub added : List ℕ
  pub known : ℕ

-- the peer that has the key
abbrev pub keyed_peer : List Peer → Key → Option Peer
keyed_peer [] key = None
keyed_peer (p ∷ peers) key = cond (same_key p.key key) (Some p) (keyed_peer peers key)

-- the peer joins with its prefixes
abbrev pub add_line : Adoption → SeenPeer → Result Adoption Refusal
add_line s line =
    and_then (unless_refused (join_refusal s.network 0 line.key 0) s.network) (λ n.
    and_then (place n n.pool (named_address n.pool line.allowed)) (λ a.
    and_then (give_all (with_line n line a) n.next (other_prefixes a line.allowed)) (λ after.
    Ok (record { network = after; added = s.added ++ n.next ∷ []; known = s.known }))))

-- the peer that has the key gets the line's status, and nothing else
abbrev pub note_status : Adoption → SeenPeer → Peer → Adoption
note_status s line p = record s { network = record s.network { peers = put_peer s.network.peers (record p { status = Some line.status }) }; known = s.known + 1 }

abbrev pub adopt_line_of : Adoption → SeenPeer → Option Peer → Result Adoption Refusal
adopt_line_of s line (Some p) = Ok (note_status s line p)
adopt_line_of s line None = add_line s line

abbrev pub adopt_line : Adoption → SeenPeer → Result Adoption Refusal
adopt_line s line = adopt_line_of s line (keyed_peer s.network.peers line.key)

-- a refusal reports the line's number
abbrev pub in_line : ℕ → Result Adoption Refusal → Result Adoption (ℕ × Refusal)
in_line number (Ok s) = Ok s
in_line number (Err e) = Err (number, e)

abbrev pub adopt_lines : Adoption → List (ℕ × SeenPeer) → Result Adoption (ℕ × Refusal)
adopt_lines s [] = Ok s
adopt_lines s (l ∷ more) = and_then (in_line l.0 (adopt_line s l.1)) (λ next. adopt_lines next more)

-- ---- a whole dump

-- the peer lines with their numbers in the text, whose first line is the interface's
abbrev pub numbered_from : ℕ → List SeenPeer → List (ℕ × SeenPeer)
numbered_from number [] = []
numbered_from number (line ∷ more) = (number, line) ∷ numbered_from (number + 1) more

-- first the lines that name an address, so that none of these addresses is given to another line; then the others
abbrev pub adoption_order : PrefixValue → List SeenPeer → List (ℕ × SeenPeer)
adoption_order pool lines = filter (λ l. names_address pool l.1) (numbered_from 2 lines) ++ filter (λ l. not (names_address pool l.1)) (numbered_from 2 lines)

abbrev pub adoption_of : NetworkValue → List SeenPeer → Result Adoption (ℕ × Refusal)
adoption_of n lines = adopt_lines (record { network = n; added = []; known = 0 }) (adoption_order n.pool lines)
