-- Peers in the order of their numbers.
use Rattle.std.specs.Prelude.{ℕ, ◌<◌, ◌≡◌, Bool, false, not, cond, nat_eq, nat_lt, List, [], ◌∷◌, map, Option, Some, None, option_to_list, AllPairs}
use Rattle.std.specs.List.{filter, list_any}
use Rattle.std.specs.Cmp.Lexicographic.{pointwise}
use Rattle.wgr_text.specs.declared.key.Key.{Key}
use Rattle.wgr_text.specs.Prefix.{AddrValue}
use Rattle.wgr_peers.specs.declared.peer.Peer.{Peer}
use Rattle.wgr_pool.specs.PrefixTests.{same_address}
use Rattle.wgr_peers.specs.Ordered.{put_in_order}
use Rattle.wgr_peers.specs.Limits.{is_expired}

-- the address in the first pool, and the one in the second, if there is one
abbrev pub addresses : Peer → List AddrValue
addresses p = p.address ∷ option_to_list p.second

-- whether the address is one of the peer's own
abbrev pub is_at : Peer → AddrValue → Bool
is_at p a = list_any (λ b. same_address b a) (addresses p)

-- whether it is the first of them
abbrev pub is_first : Peer → AddrValue → Bool
is_first p a = same_address p.address a

-- whether there is an address, and it is this one
abbrev pub is_there : Option AddrValue → AddrValue → Bool
is_there there a = list_any (λ b. same_address b a) (option_to_list there)

-- whether it is the second
abbrev pub is_second : Peer → AddrValue → Bool
is_second p = is_there p.second

abbrev pub is_live : ℕ → Peer → Bool
is_live now p = not (is_expired now p.until)

-- the numbers of the expired peers
abbrev pub expired : ℕ → List Peer → List ℕ
expired now peers = map (λ p. p.number) (filter (λ p. not (is_live now p)) peers)

-- their first addresses
abbrev pub expired_addresses : ℕ → List Peer → List AddrValue
expired_addresses now peers = map (λ p. p.address) (filter (λ p. not (is_live now p)) peers)

abbrev pub same_key : Key → Key → Bool
same_key a b = pointwise nat_eq a.0 b.0

-- the number of the peer that has the key
abbrev pub key_holder : List Peer → Key → Option ℕ
key_holder [] key = None
key_holder (p ∷ peers) key = cond (same_key p.key key) (Some p.number) (key_holder peers key)

-- the peer with the number
abbrev pub peer_of : List Peer → ℕ → Option Peer
peer_of [] number = None
peer_of (p ∷ peers) number = cond (nat_eq p.number number) (Some p) (peer_of peers number)

-- the peers without the one with the number
abbrev pub without_peer : List Peer → ℕ → List Peer
without_peer peers number = filter (λ p. not (nat_eq p.number number)) peers

-- whether a peer has the address as its own
abbrev pub is_own : List Peer → AddrValue → Bool
is_own peers a = list_any (λ p. is_at p a) peers

-- the peers with `p` at its number, in the order of numbers
abbrev pub put_peer : List Peer → Peer → List Peer
put_peer peers p = put_in_order (λ q. nat_lt q.number p.number) (λ q. nat_eq q.number p.number) peers p

abbrev pub IsNumberedBelow : Peer → Peer → Type 0
IsNumberedBelow p q = p.number < q.number

-- each number is below the next one
abbrev pub AreNumbered : List Peer → Type 0
AreNumbered = AllPairs IsNumberedBelow

-- two peers have neither the key nor an address in common
abbrev pub IsApart : Peer → Peer → Type 0
IsApart p q = (same_key p.key q.key ≡ false) × (list_any (is_at q) (addresses p) ≡ false)

-- no key and no address occurs twice
abbrev pub AreApart : List Peer → Type 0
AreApart = AllPairs IsApart
