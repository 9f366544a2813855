-- Who owns an address: longest-prefix match over the allowed IPs of wg(8).
use Rattle.std.specs.Prelude.{ℕ, cond, nat_lt, List, [], ◌∷◌, ◌++◌, map, Option, Some, None, option_map}
use Rattle.wgr_text.specs.Prefix.{AddrValue, PrefixValue}
use Rattle.wgr_peers.specs.declared.peer.Peer.{Peer}
use Rattle.wgr_pool.specs.PrefixTests.{has, full}
use Rattle.wgr_peers.specs.Routes.{Routes}
use Rattle.wgr_core.specs.Network.{NetworkValue}

-- each peer's address at full length
abbrev pub own_prefixes : List Peer → Routes
own_prefixes peers = map (λ p. (full p.address, p.number)) peers

-- the allowed prefixes of a network: its peers' addresses and its routes
abbrev pub allowed : NetworkValue → Routes
allowed n = own_prefixes n.peers ++ n.routes

-- the longer of two prefixes; of two with equal length the first
abbrev pub longer : Option (PrefixValue × ℕ) → Option (PrefixValue × ℕ) → Option (PrefixValue × ℕ)
longer None b = b
longer (Some a) None = Some a
longer (Some a) (Some b) = cond (nat_lt a.0.length b.0.length) (Some b) (Some a)

-- the longest of the prefixes that has the address
abbrev pub longest_match : Routes → AddrValue → Option (PrefixValue × ℕ)
longest_match [] a = None
longest_match (r ∷ routes) a = longer (cond (has r.0 a) (Some r) None) (longest_match routes a)

-- the number to which the longest allowed prefix that has the address leads
abbrev pub owner_of : NetworkValue → AddrValue → Option ℕ
owner_of n a = option_map (λ r. r.1) (longest_match (allowed n) a)
