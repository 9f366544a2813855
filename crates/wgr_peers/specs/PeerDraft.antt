-- The indexes of peers that grow in number.
use Rattle.std.specs.Prelude.{ℕ, ◌≡◌, ◌↔◌, ◌⊎◌, Bool, true, ◌&&◌, ◌||◌, nat_eq, List, Option, Some, None, IfSome}
use Rattle.std.specs.List.{list_any}
use Rattle.std.specs.HashMap.{HashMap, get}
use Rattle.std.specs.HashSet.{HashSet, contains}
use Rattle.std.specs.declared.hash.FoldHasher.{FoldHasher}
use Rattle.std.specs.declared.hash.BuildHasherDefault.{BuildHasherDefault}
use Rattle.wgr_text.specs.declared.key.Key.{Key}
use Rattle.wgr_text.specs.declared.prefix.Span.{Span}
use Rattle.wgr_text.specs.Prefix.{AddrValue, IsAddr, width}
use Rattle.wgr_peers.specs.declared.peer.Peer.{Peer}
use Rattle.wgr_pool.specs.PrefixTests.{same_address}
use Rattle.wgr_pool.specs.Spans.{IsHeld}
use Rattle.wgr_peers.specs.Peers.{is_first, is_own, key_holder, same_key, AreNumbered}
use Rattle.wgr_peers.specs.PeerIndex.{HasThose}

-- the widths and the numbers of addresses, which distinguish them
abbrev pub Owned : Type 0
Owned = HashSet (ℕ × ℕ) (BuildHasherDefault FoldHasher)

abbrev pub same_spot : ℕ × ℕ → ℕ × ℕ → Bool
same_spot a b = nat_eq a.0 b.0 && nat_eq a.1 b.1

-- where there are runs, they have the first addresses of the peers
abbrev pub HasRuns : List Peer → Option (List Span) → Type 0
HasRuns peers runs = IfSome runs (HasThose is_first peers)

-- the numbers rise, the map has each key's, the set has the addresses, and so have the runs where there are any
pub record IsDrafted (peers : List Peer) (numbers : HashMap Key ℕ (BuildHasherDefault FoldHasher)) (owned : Owned) (runs : Option (List Span)) : Type 0 where
  pub in_order : AreNumbered peers
  pub by_key : (key : Key) → get same_key numbers key ≡ key_holder peers key
  pub by_address : (b : AddrValue) → contains same_spot owned (width b.family, b.number) ≡ is_own peers b
  pub by_runs : HasRuns peers runs

-- there are runs where there were, and they have one more address
abbrev pub HasOneMore : AddrValue → Option (List Span) → Option (List Span) → Type 0
HasOneMore a None None = Unit {0}
HasOneMore a None (Some runs) = ⊥
HasOneMore a (Some runs) None = ⊥
HasOneMore a (Some old) (Some new) = (b : AddrValue) → IsAddr b → IsHeld new b ↔ ((same_address a b ≡ true) ⊎ IsHeld old b)

-- the set has also the spots of these addresses
abbrev pub HasSpots : List AddrValue → Owned → Owned → Type 0
HasSpots them old new = (b : AddrValue) → contains same_spot new (width b.family, b.number) ≡ (list_any (λ a. same_address a b) them || contains same_spot old (width b.family, b.number))
