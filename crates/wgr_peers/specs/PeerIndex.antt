-- The indexes of a table of peers.
use Rattle.std.specs.Prelude.{ℕ, ◌≡◌, ◌<◌, ◌≤◌, ◌⊎◌, ◌↔◌, Bool, true, false, List, length, slice_index_or, All, is_some}
use Rattle.std.specs.HashMap.{HashMap, get}
use Rattle.std.specs.declared.hash.FoldHasher.{FoldHasher}
use Rattle.std.specs.declared.hash.BuildHasherDefault.{BuildHasherDefault}
use Rattle.wgr_text.specs.declared.key.Key.{Key}
use Rattle.wgr_text.specs.declared.prefix.Span.{Span}
use Rattle.wgr_text.specs.Prefix.{AddrValue, IsAddr}
use Rattle.wgr_peers.specs.declared.peer.Peer.{Peer}
use Rattle.wgr_pool.specs.Spans.{IsHeld}
use Rattle.std.specs.List.{list_any}
use Rattle.wgr_peers.specs.Peers.{is_first, is_second, key_holder, same_key, AreNumbered}

-- the lease never ends, or not before this moment
abbrev pub EndsFrom : ℕ → Peer → Type 0
EndsFrom soonest p = (p.until ≡ 0) ⊎ (soonest ≤ p.until)

-- the runs have the addresses of the peers for which the test holds
abbrev pub HasThose : (Peer → AddrValue → Bool) → List Peer → List Span → Type 0
HasThose test peers runs = (b : AddrValue) → IsAddr b → IsHeld runs b ↔ (list_any (λ p. test p b) peers ≡ true)

-- the runs have also the addresses for which the test holds
abbrev pub HasAlso : (AddrValue → Bool) → List Span → List Span → Type 0
HasAlso test old new = (b : AddrValue) → IsAddr b → IsHeld new b ↔ ((test b ≡ true) ⊎ IsHeld old b)

-- they have the addresses but those for which the test holds
abbrev pub HasAllBut : (AddrValue → Bool) → List Span → List Span → Type 0
HasAllBut test old new = (b : AddrValue) → IsAddr b → IsHeld new b ↔ ((test b ≡ false) × IsHeld old b)

-- they have the addresses for which the second test holds in place of those for which the first does
abbrev pub HasMoved : (AddrValue → Bool) → (AddrValue → Bool) → List Span → List Span → Type 0
HasMoved from to old new = (b : AddrValue) → IsAddr b → IsHeld new b ↔ ((to b ≡ true) ⊎ ((from b ≡ false) × IsHeld old b))

-- they have the same addresses
abbrev pub HasSame : List Span → List Span → Type 0
HasSame old new = (b : AddrValue) → IsAddr b → IsHeld new b ↔ IsHeld old b

-- the numbers rise, the map has each key's, the runs have the first addresses, `seconds` the second ones, and no
-- lease ends before `soonest`
pub record IsIndexed (peers : List Peer) (numbers : HashMap Key ℕ (BuildHasherDefault FoldHasher)) (runs seconds : List Span) (soonest : ℕ) : Type 0 where
  pub in_order : AreNumbered peers
  pub by_key : (key : Key) → get same_key numbers key ≡ key_holder peers key
  pub by_address : HasThose is_first peers runs
  pub by_second : HasThose is_second peers seconds
  pub ends : All (EndsFrom soonest) peers

-- the peer at the place has the number, the key and the addresses of `p`
pub record IsAlikeAt (peers : List Peer) (p : Peer) (at : ℕ) : Type 0 where
  pub within : at < length peers
  pub number : (d : Peer) → (slice_index_or peers at d).number ≡ p.number
  pub key : (d : Peer) → (slice_index_or peers at d).key ≡ p.key
  pub address : (d : Peer) → (slice_index_or peers at d).address ≡ p.address
  pub second : (d : Peer) → (slice_index_or peers at d).second ≡ p.second

-- the peer at the place has the number and the key of `p`, and as many addresses
pub record IsKeyedAt (peers : List Peer) (p : Peer) (at : ℕ) : Type 0 where
  pub within : at < length peers
  pub number : (d : Peer) → (slice_index_or peers at d).number ≡ p.number
  pub key : (d : Peer) → (slice_index_or peers at d).key ≡ p.key
  pub places : is_some p.second ≡ true → (d : Peer) → is_some (slice_index_or peers at d).second ≡ true
