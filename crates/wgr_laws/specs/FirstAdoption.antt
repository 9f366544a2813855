-- A network without live peers that adopts the lines of an interface.
use Rattle.std.specs.Prelude.{ℕ, ◌≡◌, ◌≤◌, ◌⊎◌, ◌↔◌, true, false, List, [], Option, Some, None, is_some, IfOk, All, AllPairs}
use Rattle.std.specs.List.{Contains}
use Rattle.wgr_text.specs.declared.key.Key.{Key}
use Rattle.wgr_text.specs.Prefix.{AddrValue, PrefixValue}
use Rattle.wgr_pool.specs.PrefixTests.{full, has}
use Rattle.wgr_peers.specs.declared.peer.Peer.{Peer}
use Rattle.wgr_peers.specs.Peers.{peer_of, same_key}
use Rattle.wgr_core.specs.declared.seen_peer.SeenPeer.{SeenPeer}
use Rattle.wgr_core.specs.Network.{NetworkValue, IsNetwork, live_at}
use Rattle.wgr_core.specs.Owner.{allowed, owner_of}
use Rattle.wgr_core.specs.Adoption.{named_address}
use Rattle.wgr_core.specs.Outcome.{AreLinesAsked}
use Rattle.wgr_laws.specs.AdoptionLaws.{adopt_at}

-- two lines have neither the key nor an allowed prefix in common, as those of one interface
pub record AreLinesApart (k l : SeenPeer) : Type 0 where
  pub keys : same_key k.key l.key ≡ false
  pub prefixes : (p : PrefixValue) → Contains k.allowed p → Contains l.allowed p → ⊥

-- The peer is what the line shows: it has the line's key, keepalive and status, and no end. Its
-- address is the one that the line names, if it names one. The prefixes that lead to it are those of
-- the line, and the address that it was given where the line names none.
pub record IsShown (m : NetworkValue) (line : SeenPeer) (q : Peer) : Type 0 where
  pub stands : Contains m.peers q
  pub key : q.key ≡ line.key
  pub keepalive : q.keepalive ≡ line.keepalive
  pub status : q.status ≡ Some line.status
  pub endless : q.until ≡ 0
  pub address : (a : AddrValue) → named_address m.pool line.allowed ≡ Some a → q.address ≡ a
  pub leads : (p : PrefixValue) → Contains (allowed m) (p, q.number) ↔ (Contains line.allowed p ⊎ ((named_address m.pool line.allowed ≡ None) × (p ≡ full q.address)))

-- each line has its peer, and each peer its line; and each allowed prefix leads to a peer, and to only one
pub record AreShown (m : NetworkValue) (lines : List SeenPeer) : Type 0 where
  pub peers : All (λ line. (q : Peer) × IsShown m line q) lines
  pub lines_of : All (λ q. (line : SeenPeer) × Contains lines line × IsShown m line q) m.peers
  pub to_peers : All (λ r. is_some (peer_of m.peers r.1) ≡ true) (allowed m)
  pub to_one : (p : PrefixValue) (i j : ℕ) → Contains (allowed m) (p, i) → Contains (allowed m) (p, j) → i ≡ j

-- what every such adoption leaves
abbrev pub FirstLeaves : (NetworkValue → List SeenPeer → Type 0) → Type 0
FirstLeaves P = (n : NetworkValue) (now : ℕ) (server : Option Key) (lines : List SeenPeer) → IsNetwork n → (live_at n now).peers ≡ [] → AreLinesAsked lines → AllPairs AreLinesApart lines
    → IfOk (adopt_at n now server lines) (λ done. P done.1 lines)

-- its peers are those of the lines
abbrev pub AdoptionIsFaithful : Type 0
AdoptionIsFaithful = FirstLeaves AreShown

-- ---- owners

-- the address was given to a peer, since its line names none
pub record IsGiven (m : NetworkValue) (lines : List SeenPeer) (a : AddrValue) : Type 0 where
  pub to : Peer
  pub line : SeenPeer
  pub listed : Contains lines line
  pub shown : IsShown m line to
  pub unnamed : named_address m.pool line.allowed ≡ None
  pub address : to.address ≡ a

-- the line has the prefix and the prefix the address, and no line has a longer one that has it: so
-- the interface sends the address to the peer of the line
pub record IsSentBy (lines : List SeenPeer) (a : AddrValue) (line : SeenPeer) (p : PrefixValue) : Type 0 where
  pub listed : Contains lines line
  pub in_line : Contains line.allowed p
  pub has_it : has p a ≡ true
  pub longest : All (λ l. All (λ r. has r a ≡ true → r.length ≤ p.length) l.allowed) lines

-- an address that was given to nobody is the peer's to which the interface sends it
abbrev pub OwnersAreKept : NetworkValue → List SeenPeer → Type 0
OwnersAreKept m lines = (a : AddrValue) (line : SeenPeer) (p : PrefixValue) → (IsGiven m lines a → ⊥) → IsSentBy lines a line p → (q : Peer) × IsShown m line q × (owner_of m a ≡ Some q.number)

abbrev pub AdoptionKeepsOwners : Type 0
AdoptionKeepsOwners = FirstLeaves OwnersAreKept

-- and nobody's where no line has it
abbrev pub UnownedAreKept : NetworkValue → List SeenPeer → Type 0
UnownedAreKept m lines = (a : AddrValue) → (IsGiven m lines a → ⊥) → All (λ line. All (λ p. has p a ≡ false) line.allowed) lines → owner_of m a ≡ None

abbrev pub AdoptionKeepsUnowned : Type 0
AdoptionKeepsUnowned = FirstLeaves UnownedAreKept
