-- What a change does to a network, and when an answer is that of the definition.
use Rattle.std.specs.Prelude.{ℕ, ◌≡◌, Bool, true, false, List, [], ◌∷◌, ◌++◌, length, Option, Some, None, Result, Ok, Err}
use Rattle.wgr_text.specs.Prefix.{PrefixValue}
use Rattle.wgr_peers.specs.declared.peer.Peer.{Peer}
use Rattle.wgr_core.specs.declared.change.Change.{Change}
use Rattle.wgr_core.specs.declared.reply.Reply.{Reply}
use Rattle.wgr_core.specs.declared.fault.ActFault.{ActFault}
use Rattle.wgr_core.specs.declared.fault.ActFault.TheVariants.{Refused, NoMemory}
use Rattle.wgr_peers.specs.Peers.{key_holder, put_peer}
use Rattle.wgr_peers.specs.PeersLeft.{HasItsPlaces}
use Rattle.wgr_peers.specs.Routes.{Routes, assign_route, without_route}
use Rattle.wgr_core.specs.Network.{NetworkValue, IsNetwork, is_among, without_peers}
use Rattle.wgr_core.specs.Outcome.{Outcome}

abbrev pub put_peers : List Peer → List Peer → List Peer
put_peers peers [] = peers
put_peers peers (p ∷ more) = put_peers (put_peer peers p) more

abbrev pub assign_routes : Routes → Routes → Routes
assign_routes routes [] = routes
assign_routes routes (r ∷ more) = assign_routes (assign_route routes r.0 r.1) more

abbrev pub without_routes : Routes → List PrefixValue → Routes
without_routes routes [] = routes
without_routes routes (p ∷ more) = without_routes (without_route routes p) more

-- what a change does once its peers are removed
abbrev pub changed : Change → NetworkValue → NetworkValue
changed c n = record n {
  peers = put_peers n.peers c.peers;
  routes = assign_routes (without_routes n.routes c.routes_gone) c.routes_put;
  next = c.next;
}

-- the network with the change
abbrev pub applied : Change → NetworkValue → NetworkValue
applied c n = changed c (without_peers n c.removed)

-- the change leaves a network that keeps the rules
abbrev pub Fits : Change → NetworkValue → Type 0
Fits c n = IsNetwork (applied c n)

-- the change only puts one peer
pub record OnlyPuts (c : Change) : Type 0 where
  pub removed : c.removed ≡ []
  pub one : length c.peers ≡ 1
  pub routes_put : c.routes_put ≡ []
  pub routes_gone : c.routes_gone ≡ []

-- none is put, or one that has the number and the key of a peer that stays, and no more addresses
abbrev pub NoneIsNew : NetworkValue → List ℕ → List Peer → Type 0
NoneIsNew n removed [] = Unit {0}
NoneIsNew n removed (p ∷ []) = (key_holder n.peers p.key ≡ Some p.number) × (is_among removed p.number ≡ false) × HasItsPlaces n.peers p
NoneIsNew n removed (p ∷ q ∷ more) = ⊥

-- the change only removes, moves and renews: no peer is new, and no route is put
pub record NothingGrows (c : Change) (n : NetworkValue) : Type 0 where
  pub peers : NoneIsNew n c.removed c.peers
  pub routes : c.routes_put ≡ []

-- what a given change does, or nothing where none is given
abbrev pub applied_if : Option Change → NetworkValue → NetworkValue
applied_if None n = n
applied_if (Some c) n = applied c n

-- the answer of a call on `n` is the definition's outcome, or memory ran out
abbrev pub Meets : NetworkValue → Result (Reply × Option Change) ActFault → Outcome → Type 0
Meets n (Err NoMemory) outcome = Unit {0}
Meets n (Err (Refused why)) (Err is) = why ≡ is
Meets n (Err (Refused why)) (Ok done) = ⊥
Meets n (Ok given) (Err is) = ⊥
Meets n (Ok given) (Ok done) = (given.0 ≡ done.0) × (applied_if given.1 n ≡ done.1)

-- the numbers with that of one more peer that is removed, if one is
abbrev pub with_leaving : List ℕ → Option ℕ → List ℕ
with_leaving removed None = removed
with_leaving removed (Some number) = removed ++ number ∷ []

abbrev pub without_leaving : NetworkValue → Option ℕ → NetworkValue
without_leaving n None = n
without_leaving n (Some number) = without_peers n (number ∷ [])

-- a reading gives no change; a change removes these peers and the one that the command removes, and
-- then does the rest
abbrev pub GivesChange : Bool → Option ℕ → NetworkValue → List ℕ → Option Change → NetworkValue → Type 0
GivesChange true leaves n removed None after = Unit {0}
GivesChange true leaves n removed (Some c) after = ⊥
GivesChange false leaves n removed None after = ⊥
GivesChange false leaves n removed (Some c) after = (c.removed ≡ with_leaving removed leaves) × (changed c (without_leaving n leaves) ≡ after)

-- the same for a call on a network whose peers are all live, from which `removed` were removed
abbrev pub MeetsLive : Bool → Option ℕ → NetworkValue → List ℕ → Result (Reply × Option Change) ActFault → Outcome → Type 0
MeetsLive reading leaves n removed (Err NoMemory) outcome = Unit {0}
MeetsLive reading leaves n removed (Err (Refused why)) (Err is) = why ≡ is
MeetsLive reading leaves n removed (Err (Refused why)) (Ok done) = ⊥
MeetsLive reading leaves n removed (Ok given) (Err is) = ⊥
MeetsLive reading leaves n removed (Ok given) (Ok done) = (given.0 ≡ done.0) × GivesChange reading leaves n removed given.1 done.1
