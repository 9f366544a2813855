-- What follows from the definitions of a network and of what a command does to it.
use Rattle.std.specs.Prelude.{ℕ, ◌≡◌, ◌≢◌, ◌<◌, ◌≤◌, ◌⊎◌, ◌↔◌, Bool, true, false, nat_eq, List, [], ◌∷◌, length, slice_index_or, Some, None, is_some, Ok, Err, IfOk, All}
use Rattle.std.specs.List.{Contains, list_any}
use Rattle.wgr_text.specs.Prefix.{AddrValue, PrefixValue}
use Rattle.wgr_peers.specs.declared.peer.Peer.{Peer}
use Rattle.wgr_core.specs.declared.command.Command.{Command}
use Rattle.wgr_core.specs.declared.command.Command.TheVariants as command
use Rattle.wgr_core.specs.declared.parts.Parts.{Parts}
use Rattle.wgr_core.specs.declared.reply.Reply.{Reply}
use Rattle.wgr_core.specs.declared.reply.Reply.TheVariants as reply
use Rattle.wgr_pool.specs.PrefixTests.{has, same_prefix}
use Rattle.wgr_pool.specs.Allot.{is_assignable}
use Rattle.wgr_peers.specs.Peers.{is_live, peer_of, put_peer, AreNumbered}
use Rattle.wgr_peers.specs.Routes.{Routes, route_of, assign_route, without_route, AreOrdered}
use Rattle.wgr_core.specs.Forms.{HasForms, IsFormedCommand}
use Rattle.wgr_core.specs.Network.{NetworkValue, IsNetwork, is_held, live_at, lowest_free}
use Rattle.wgr_core.specs.Parts.{IsNetworkOf}
use Rattle.wgr_core.specs.Owner.{allowed, longest_match, owner_of}
use Rattle.wgr_core.specs.Outcome.{Outcome, IsAsked, is_reading, outcome_of}

-- peers in the order of their numbers are a finite map: where all lookups agree, they are equal
abbrev pub PeersAreAMap : Type 0
PeersAreAMap = (xs ys : List Peer) → AreNumbered xs → AreNumbered ys → ((n : ℕ) → peer_of xs n ≡ peer_of ys n) → xs ≡ ys

-- and so are routes in the order of their prefixes
abbrev pub RoutesAreAMap : Type 0
RoutesAreAMap = (xs ys : Routes) → AreOrdered xs → AreOrdered ys → ((p : PrefixValue) → route_of xs p ≡ route_of ys p) → xs ≡ ys

-- parts make one network at most
abbrev pub PartsMakeOneNetwork : Type 0
PartsMakeOneNetwork = (parts : Parts) (n m : NetworkValue) → IsNetworkOf parts n → IsNetworkOf parts m → n ≡ m

-- whatever command is asked, the network after it keeps the rules; among them, that no two peers
-- have a key or an address in common
abbrev pub CommandsKeepTheRules : Type 0
CommandsKeepTheRules = (n : NetworkValue) (now : ℕ) (asked : Command) → IsNetwork n → IsAsked asked → IfOk (outcome_of n now asked) (λ done. IsNetwork done.1)

-- and so does the network without the expired peers
abbrev pub LivePeersKeepTheRules : Type 0
LivePeersKeepTheRules = (n : NetworkValue) (now : ℕ) → IsNetwork n → IsNetwork (live_at n now)

-- a command whose fields are of their forms leaves each field of the network so
abbrev pub CommandsKeepTheForms : Type 0
CommandsKeepTheForms = (n : NetworkValue) (now : ℕ) (asked : Command) → IsNetwork n → HasForms n → IsFormedCommand asked → IfOk (outcome_of n now asked) (λ done. HasForms done.1)

-- the lowest free address may be given and isn't held
abbrev pub LowestIsFree : Type 0
LowestIsFree = (n : NetworkValue) (a : AddrValue) → lowest_free n n.pool ≡ Some a → (is_assignable n.pool a ≡ true) × (is_held n n.pool a ≡ false)

-- no address of the pool below it is free
abbrev pub LowestIsLeast : Type 0
LowestIsLeast = (n : NetworkValue) (a : AddrValue) → lowest_free n n.pool ≡ Some a
    → (k : ℕ) → n.pool.address.number ≤ k → k < a.number → is_assignable n.pool (record n.pool.address { number = k }) ≡ true → is_held n n.pool (record n.pool.address { number = k }) ≡ true

-- where there is none, each address that the pool may give is held
abbrev pub NoneIsFull : Type 0
NoneIsFull = (n : NetworkValue) (a : AddrValue) → lowest_free n n.pool ≡ None → is_assignable n.pool a ≡ true → is_held n n.pool a ≡ true

-- ---- owner

-- the route is allowed and has the address, and no allowed one that has it is longer
pub record IsLongestMatch (n : NetworkValue) (a : AddrValue) (r : PrefixValue × ℕ) : Type 0 where
  pub is_allowed : Contains (allowed n) r
  pub has_it : has r.0 a ≡ true
  pub longest : All (λ s. has s.0 a ≡ true → s.0.length ≤ r.0.length) (allowed n)

-- the match that is found is the longest
abbrev pub MatchIsLongest : Type 0
MatchIsLongest = (n : NetworkValue) (a : AddrValue) (r : PrefixValue × ℕ) → longest_match (allowed n) a ≡ Some r → IsLongestMatch n a r

-- where none is found, no allowed prefix has the address
abbrev pub NoMatchIsNone : Type 0
NoMatchIsNone = (n : NetworkValue) (a : AddrValue) → longest_match (allowed n) a ≡ None → All (λ s. has s.0 a ≡ false) (allowed n)

-- the owner is the peer to which a longest match leads
abbrev pub OwnerHasLongest : Type 0
OwnerHasLongest = (n : NetworkValue) (a : AddrValue) (i : ℕ) → owner_of n a ≡ Some i → (r : PrefixValue × ℕ) × IsLongestMatch n a r × (r.1 ≡ i)

-- nobody owns an address only where no allowed prefix has it
abbrev pub NobodyOwns : Type 0
NobodyOwns = (n : NetworkValue) (a : AddrValue) → owner_of n a ≡ None → All (λ s. has s.0 a ≡ false) (allowed n)

-- an address has one longest match at most, and its peer is the owner
abbrev pub LongestOwns : Type 0
LongestOwns = (n : NetworkValue) (a : AddrValue) (r : PrefixValue × ℕ) → IsNetwork n → IsLongestMatch n a r → owner_of n a ≡ Some r.1

-- each peer owns its own address
abbrev pub PeersOwnTheirs : Type 0
PeersOwnTheirs = (n : NetworkValue) (p : Peer) → IsNetwork n → Contains n.peers p → owner_of n p.address ≡ Some p.number

-- ---- owners after a route

-- an address outside a new route keeps its owner
abbrev pub RoutesElsewhere : Type 0
RoutesElsewhere = (n : NetworkValue) (now number : ℕ) (p : PrefixValue) (a : AddrValue) → has p a ≡ false
    → IfOk (outcome_of n now (command.Route number p)) (λ done. owner_of done.1 a ≡ owner_of (live_at n now) a)

-- an address of the route is the peer's from now on, where no longer allowed prefix has it
abbrev pub RoutesLead : Type 0
RoutesLead = (n : NetworkValue) (now number : ℕ) (p : PrefixValue) (a : AddrValue) → IsNetwork n → IsAsked (command.Route number p) → has p a ≡ true
    → All (λ s. has s.0 a ≡ true → s.0.length ≤ p.length) (allowed (live_at n now)) → IfOk (outcome_of n now (command.Route number p)) (λ done. owner_of done.1 a ≡ Some number)

-- and where a longer one has it, it keeps its owner
abbrev pub RoutesYield : Type 0
RoutesYield = (n : NetworkValue) (now number : ℕ) (p : PrefixValue) (a : AddrValue) (r : PrefixValue × ℕ) → IsNetwork n → IsAsked (command.Route number p)
    → IsLongestMatch (live_at n now) a r → p.length < r.0.length → IfOk (outcome_of n now (command.Route number p)) (λ done. owner_of done.1 a ≡ Some r.1)

-- an address outside a route that is removed keeps its owner
abbrev pub RoutesGoElsewhere : Type 0
RoutesGoElsewhere = (n : NetworkValue) (now : ℕ) (p : PrefixValue) (a : AddrValue) → has p a ≡ false
    → IfOk (outcome_of n now (command.Unroute p)) (λ done. owner_of done.1 a ≡ owner_of (live_at n now) a)

-- ---- one change of a list

-- an assigned prefix leads to its number
abbrev pub AssignedLeads : Type 0
AssignedLeads = (routes : Routes) (p : PrefixValue) (number : ℕ) → route_of (assign_route routes p number) p ≡ Some number

-- and every other prefix leads where it led
abbrev pub AssignedOthers : Type 0
AssignedOthers = (routes : Routes) (p q : PrefixValue) (number : ℕ) → same_prefix p q ≡ false → route_of (assign_route routes p number) q ≡ route_of routes q

-- a prefix that is removed leads to nobody
abbrev pub RemovedGone : Type 0
RemovedGone = (routes : Routes) (p : PrefixValue) → route_of (without_route routes p) p ≡ None

-- and every other prefix leads where it led
abbrev pub RemovedOthers : Type 0
RemovedOthers = (routes : Routes) (p q : PrefixValue) → same_prefix p q ≡ false → route_of (without_route routes p) q ≡ route_of routes q

-- a peer that is put is at its number
abbrev pub PutStands : Type 0
PutStands = (peers : List Peer) (p : Peer) → peer_of (put_peer peers p) p.number ≡ Some p

-- and every other number has the same peer as before
abbrev pub PutOthers : Type 0
PutOthers = (peers : List Peer) (p : Peer) (number : ℕ) → nat_eq p.number number ≡ false → peer_of (put_peer peers p) number ≡ peer_of peers number

-- ---- leases

-- the live network has just the peers that are live
abbrev pub LiveIsFound : Type 0
LiveIsFound = (n : NetworkValue) (now number : ℕ) (p : Peer) → IsNetwork n → (peer_of (live_at n now).peers number ≡ Some p) ↔ ((peer_of n.peers number ≡ Some p) × (is_live now p ≡ true))

-- and just the routes that lead to them
abbrev pub LiveRoutesLead : Type 0
LiveRoutesLead = (n : NetworkValue) (now number : ℕ) (p : PrefixValue) → IsNetwork n
    → (route_of (live_at n now).routes p ≡ Some number) ↔ ((route_of n.routes p ≡ Some number) × (is_some (peer_of (live_at n now).peers number) ≡ true))

-- a peer is live where its lease has no end, and else before the end
abbrev pub LiveUntil : Type 0
LiveUntil = (now : ℕ) (p : Peer) → (is_live now p ≡ true) ↔ ((p.until ≡ 0) ⊎ (now < p.until))

-- a lease that is over stays over
abbrev pub OverStaysOver : Type 0
OverStaysOver = (n : NetworkValue) (now later : ℕ) → now ≤ later → live_at (live_at n now) later ≡ live_at n later

-- so no change shows whether the expired peers were removed before
abbrev pub SweepsAreUnseen : Type 0
SweepsAreUnseen = (n : NetworkValue) (now later : ℕ) (asked : Command) → now ≤ later → is_reading asked ≡ false → outcome_of (live_at n now) later asked ≡ outcome_of n later asked

-- ---- readings

-- a reading leaves the network as it is
abbrev pub ReadingChangesNothing : Type 0
ReadingChangesNothing = (n : NetworkValue) (now : ℕ) (asked : Command) → is_reading asked ≡ true → IfOk (outcome_of n now asked) (λ done. done.1 ≡ n)

-- ---- what a command leaves

-- whether the command changes or removes the peer with the number
abbrev pub is_on : Command → ℕ → Bool
is_on (command.Add key label wanted until keepalive) i = false
is_on (command.Move number wanted) i = nat_eq number i
is_on (command.Revoke number) i = nat_eq number i
is_on (command.Route number prefix) i = false
is_on (command.Unroute prefix) i = false
is_on (command.Renew number until) i = nat_eq number i
is_on (command.Adopt server lines) i = true
is_on command.List i = false
is_on (command.Owner address) i = false
is_on (command.ServerFile form) i = false
is_on (command.PeerFile number form) i = false

-- whether the command changes or removes the route of the prefix
abbrev pub is_on_route : Command → PrefixValue → Bool
is_on_route (command.Add key label wanted until keepalive) q = false
is_on_route (command.Move number wanted) q = false
is_on_route (command.Revoke number) q = false
is_on_route (command.Route number prefix) q = same_prefix prefix q
is_on_route (command.Unroute prefix) q = same_prefix prefix q
is_on_route (command.Renew number until) q = false
is_on_route (command.Adopt server lines) q = list_any (λ line. list_any (λ p. same_prefix p q) line.allowed) lines
is_on_route command.List q = false
is_on_route (command.Owner address) q = false
is_on_route (command.ServerFile form) q = false
is_on_route (command.PeerFile number form) q = false

-- the pool, the host, the port, the server's key and the capacity are those of `n`
pub record HasSettingsOf (n m : NetworkValue) : Type 0 where
  pub pool : m.pool ≡ n.pool
  pub host : m.host ≡ n.host
  pub port : m.port ≡ n.port
  pub server : m.server ≡ n.server
  pub capacity : m.capacity ≡ n.capacity

-- no command changes the settings
abbrev pub SettingsStay : Type 0
SettingsStay = (n : NetworkValue) (now : ℕ) (asked : Command) → IsNetwork n → IfOk (outcome_of n now asked) (λ done. HasSettingsOf n done.1)

-- each live peer that the command isn't on stays as it is
abbrev pub OtherPeersStay : Type 0
OtherPeersStay = (n : NetworkValue) (now number : ℕ) (asked : Command) → IsNetwork n → is_reading asked ≡ false → is_on asked number ≡ false → number < n.next
    → IfOk (outcome_of n now asked) (λ done. peer_of done.1.peers number ≡ peer_of (live_at n now).peers number)

-- and each route to one, where the command isn't on the route
abbrev pub OtherRoutesStay : Type 0
OtherRoutesStay = (n : NetworkValue) (now number : ℕ) (q : PrefixValue) (asked : Command) → IsNetwork n → is_reading asked ≡ false → is_on asked number ≡ false → is_on_route asked q ≡ false
    → IfOk (outcome_of n now asked) (λ done. (route_of done.1.routes q ≡ Some number) ↔ (route_of (live_at n now).routes q ≡ Some number))

-- ---- whole runs

-- a refused command leaves the network as it is
abbrev pub after : NetworkValue → Outcome → NetworkValue
after n (Err why) = n
after n (Ok done) = done.1

-- the network after some commands, each at its moment
abbrev pub after_commands : NetworkValue → List (ℕ × Command) → NetworkValue
after_commands n [] = n
after_commands n (c ∷ more) = after_commands (after n (outcome_of n c.0 c.1)) more

abbrev pub AreAsked : List (ℕ × Command) → Type 0
AreAsked asked = All (λ c. IsAsked c.1) asked

-- two peers that have this in common are the same
abbrev pub HaveOwn : {X : Type 0} → (Peer → X) → List Peer → Type 0
HaveOwn has peers = (i j : ℕ) (d : Peer) → i < length peers → j < length peers → has (slice_index_or peers i d) ≡ has (slice_index_or peers j d) → i ≡ j

-- after any commands the network keeps the rules
abbrev pub RunsKeepTheRules : Type 0
RunsKeepTheRules = (n : NetworkValue) (asked : List (ℕ × Command)) → IsNetwork n → AreAsked asked → IsNetwork (after_commands n asked)

-- so no two peers have an address in common
abbrev pub AddressesAreOwn : Type 0
AddressesAreOwn = (n : NetworkValue) (asked : List (ℕ × Command)) → IsNetwork n → AreAsked asked → HaveOwn (λ p. p.address) (after_commands n asked).peers

-- nor a key
abbrev pub KeysAreOwn : Type 0
KeysAreOwn = (n : NetworkValue) (asked : List (ℕ × Command)) → IsNetwork n → AreAsked asked → HaveOwn (λ p. p.key) (after_commands n asked).peers

-- ---- numbers

-- the next number never falls
abbrev pub NextOnlyRises : Type 0
NextOnlyRises = (n : NetworkValue) (asked : List (ℕ × Command)) → IsNetwork n → AreAsked asked → n.next ≤ (after_commands n asked).next

-- a number that is given already and that nobody has is never given again
abbrev pub NumbersAreGivenOnce : Type 0
NumbersAreGivenOnce = (n : NetworkValue) (asked : List (ℕ × Command)) (number : ℕ) → IsNetwork n → AreAsked asked → number < n.next
    → peer_of n.peers number ≡ None → peer_of (after_commands n asked).peers number ≡ None

-- a number belongs to one key forever
abbrev pub NumbersKeepTheirKeys : Type 0
NumbersKeepTheirKeys = (n : NetworkValue) (asked : List (ℕ × Command)) (number : ℕ) (p q : Peer) → IsNetwork n → AreAsked asked
    → peer_of n.peers number ≡ Some p → peer_of (after_commands n asked).peers number ≡ Some q → q.key ≡ p.key

-- a peer that was revoked never exists again
abbrev pub RevokedIsGone : Type 0
RevokedIsGone = (n : NetworkValue) (now number : ℕ) (more : List (ℕ × Command)) → IsNetwork n → AreAsked more
    → IfOk (outcome_of n now (command.Revoke number)) (λ done. peer_of (after_commands done.1 more).peers number ≡ None)

-- and never owns an address again
abbrev pub RevokedOwnsNothing : Type 0
RevokedOwnsNothing = (n : NetworkValue) (now number : ℕ) (more : List (ℕ × Command)) (a : AddrValue) → IsNetwork n → AreAsked more
    → IfOk (outcome_of n now (command.Revoke number)) (λ done. owner_of (after_commands done.1 more) a ≢ Some number)

-- ---- the end of a lease

-- the peers that a reply shows are live, and the numbers that it names are those of live peers, or
-- of new ones
abbrev pub ShowsLive : ℕ → List Peer → Reply → Type 0
ShowsLive now live (reply.Peer view) = is_live now view.peer ≡ true
ShowsLive now live (reply.List views) = All (λ view. is_live now view.peer ≡ true) views
ShowsLive now live (reply.Revoked number) = is_some (peer_of live number) ≡ true
ShowsLive now live (reply.Owner number) = is_some (peer_of live number) ≡ true
ShowsLive now live (reply.Adopted added known) = All (λ number. is_some (peer_of live number) ≡ false) added
ShowsLive now live (reply.Server form) = Unit {0}
ShowsLive now live (reply.File number form) = is_some (peer_of live number) ≡ true

-- no reply shows or names a peer whose lease is over
abbrev pub RepliesShowLive : Type 0
RepliesShowLive = (n : NetworkValue) (now : ℕ) (asked : Command) → IsNetwork n → IfOk (outcome_of n now asked) (λ done. ShowsLive now (live_at n now).peers done.0)

-- none is left after an accepted change
abbrev pub ChangesLeaveLive : Type 0
ChangesLeaveLive = (n : NetworkValue) (now : ℕ) (asked : Command) → IsNetwork n → is_reading asked ≡ false → IfOk (outcome_of n now asked) (λ done. All (λ p. is_live now p ≡ true) done.1.peers)

-- and nobody has its number ever again
abbrev pub ExpiredNeverReturn : Type 0
ExpiredNeverReturn = (n : NetworkValue) (now number : ℕ) (asked : Command) (more : List (ℕ × Command)) → IsNetwork n → IsAsked asked → AreAsked more → is_reading asked ≡ false → number < n.next
    → peer_of (live_at n now).peers number ≡ None → IfOk (outcome_of n now asked) (λ done. peer_of (after_commands done.1 more).peers number ≡ None)

-- the owner of an address is a peer of the network; so of the live network it is a live one
abbrev pub OwnersStand : Type 0
OwnersStand = (n : NetworkValue) (a : AddrValue) (number : ℕ) → IsNetwork n → owner_of n a ≡ Some number → is_some (peer_of n.peers number) ≡ true
