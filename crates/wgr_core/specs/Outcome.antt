-- What a command does to a network: a refusal, or a reply and the network after it.
use Rattle.std.specs.Prelude.{ℕ, ◌+◌, Bool, true, false, cond, List, [], ◌∷◌, ◌++◌, map, Option, Some, None, Result, Ok, Err, All}
use Rattle.wgr_text.specs.declared.key.Key.{Key}
use Rattle.wgr_text.specs.Prefix.{AddrValue, PrefixValue, IsAddr, IsPrefix}
use Rattle.wgr_peers.specs.declared.peer.Peer.{Peer}
use Rattle.wgr_core.specs.declared.command.Command.{Command}
use Rattle.wgr_core.specs.declared.command.Command.TheVariants as command
use Rattle.wgr_core.specs.declared.refusal.Refusal.{Refusal}
use Rattle.wgr_core.specs.declared.refusal.Refusal.TheVariants.{NoSuchPeer, NoSuchRoute, NobodysAddress, LeaseOver, WrongServer}
use Rattle.wgr_core.specs.declared.refusal.CommandRefusal.{CommandRefusal}
use Rattle.wgr_core.specs.declared.seen_peer.SeenPeer.{SeenPeer}
use Rattle.wgr_core.specs.declared.reply.Reply.{Reply}
use Rattle.wgr_core.specs.declared.reply.Reply.TheVariants as reply
use Rattle.wgr_core.specs.declared.reply.PeerView.{PeerView}
use Rattle.wgr_peers.specs.Limits.{is_expired}
use Rattle.wgr_peers.specs.Peers.{peer_of, put_peer, same_key, without_peer}
use Rattle.wgr_peers.specs.Routes.{Routes, assign_route, route_of, routes_to, without_route}
use Rattle.wgr_core.specs.Network.{NetworkValue, live_at, without_peers}
use Rattle.wgr_core.specs.Owner.{owner_of}
use Rattle.wgr_core.specs.Refusals.{join_refusal, of_command, of_line, place, route_refusal}
use Rattle.wgr_core.specs.Adoption.{Adoption, adoption_of}

abbrev pub Outcome : Type 0
Outcome = Result (Reply × NetworkValue) CommandRefusal

-- the refusal where there is one, and else what follows
abbrev pub unless : Option Refusal → Outcome → Outcome
unless None next = next
unless (Some why) next = Err (of_command why)

-- a peer with the routes to it
abbrev pub peer_view : Routes → Peer → PeerView
peer_view routes p = record { peer = p; routes = routes_to routes p.number }

-- ---- a new peer

-- the peer at its address, and the network with it
abbrev pub joined : NetworkValue → Peer → Outcome
joined n p = Ok (reply.Peer (peer_view n.routes p), record n { next = n.next + 1; peers = n.peers ++ p ∷ [] })

abbrev pub at_place : Result AddrValue Refusal → (AddrValue → Outcome) → Outcome
at_place (Err why) next = Err (of_command why)
at_place (Ok a) next = next a

-- the key, the lease and the room are tested first, then the address
abbrev pub add : NetworkValue → ℕ → Key → List ℕ → Option AddrValue → ℕ → ℕ → Outcome
add n now key label wanted until keepalive =
    unless (join_refusal n now key until)
    (at_place (place n n.pool wanted)
    (λ a. joined n (record { number = n.next; key = key; label = label; address = a; second = None; until = until; keepalive = keepalive; status = None })))

-- ---- a peer that moves, leaves, or has another lease

-- what follows for the peer, if there is one
abbrev pub if_stands : Option Peer → (Peer → Outcome) → Outcome
if_stands None next = Err (of_command NoSuchPeer)
if_stands (Some p) next = next p

-- the peer in place of the one with its number
abbrev pub replaced : NetworkValue → Peer → Outcome
replaced n p = Ok (reply.Peer (peer_view n.routes p), record n { peers = put_peer n.peers p })

-- the network in which the peer that moves, if one does, holds no address; its routes stay
abbrev pub vacated : NetworkValue → Option ℕ → NetworkValue
vacated n None = n
vacated n (Some number) = record n { peers = without_peer n.peers number }

abbrev pub move : NetworkValue → ℕ → Option AddrValue → Outcome
move n number wanted =
    if_stands (peer_of n.peers number)
    (λ p. at_place (place (vacated n (Some number)) n.pool wanted) (λ a. replaced n (record p { address = a })))

abbrev pub revoke : NetworkValue → ℕ → Outcome
revoke n number = if_stands (peer_of n.peers number) (λ p. Ok (reply.Revoked number, without_peers n (number ∷ [])))

abbrev pub lease_refusal : ℕ → ℕ → Option Refusal
lease_refusal now until = cond (is_expired now until) (Some LeaseOver) None

abbrev pub renew : NetworkValue → ℕ → ℕ → ℕ → Outcome
renew n now number until =
    if_stands (peer_of n.peers number)
    (λ p. unless (lease_refusal now until) (replaced n (record p { until = until })))

-- ---- routes

-- the peer with the routes to it, and the network with these routes
abbrev pub rerouted : NetworkValue → Peer → Routes → Outcome
rerouted n p routes = Ok (reply.Peer (peer_view routes p), record n { routes = routes })

abbrev pub route : NetworkValue → ℕ → PrefixValue → Outcome
route n number prefix =
    if_stands (peer_of n.peers number)
    (λ p. unless (route_refusal n prefix) (rerouted n p (assign_route n.routes prefix number)))

-- what follows for the peer to which the prefix leads
abbrev pub if_routed : NetworkValue → Option ℕ → (Peer → Outcome) → Outcome
if_routed n None next = Err (of_command NoSuchRoute)
if_routed n (Some number) next = if_stands (peer_of n.peers number) next

abbrev pub unroute : NetworkValue → PrefixValue → Outcome
unroute n prefix = if_routed n (route_of n.routes prefix) (λ p. rerouted n p (without_route n.routes prefix))

abbrev pub or_nobodys : NetworkValue → Option ℕ → Outcome
or_nobodys n None = Err (of_command NobodysAddress)
or_nobodys n (Some number) = Ok (reply.Owner number, n)

-- ---- the peers of a running interface

-- the running interface is another one
abbrev pub server_refusal : NetworkValue → Option Key → Option Refusal
server_refusal n None = None
server_refusal n (Some key) = cond (same_key key n.server) None (Some WrongServer)

abbrev pub adopted : Result Adoption (ℕ × Refusal) → Outcome
adopted (Err e) = Err (of_line e.0 e.1)
adopted (Ok s) = Ok (reply.Adopted s.added s.known, s.network)

abbrev pub adopt : NetworkValue → Option Key → List SeenPeer → Outcome
adopt n server lines = unless (server_refusal n server) (adopted (adoption_of n lines))

-- ---- each command, on the live network

abbrev pub live_outcome : NetworkValue → ℕ → Command → Outcome
live_outcome n now (command.Add key label wanted until keepalive) = add n now key label wanted until keepalive
live_outcome n now (command.Move number wanted) = move n number wanted
live_outcome n now (command.Revoke number) = revoke n number
live_outcome n now (command.Route number prefix) = route n number prefix
live_outcome n now (command.Unroute prefix) = unroute n prefix
live_outcome n now (command.Renew number until) = renew n now number until
live_outcome n now (command.Adopt server lines) = adopt n server lines
live_outcome n now command.List = Ok (reply.List (map (peer_view n.routes) n.peers), n)
live_outcome n now (command.Owner address) = or_nobodys n (owner_of n address)
live_outcome n now (command.ServerFile form) = Ok (reply.Server form, n)
live_outcome n now (command.PeerFile number form) = if_stands (peer_of n.peers number) (λ p. Ok (reply.File number form, n))

-- whether the command only reads
abbrev pub is_reading : Command → Bool
is_reading (command.Add key label wanted until keepalive) = false
is_reading (command.Move number wanted) = false
is_reading (command.Revoke number) = false
is_reading (command.Route number prefix) = false
is_reading (command.Unroute prefix) = false
is_reading (command.Renew number until) = false
is_reading (command.Adopt server lines) = false
is_reading command.List = true
is_reading (command.Owner address) = true
is_reading (command.ServerFile form) = true
is_reading (command.PeerFile number form) = true

-- the peer that the command itself removes
abbrev pub leaving : Command → Option ℕ
leaving (command.Add key label wanted until keepalive) = None
leaving (command.Move number wanted) = None
leaving (command.Revoke number) = Some number
leaving (command.Route number prefix) = None
leaving (command.Unroute prefix) = None
leaving (command.Renew number until) = None
leaving (command.Adopt server lines) = None
leaving command.List = None
leaving (command.Owner address) = None
leaving (command.ServerFile form) = None
leaving (command.PeerFile number form) = None

-- a change leaves the changed live network; a reading leaves the network as it is
abbrev pub kept_if : Bool → NetworkValue → Outcome → Outcome
kept_if reading n (Err why) = Err why
kept_if reading n (Ok done) = Ok (done.0, cond reading n done.1)

abbrev pub outcome_of : NetworkValue → ℕ → Command → Outcome
outcome_of n now asked = kept_if (is_reading asked) n (live_outcome (live_at n now) now asked)

-- a requested prefix is valid: its number fits the family, and its host bits are zero
abbrev pub IsPrefixAsked : PrefixValue → Type 0
IsPrefixAsked p = IsAddr p.address × IsPrefix p

abbrev pub AreLinesAsked : List SeenPeer → Type 0
AreLinesAsked = All (λ line. All IsPrefixAsked line.allowed)

abbrev pub IsAsked : Command → Type 0
IsAsked (command.Add key label wanted until keepalive) = Unit {0}
IsAsked (command.Move number wanted) = Unit {0}
IsAsked (command.Revoke number) = Unit {0}
IsAsked (command.Route number prefix) = IsPrefixAsked prefix
IsAsked (command.Unroute prefix) = Unit {0}
IsAsked (command.Renew number until) = Unit {0}
IsAsked (command.Adopt server lines) = AreLinesAsked lines
IsAsked command.List = Unit {0}
IsAsked (command.Owner address) = Unit {0}
IsAsked (command.ServerFile form) = Unit {0}
IsAsked (command.PeerFile number form) = Unit {0}
