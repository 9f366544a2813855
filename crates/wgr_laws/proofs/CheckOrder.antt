-- Which of two refusals a command has where neighbouring tests both fail, by computation.
use Rattle.std.proofs.Common.{◌≡◌, ℕ, zero, suc, ◌+◌, List, [], ◌∷◌, Option, Some, None, Err, refl}
use Rattle.wgr_text.specs.Prefix.{AddrValue, PrefixValue, mask}
use Rattle.wgr_core.specs.declared.command.Command.{Command}
use Rattle.wgr_core.specs.declared.command.Command.TheVariants as command
use Rattle.wgr_core.specs.declared.refusal.Refusal.{Refusal}
use Rattle.wgr_core.specs.declared.refusal.Refusal.TheVariants as refusal
use Rattle.wgr_core.specs.declared.seen_peer.SeenPeer.{SeenPeer}
use Rattle.wgr_core.specs.Network.{NetworkValue}
use Rattle.wgr_core.specs.Outcome.{outcome_of}
use Rattle.wgr_core.specs.Refusals.{of_command, of_line}
use Rattle.wgr_laws.proofs.Examples.{key, run, v4, with_peers}
use Rattle.wgr_laws.proofs.AdoptionExamples.{adopt, alone, seen}

-- a command that is refused so at the moment 100
abbrev IsRefused : NetworkValue → Command → Refusal → Type 0
IsRefused n asked why = outcome_of n 100 asked ≡ Err (of_command why)

-- the first line is refused so, which is the second of the dump
abbrev IsRefusedInLine : NetworkValue → List SeenPeer → Refusal → Type 0
IsRefusedInLine n lines why = outcome_of n 100 (adopt lines) ≡ Err (of_line 2 why)

-- ---- networks in which much is spent

-- a peer of the key 1 at 10.8.0.2, and nobody else
abbrev one : NetworkValue
one = with_peers 24 (1 ∷ [])

-- nobody else may join
abbrev no_room : NetworkValue → NetworkValue
no_room n = record n { capacity = 1 }

-- no number is left
abbrev no_number : NetworkValue → NetworkValue
no_number n = record n { next = 1000001 }

-- no address is left
abbrev no_address : NetworkValue
no_address = with_peers 30 (1 ∷ [])

-- a route at full length beyond the pool
abbrev far_route : NetworkValue
far_route = run one ((0, command.Route 1 (mask (v4 192 168 4 9) 32)) ∷ [])

-- so many routes to the peer 1, each of one address
abbrev routes_from : ℕ → ℕ → List (PrefixValue × ℕ)
routes_from number zero = []
routes_from number (suc count) = (mask (v4 10 64 0 number) 32, 1) ∷ routes_from (number + 1) count

abbrev no_route : NetworkValue
no_route = record one { routes = routes_from 0 4096 }

-- ---- Add

abbrev add : ℕ → Option AddrValue → ℕ → Command
add byte wanted until = command.Add (key byte) [] wanted until 0

-- the last address of a pool of 256, which is never given
abbrev last : Option AddrValue
last = Some (v4 10 8 0 255)

abbrev held : Option AddrValue
held = Some (v4 10 8 0 2)

-- no network that keeps the rules has a peer with the server's key; here one has
server_key_first : IsRefused (record one { server = key 1 }) (add 1 None 0) refusal.ServerKey
    × IsRefused one (add 9 None 100) refusal.ServerKey
    × IsRefused (no_room one) (add 9 None 0) refusal.ServerKey
server_key_first = (refl, refl, refl)

key_held_first : IsRefused one (add 1 None 100) (refusal.KeyHeld 1) × IsRefused (no_room one) (add 1 None 0) (refusal.KeyHeld 1)
key_held_first = (refl, refl)

lease_over_first : IsRefused (no_room one) (add 2 None 100) refusal.LeaseOver
lease_over_first = refl

capacity_first : IsRefused (no_number (no_room one)) (add 2 None 0) refusal.CapacityReached
capacity_first = refl

numbers_first : IsRefused (no_number one) (add 2 last 0) refusal.NumbersSpent
    × IsRefused (no_number one) (add 2 held 0) refusal.NumbersSpent
    × IsRefused (no_number no_address) (add 2 None 0) refusal.NumbersSpent
numbers_first = (refl, refl, refl)

pool_first : IsRefused far_route (add 2 (Some (v4 192 168 4 9)) 0) refusal.OutsidePool
pool_first = refl

-- ---- Move, Renew and Route

peer_first : IsRefused one (command.Move 2 last) refusal.NoSuchPeer
    × IsRefused one (command.Move 2 held) refusal.NoSuchPeer
    × IsRefused no_address (command.Move 2 None) refusal.NoSuchPeer
    × IsRefused one (command.Renew 2 100) refusal.NoSuchPeer
    × IsRefused one (command.Route 2 (alone 2)) refusal.NoSuchPeer
    × IsRefused no_route (command.Route 2 (alone 9)) refusal.NoSuchPeer
peer_first = (refl, refl, refl, refl, refl, refl)

pool_before_routes : IsRefused far_route (command.Move 1 (Some (v4 192 168 4 9))) refusal.OutsidePool
pool_before_routes = refl

address_first : IsRefused no_route (command.Route 1 (alone 2)) refusal.IsAddress
    × IsRefused no_route (command.Route 1 (alone 1)) refusal.IsAddress
    × IsRefused no_route (command.Route 1 (alone 9)) refusal.RoutesFull
address_first = (refl, refl, refl)

-- ---- lines of a dump

-- a line that names the address of a peer, and one whose second prefix is the server's address
abbrev at_held : SeenPeer
at_held = seen 2 (alone 2 ∷ [])

abbrev at_servers : List PrefixValue → SeenPeer
at_servers allowed = seen 2 (mask (v4 10 8 0 1) 32 ∷ allowed)

interface_first : IsRefused one (command.Adopt (Some (key 8)) (seen 9 [] ∷ [])) refusal.WrongServer
interface_first = refl

lines_server_key_first : IsRefusedInLine (no_room one) (seen 9 [] ∷ []) refusal.ServerKey
lines_server_key_first = refl

lines_capacity_first : IsRefusedInLine (no_number (no_room one)) (seen 2 [] ∷ []) refusal.CapacityReached
lines_capacity_first = refl

lines_numbers_first : IsRefusedInLine (no_number one) (at_held ∷ []) refusal.NumbersSpent
    × IsRefusedInLine (no_number no_address) (seen 2 [] ∷ []) refusal.NumbersSpent
lines_numbers_first = (refl, refl)

lines_place_first : IsRefusedInLine one (at_servers (alone 2 ∷ []) ∷ []) refusal.AddressHeld
    × IsRefusedInLine no_address (at_servers [] ∷ []) refusal.PoolFull
    × IsRefusedInLine no_route (seen 2 (alone 2 ∷ alone 9 ∷ []) ∷ []) refusal.AddressHeld
lines_place_first = (refl, refl, refl)

lines_address_first : IsRefusedInLine no_route (at_servers [] ∷ []) refusal.IsAddress
    × IsRefusedInLine no_route (seen 2 (alone 3 ∷ alone 9 ∷ []) ∷ []) refusal.RoutesFull
lines_address_first = (refl, refl)
