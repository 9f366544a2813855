-- The definition of a command's outcome on small networks, by computation.
use Rattle.std.proofs.Common.{◌≡◌, ℕ, ◌+◌, ◌*◌, ◌^◌, List, [], ◌∷◌, map, refl, Option, Some, None, Ok, Err}
use Rattle.std.specs.Prelude.{replicate, codes}
use Rattle.wgr_text.specs.declared.addr.Family.TheVariants.{V4, V6}
use Rattle.wgr_text.specs.declared.key.Key.{Key}
use Rattle.wgr_text.specs.Prefix.{AddrValue, PrefixValue, mask}
use Rattle.wgr_peers.specs.declared.peer.Peer.{Peer}
use Rattle.wgr_core.specs.declared.command.Command.{Command}
use Rattle.wgr_core.specs.declared.command.Command.TheVariants as command
use Rattle.wgr_core.specs.declared.refusal.Refusal.TheVariants as refusal
use Rattle.wgr_core.specs.Network.{NetworkValue, live_at}
use Rattle.wgr_core.specs.Owner.{owner_of}
use Rattle.wgr_core.specs.Outcome.{outcome_of}
use Rattle.wgr_core.specs.Refusals.{of_command}

abbrev pub v4 : ℕ → ℕ → ℕ → ℕ → AddrValue
v4 a b c d = record { family = V4; number = a * 2 ^ 24 + b * 2 ^ 16 + c * 2 ^ 8 + d }

abbrev pub key : ℕ → Key
key byte = record { 0 = replicate 32 byte }

-- an empty network with this pool, whose server key is that of nines
abbrev office : PrefixValue → NetworkValue
office pool = record { pool = pool; host = codes "vpn.example.net"; port = 51820; server = key 9; capacity = 4096; next = 1; peers = []; routes = [] }

abbrev pub ten_eight : ℕ → NetworkValue
ten_eight length = office (mask (v4 10 8 0 0) length)

-- a key that joins where it may, a key that joins at an address, and one with an end to its lease
abbrev add : ℕ → Command
add byte = command.Add (key byte) [] None 0 0

abbrev add_at : ℕ → AddrValue → Command
add_at byte a = command.Add (key byte) [] (Some a) 0 0

abbrev add_until : ℕ → ℕ → Command
add_until byte until = command.Add (key byte) [] None until 0

-- the network after the commands at their moments, as long as they are accepted
abbrev pub run : NetworkValue → List (ℕ × Command) → NetworkValue
run n [] = n
run n ((now, asked) ∷ more) = elim (outcome_of n now asked) [ Ok done ↦ run done.1 more | Err why ↦ n ]

abbrev pub addresses : List Peer → List (ℕ × AddrValue)
addresses peers = map (λ (p : Peer). (p.number, p.address)) peers

-- a pool of four addresses has one to give, and one of eight has five
one_of_four : (addresses (run (ten_eight 30) ((0, add 0) ∷ [])).peers ≡ (1, v4 10 8 0 2) ∷ []) × (outcome_of (run (ten_eight 30) ((0, add 0) ∷ [])) 0 (add 1) ≡ Err (of_command refusal.PoolFull))
one_of_four = (refl, refl)

five_of_eight : (addresses (run (ten_eight 29) ((0, add 1) ∷ (0, add 2) ∷ (0, add 3) ∷ (0, add 4) ∷ (0, add 5) ∷ [])).peers ≡ (1, v4 10 8 0 2) ∷ (2, v4 10 8 0 3) ∷ (3, v4 10 8 0 4) ∷ (4, v4 10 8 0 5) ∷ (5, v4 10 8 0 6) ∷ [])
five_of_eight = refl

-- IPv6 gives its last address too
two_of_four : (addresses (run (office (mask (record { family = V6; number = 0xfd00 * 2 ^ 112 }) 126)) ((0, add 1) ∷ (0, add 2) ∷ [])).peers ≡ (1, record { family = V6; number = 0xfd00 * 2 ^ 112 + 2 }) ∷ (2, record { family = V6; number = 0xfd00 * 2 ^ 112 + 3 }) ∷ [])
two_of_four = refl

-- the lowest free address lies below or above a named one
around : addresses (run (ten_eight 29) ((0, add_at 1 (v4 10 8 0 3)) ∷ (0, add 2) ∷ (0, add 3) ∷ [])).peers ≡ (1, v4 10 8 0 3) ∷ (2, v4 10 8 0 2) ∷ (3, v4 10 8 0 4) ∷ []
around = refl

-- each refusal, with its fact
refused : (outcome_of (ten_eight 24) 0 (add 9) ≡ Err (of_command refusal.ServerKey))
    × (outcome_of (run (ten_eight 24) ((0, add 1) ∷ [])) 0 (add 1) ≡ Err (of_command (refusal.KeyHeld 1)))
    × (outcome_of (ten_eight 24) 100 (add_until 1 100) ≡ Err (of_command refusal.LeaseOver))
    × (outcome_of (record (ten_eight 24) { capacity = 0 }) 0 (add 1) ≡ Err (of_command refusal.CapacityReached))
    × (outcome_of (record (ten_eight 24) { next = 1000001 }) 0 (add 1) ≡ Err (of_command refusal.NumbersSpent))
    × (outcome_of (ten_eight 24) 0 (add_at 1 (v4 10 8 0 255)) ≡ Err (of_command refusal.OutsidePool))
    × (outcome_of (run (ten_eight 24) ((0, add 1) ∷ [])) 0 (add_at 2 (v4 10 8 0 2)) ≡ Err (of_command refusal.AddressHeld))
refused = (refl, refl, refl, refl, refl, refl, refl)

-- a lease that ends at 100 runs at 99; the next number is new, and the address is given again
leases : (addresses (live_at (run (ten_eight 24) ((0, add_until 1 100) ∷ [])) 99).peers ≡ (1, v4 10 8 0 2) ∷ [])
    × (addresses (live_at (run (ten_eight 24) ((0, add_until 1 100) ∷ [])) 100).peers ≡ [])
    × (addresses (run (ten_eight 24) ((0, add_until 1 100) ∷ (100, add 2) ∷ [])).peers ≡ (2, v4 10 8 0 2) ∷ [])
leases = (refl, refl, refl)

-- a large pool costs no more
large : addresses (run (office (mask (v4 10 0 0 0) 8)) ((0, add 1) ∷ [])).peers ≡ (1, v4 10 0 0 2) ∷ []
large = refl

-- ---- peers that move and leave, routes and their owners

-- the network with peers of these keys, from 10.8.0.2 on
abbrev pub with_peers : ℕ → List ℕ → NetworkValue
with_peers length keys = run (ten_eight length) (map (λ byte. (0, add byte)) keys)

abbrev pub routed : NetworkValue → List (PrefixValue × ℕ)
routed n = n.routes

abbrev owner : NetworkValue → AddrValue → Option ℕ
owner n a = owner_of n a

-- a number is new, though the address is given again
revoked : addresses (run (with_peers 29 (1 ∷ 2 ∷ 3 ∷ [])) ((0, command.Revoke 2) ∷ (0, add 4) ∷ [])).peers ≡ (1, v4 10 8 0 2) ∷ (3, v4 10 8 0 4) ∷ (4, v4 10 8 0 3) ∷ []
revoked = refl

-- a route in the pool holds its addresses
beside_a_route : addresses (run (ten_eight 29) ((0, add_at 1 (v4 10 8 0 6)) ∷ (0, command.Route 1 (mask (v4 10 8 0 2) 31)) ∷ (0, add 2) ∷ [])).peers ≡ (1, v4 10 8 0 6) ∷ (2, v4 10 8 0 4) ∷ []
beside_a_route = refl

-- the identical prefix leaves the peer that had it
taken_over : routed (run (with_peers 24 (1 ∷ 2 ∷ [])) ((0, command.Route 1 (mask (v4 192 168 4 7) 24)) ∷ (0, command.Route 2 (mask (v4 192 168 4 0) 24)) ∷ [])) ≡ (mask (v4 192 168 4 0) 24, 2) ∷ []
taken_over = refl

abbrev two_routes : NetworkValue
two_routes = run (with_peers 24 (1 ∷ 2 ∷ [])) ((0, command.Route 2 (mask (v4 10 0 0 0) 8)) ∷ (0, command.Route 1 (mask (v4 0 0 0 0) 0)) ∷ [])

-- the longest prefix that has the address owns it, and a prefix of the other family never does
longest : (owner two_routes (v4 10 1 1 1) ≡ Some 2) × (owner two_routes (v4 1 1 1 1) ≡ Some 1) × (owner two_routes (v4 10 8 0 2) ≡ Some 1)
    × (outcome_of two_routes 0 (command.Owner (record { family = V6; number = 0xfd00 * 2 ^ 112 + 1 })) ≡ Err (of_command refusal.NobodysAddress))
longest = (refl, refl, refl, refl)

-- neither a peer's nor the server's address becomes a route
no_route : (outcome_of (with_peers 24 (1 ∷ 2 ∷ [])) 0 (command.Route 1 (mask (v4 10 8 0 3) 32)) ≡ Err (of_command refusal.IsAddress))
    × (outcome_of (with_peers 24 (1 ∷ 2 ∷ [])) 0 (command.Route 1 (mask (v4 10 8 0 1) 32)) ≡ Err (of_command refusal.IsAddress))
    × (outcome_of (with_peers 24 (1 ∷ [])) 0 (command.Unroute (mask (v4 10 8 0 2) 32)) ≡ Err (of_command refusal.NoSuchRoute))
no_route = (refl, refl, refl)

-- a peer may move to its own address, and where it names none its own is free
stays : (addresses (run (with_peers 24 (1 ∷ [])) ((0, command.Move 1 (Some (v4 10 8 0 2))) ∷ [])).peers ≡ (1, v4 10 8 0 2) ∷ [])
    × (addresses (run (with_peers 30 (1 ∷ [])) ((0, command.Move 1 None) ∷ [])).peers ≡ (1, v4 10 8 0 2) ∷ [])
stays = (refl, refl)

-- a named address may lie in a shorter route, but not be one
into_a_route : (addresses (run (with_peers 24 (1 ∷ [])) ((0, command.Route 1 (mask (v4 10 8 0 4) 30)) ∷ (0, command.Move 1 (Some (v4 10 8 0 5))) ∷ [])).peers ≡ (1, v4 10 8 0 5) ∷ [])
    × (addresses (run (with_peers 24 (1 ∷ [])) ((0, command.Route 1 (mask (v4 10 8 0 4) 30)) ∷ (0, command.Move 1 (Some (v4 10 8 0 5))) ∷ (0, command.Move 1 None) ∷ [])).peers ≡ (1, v4 10 8 0 2) ∷ [])
    × (outcome_of (run (with_peers 24 (1 ∷ [])) ((0, command.Route 1 (mask (v4 10 8 0 9) 32)) ∷ [])) 0 (command.Move 1 (Some (v4 10 8 0 9))) ≡ Err (of_command refusal.AddressHeld))
    × (outcome_of (run (with_peers 30 (1 ∷ [])) ((0, command.Route 1 (mask (v4 10 8 0 2) 31)) ∷ [])) 0 (command.Move 1 None) ≡ Err (of_command refusal.PoolFull))
into_a_route = (refl, refl, refl, refl)

abbrev leased : NetworkValue
leased = run (ten_eight 24) ((0, add_until 1 100) ∷ (50, command.Route 1 (mask (v4 172 16 0 0) 12)) ∷ [])

-- a lease that is over owns nothing and isn't renewed; one that is renewed goes on
leases_and_routes : (owner (live_at leased 99) (v4 172 16 0 1) ≡ Some 1)
    × (outcome_of leased 100 (command.Owner (v4 172 16 0 1)) ≡ Err (of_command refusal.NobodysAddress))
    × (outcome_of leased 100 (command.Renew 1 200) ≡ Err (of_command refusal.NoSuchPeer))
    × (outcome_of leased 99 (command.Renew 1 99) ≡ Err (of_command refusal.LeaseOver))
    × (owner (live_at (run leased ((99, command.Renew 1 0) ∷ [])) 100) (v4 172 16 0 1) ≡ Some 1)
leases_and_routes = (refl, refl, refl, refl, refl)
