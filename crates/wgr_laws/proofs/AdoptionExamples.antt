-- The definition of adoption on small dumps, by computation.
use Rattle.std.proofs.Common.{◌≡◌, ℕ, ◌*◌, ◌^◌, List, [], ◌∷◌, map, refl, Some, Ok, Err}
use Rattle.wgr_text.specs.declared.addr.Family.TheVariants.{V6}
use Rattle.wgr_text.specs.declared.key.Key.{Key}
use Rattle.wgr_text.specs.Prefix.{PrefixValue, mask}
use Rattle.wgr_peers.specs.declared.peer.Peer.{Peer}
use Rattle.wgr_core.specs.declared.command.Command.{Command}
use Rattle.wgr_core.specs.declared.command.Command.TheVariants as command
use Rattle.wgr_core.specs.declared.refusal.Refusal.TheVariants as refusal
use Rattle.wgr_core.specs.declared.reply.Reply.TheVariants as reply
use Rattle.wgr_core.specs.declared.seen_peer.SeenPeer.{SeenPeer}
use Rattle.wgr_core.specs.Network.{NetworkValue}
use Rattle.wgr_core.specs.Owner.{owner_of}
use Rattle.wgr_core.specs.Outcome.{outcome_of}
use Rattle.wgr_core.specs.Refusals.{of_command, of_line}
use Rattle.wgr_laws.proofs.Examples.{addresses, key, routed, run, ten_eight, v4, with_peers}

-- one address of the pool, as a prefix
abbrev pub alone : ℕ → PrefixValue
alone last = mask (v4 10 8 0 last) 32

abbrev pub seen : ℕ → List PrefixValue → SeenPeer
seen byte allowed = record { key = key byte; allowed = allowed; status = record { handshake = 7; received = 8; sent = 9 }; keepalive = 25 }

abbrev pub adopt : List SeenPeer → Command
adopt lines = command.Adopt (Some (key 9)) lines

abbrev keys : List Peer → List (ℕ × Key)
keys peers = map (λ (p : Peer). (p.number, p.key)) peers

abbrev empty : NetworkValue
empty = ten_eight 24

-- a prefix of each family beyond the pool
abbrev elsewhere : PrefixValue
elsewhere = mask (v4 192 168 4 0) 24

abbrev elsewhere_6 : PrefixValue
elsewhere_6 = mask (record { family = V6; number = 0xfd000009 * 2 ^ 96 }) 64

abbrev three : List SeenPeer
three = seen 1 [] ∷ seen 2 (alone 2 ∷ elsewhere ∷ []) ∷ seen 3 (elsewhere_6 ∷ []) ∷ []

abbrev after_three : NetworkValue
after_three = run empty ((0, adopt three) ∷ [])

-- the line that names an address is the first peer; the others have the lowest that are free
three_join : (outcome_of empty 0 (adopt three) ≡ Ok (reply.Adopted (1 ∷ 2 ∷ 3 ∷ []) 0, after_three))
    × (keys after_three.peers ≡ (1, key 2) ∷ (2, key 1) ∷ (3, key 3) ∷ [])
    × (addresses after_three.peers ≡ (1, v4 10 8 0 2) ∷ (2, v4 10 8 0 3) ∷ (3, v4 10 8 0 4) ∷ [])
    × (routed after_three ≡ (elsewhere, 1) ∷ (elsewhere_6, 3) ∷ [])
three_join = (refl, refl, refl, refl)

-- the same dump again changes nothing
again : outcome_of after_three 0 (adopt three) ≡ Ok (reply.Adopted [] 3, after_three)
again = refl

-- no two lines have one address
one_address : outcome_of empty 0 (adopt (seen 1 (alone 2 ∷ []) ∷ seen 2 (alone 2 ∷ []) ∷ [])) ≡ Err (of_line 3 refusal.AddressHeld)
one_address = refl

-- of two addresses the first is the peer's, and the second a route
two_addresses : (addresses (run empty ((0, adopt (seen 1 (alone 5 ∷ alone 6 ∷ []) ∷ [])) ∷ [])).peers ≡ (1, v4 10 8 0 5) ∷ [])
    × (routed (run empty ((0, adopt (seen 1 (alone 5 ∷ alone 6 ∷ []) ∷ [])) ∷ [])) ≡ (alone 6, 1) ∷ [])
two_addresses = (refl, refl)

-- the server's address is no route
servers_address : outcome_of empty 0 (adopt (seen 1 (alone 1 ∷ []) ∷ [])) ≡ Err (of_line 2 refusal.IsAddress)
servers_address = refl

-- another interface
other_interface : outcome_of empty 0 (command.Adopt (Some (key 8)) three) ≡ Err (of_command refusal.WrongServer)
other_interface = refl

-- a line that names an address is looked at first
named_first : outcome_of (with_peers 24 (1 ∷ [])) 0 (adopt (seen 9 [] ∷ seen 2 (alone 2 ∷ []) ∷ [])) ≡ Err (of_line 3 refusal.AddressHeld)
named_first = refl

-- an address that a line was given stays its own where a later line has a prefix with it; where that
-- line comes first, an address outside its prefix is given
abbrev part : PrefixValue
part = mask (v4 10 8 0 0) 28

abbrev given_first : NetworkValue
given_first = run empty ((0, adopt (seen 1 [] ∷ seen 2 (part ∷ []) ∷ [])) ∷ [])

abbrev given_last : NetworkValue
given_last = run empty ((0, adopt (seen 2 (part ∷ []) ∷ seen 1 [] ∷ [])) ∷ [])

given_inside : (addresses given_first.peers ≡ (1, v4 10 8 0 2) ∷ (2, v4 10 8 0 3) ∷ [])
    × (owner_of given_first (v4 10 8 0 2) ≡ Some 1) × (owner_of given_first (v4 10 8 0 4) ≡ Some 2)
    × (addresses given_last.peers ≡ (1, v4 10 8 0 2) ∷ (2, v4 10 8 0 16) ∷ [])
    × (owner_of given_last (v4 10 8 0 3) ≡ Some 1)
given_inside = (refl, refl, refl, refl, refl)
