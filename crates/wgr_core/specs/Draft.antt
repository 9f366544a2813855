-- A network that is changed step by step, and what the steps of an adoption answer.
use Rattle.std.specs.Prelude.{ℕ, zero, suc, ◌≡◌, Bool, true, false, not, cond, ◌&&◌, nat_eq, List, [], ◌∷◌, Option, Some, None, Result, Ok, Err}
use Rattle.std.specs.List.{filter}
use Rattle.wgr_text.specs.Prefix.{AddrValue, PrefixValue}
use Rattle.wgr_peers.specs.declared.peer.Peer.{Peer}
use Rattle.wgr_peers.specs.declared.peer.Status.{Status}
use Rattle.wgr_peers.specs.Routes.{Routes}
use Rattle.wgr_core.specs.declared.fault.ActFault.{ActFault}
use Rattle.wgr_core.specs.declared.fault.ActFault.TheVariants as fault
use Rattle.wgr_core.specs.declared.fault.AdoptFault.{AdoptFault}
use Rattle.wgr_core.specs.declared.fault.AdoptFault.TheVariants as adopt_fault
use Rattle.wgr_core.specs.declared.refusal.Refusal.{Refusal}
use Rattle.wgr_core.specs.declared.seen_peer.SeenPeer.{SeenPeer}
use Rattle.wgr_core.specs.Network.{NetworkValue, IsNetwork}
use Rattle.wgr_core.specs.Change.{assign_routes}
use Rattle.wgr_core.specs.Adoption.{Adoption, and_then, named_address, names_address, numbered_from}
use Rattle.wgr_core.specs.Refusals.{join_refusal, of_line, place, unless_refused}

-- the network as it was, and as it is now
pub record DraftValue : Type 0 where
  pub start : NetworkValue
  pub network : NetworkValue

-- a network with these peers, these routes and this next number
abbrev pub drafted : NetworkValue → List Peer → Routes → ℕ → NetworkValue
drafted n peers routes next = record n { next = next; peers = peers; routes = routes }

-- whether two statuses show the same, or both nothing
abbrev pub same_status : Option Status → Option Status → Bool
same_status None None = true
same_status None (Some b) = false
same_status (Some a) None = false
same_status (Some a) (Some b) = nat_eq a.handshake b.handshake && (nat_eq a.received b.received && nat_eq a.sent b.sent)

-- whether there is a peer at the place, with the status of this one
abbrev pub was_there : List Peer → ℕ → Peer → Bool
was_there [] at p = false
was_there (q ∷ start) zero p = same_status q.status p.status
was_there (q ∷ start) (suc at) p = was_there start at p

-- those of the peers whose status isn't that of the peer at their place of `start`, and those after them
abbrev pub altered : List Peer → List Peer → List Peer
altered start [] = []
altered [] (p ∷ peers) = p ∷ peers
altered (q ∷ start) (p ∷ peers) = cond (same_status q.status p.status) (altered start peers) (p ∷ altered start peers)

-- each peer of `start` is at its place, where it may have another status
abbrev pub AreNoted : List Peer → List Peer → Type 0
AreNoted [] peers = Unit {0}
AreNoted (q ∷ start) [] = ⊥
AreNoted (q ∷ start) (p ∷ peers) = (p ≡ record q { status = p.status }) × AreNoted start peers

-- a network made from another: its peers got statuses, others were added after them, and these
-- routes were put
pub record IsGrown (start n : NetworkValue) (routes_put : Routes) : Type 0 where
  pub rules : IsNetwork n
  pub noted : AreNoted start.peers n.peers
  pub routed : assign_routes start.routes routes_put ≡ n.routes

-- an adoption of lines that began at a network
pub record AdoptingValue : Type 0 where
  pub start : NetworkValue
  pub so_far : Adoption

-- no line is adopted yet
abbrev pub begun : NetworkValue → AdoptingValue
begun n = record { start = n; so_far = record { network = n; added = []; known = 0 } }

-- what a step leaves, or why it failed
abbrev pub left_by : {T E : Type 0} → Result (Unit {0}) E → T → Result T E
left_by (Ok done) after = Ok after
left_by (Err why) after = Err why

-- the address that a new peer of the line takes
abbrev pub line_address : NetworkValue → SeenPeer → Result AddrValue Refusal
line_address n line = and_then (unless_refused (join_refusal n 0 line.key 0) n) (λ n. place n n.pool (named_address n.pool line.allowed))

-- whether a line is one of the requested ones: those that name an address, or the others
abbrev pub is_asked_for : Bool → Bool → Bool
is_asked_for true names = names
is_asked_for false names = not names

-- these lines with their numbers
abbrev pub numbered_lines : PrefixValue → Bool → ℕ → List SeenPeer → List (ℕ × SeenPeer)
numbered_lines pool naming number lines = filter (λ l. is_asked_for naming (names_address pool l.1)) (numbered_from number lines)

-- the answer is the definition's address or refusal, or memory ran out
abbrev pub MeetsAddress : Result AddrValue AdoptFault → Result AddrValue Refusal → Type 0
MeetsAddress (Err adopt_fault.NoMemory) place = Unit {0}
MeetsAddress (Err (adopt_fault.Refused why)) (Err is) = why ≡ is
MeetsAddress (Err (adopt_fault.Refused why)) (Ok a) = ⊥
MeetsAddress (Ok given) (Err is) = ⊥
MeetsAddress (Ok given) (Ok a) = given ≡ a

-- the answer of a step is the definition's network or refusal, or memory ran out
abbrev pub MeetsGiven : DraftValue → Result DraftValue AdoptFault → Result NetworkValue Refusal → Type 0
MeetsGiven d (Err adopt_fault.NoMemory) outcome = Unit {0}
MeetsGiven d (Err (adopt_fault.Refused why)) (Err is) = why ≡ is
MeetsGiven d (Err (adopt_fault.Refused why)) (Ok n) = ⊥
MeetsGiven d (Ok after) (Err is) = ⊥
MeetsGiven d (Ok after) (Ok n) = after ≡ record d { network = n }

-- the same for a line
abbrev pub MeetsLine : AdoptingValue → Result AdoptingValue AdoptFault → Result Adoption Refusal → Type 0
MeetsLine a (Err adopt_fault.NoMemory) outcome = Unit {0}
MeetsLine a (Err (adopt_fault.Refused why)) (Err is) = why ≡ is
MeetsLine a (Err (adopt_fault.Refused why)) (Ok s) = ⊥
MeetsLine a (Ok after) (Err is) = ⊥
MeetsLine a (Ok after) (Ok s) = after ≡ record a { so_far = s }

-- the same for several lines
abbrev pub MeetsLines : AdoptingValue → Result AdoptingValue ActFault → Result Adoption (ℕ × Refusal) → Type 0
MeetsLines a (Err fault.NoMemory) outcome = Unit {0}
MeetsLines a (Err (fault.Refused why)) (Err is) = why ≡ of_line is.0 is.1
MeetsLines a (Err (fault.Refused why)) (Ok s) = ⊥
MeetsLines a (Ok after) (Err is) = ⊥
MeetsLines a (Ok after) (Ok s) = after ≡ record a { so_far = s }

-- why a command failed, of which the line with this number was not adopted
abbrev pub fault_in_line : ℕ → AdoptFault → ActFault
fault_in_line number (adopt_fault.Refused why) = fault.Refused (of_line number why)
fault_in_line number adopt_fault.NoMemory = fault.NoMemory
