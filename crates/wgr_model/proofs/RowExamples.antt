-- The rows of a small register, by computation: two tenants with a network each, a peer with a route,
-- and one whose lease is over.
use Rattle.std.proofs.Common.{◌≡◌, ℕ, ◌+◌, ◌*◌, ◌^◌, ◌<◌, ◌≤◌, true, false, List, [], ◌∷◌, None, refl, arith}
use Rattle.std.specs.Prelude.{replicate, codes}
use Rattle.std.proofs.lemmas.List.Elements.{All-nil, All-replicate, recursion_from_All}
use Rattle.wgr_text.specs.declared.addr.Family.TheVariants.{V4}
use Rattle.wgr_text.specs.declared.key.Key.{Key}
use Rattle.wgr_text.specs.Prefix.{AddrValue, PrefixValue}
use Rattle.wgr_peers.specs.declared.peer.Peer.{Peer}
use Rattle.wgr_peers.specs.Label.{IsLabel}
use Rattle.wgr_peers.specs.Routes.{Routes}
use Rattle.wgr_core.specs.declared.command.Command.{Command}
use Rattle.wgr_core.specs.declared.command.Command.TheVariants as command
use Rattle.wgr_core.specs.declared.reply.Reply.TheVariants as reply
use Rattle.wgr_core.specs.Network.{NetworkValue}
use Rattle.wgr_model.specs.Consistent.{IsConsistent, IsDigest, is_pool, overlaps}
use Rattle.wgr_model.specs.declared.right.Right.TheVariants.{Full, Read}
use Rattle.wgr_model.specs.Register.{Bytes, NetworkEntry, IsSame, Register, Tenant, Token, empty_register, is_same}
use Rattle.wgr_model.specs.Rows.{AllowedRow, AreRowsOf, NetworkRow, PeerRow, Tables, register_of}
use Rattle.wgr_model.specs.RowLaws.{AreConsistent, IsRowStep}
use Rattle.wgr_model.specs.RowsExist.{rows_of}
use Rattle.wgr_model.specs.Steps.{AddNetwork, AddTenant, Answer, Ask, Done, Event, Grant, IsProper, IsStep, IsUnused, Replied, Settings, act, is_done, new_network, outcome}
use Rattle.wgr_model.proofs.CallLemmas.{step_is}
use Rattle.wgr_model.proofs.ExistLemmas.{rows_exist}
use Rattle.wgr_model.proofs.GatherLemmas.{gathered}
use Rattle.wgr_model.proofs.OrderLemmas.{order_is_no_account}
use Rattle.wgr_model.proofs.RowRunLemmas.{rows_consistent}
use Rattle.wgr_model.proofs.RunLemmas.{empty_consistent, same_itself, step_law}

-- ---- the register

-- 10.b.0.d
abbrev address : ℕ → ℕ → AddrValue
address b d = record { family = V4; number = 10 * 2 ^ 24 + b * 2 ^ 16 + d }

-- 192.168.4.d
abbrev home : ℕ → AddrValue
home d = record { family = V4; number = 192 * 2 ^ 24 + 168 * 2 ^ 16 + 4 * 2 ^ 8 + d }

abbrev route : PrefixValue
route = record { address = home 0; length = 24 }

abbrev key : ℕ → Key
key n = record { 0 = replicate 32 n }

abbrev settings : ℕ → ℕ → Settings
settings b port = record { pool = record { address = address b 0; length = 24 }; host = codes "vpn.example.net"; port = port; server = key 9; capacity = 4096 }

abbrev peer : ℕ → ℕ → AddrValue → ℕ → Peer
peer number k at until = record { number = number; key = key k; label = []; address = at; second = None; until = until; keepalive = 0; status = None }

-- acme's network
abbrev office : ℕ → List Peer → Routes → NetworkEntry
office next peers routes = record { id = 3; tenant = 1; name = codes "office"; network = record (new_network (settings 8 51820)) { next = next; peers = peers; routes = routes } }

-- and bolt's
abbrev lab : ℕ → List Peer → NetworkEntry
lab next peers = record { id = 4; tenant = 2; name = codes "lab"; network = record (new_network (settings 9 51821)) { next = next; peers = peers } }

abbrev acme : Tenant
acme = record { id = 1; name = codes "acme" }

abbrev bolt : Tenant
bolt = record { id = 2; name = codes "bolt" }

abbrev token : ℕ → Token
token id = record { digest = replicate 32 id; tenant = id }

abbrev house : List NetworkEntry → Register
house networks = record { tenants = bolt ∷ acme ∷ []; tokens = token 2 ∷ token 1 ∷ []; readers = []; networks = networks }

-- peer 1 of acme's has the route, peer 2's lease ends at 100, and bolt's peer has the key of acme's first
abbrev full_house : Register
full_house = house (lab 2 (peer 1 1 (address 9 2) 0 ∷ []) ∷ office 3 (peer 1 1 (address 8 2) 0 ∷ peer 2 2 (address 8 3) 100 ∷ []) ((route, 1) ∷ []) ∷ [])

-- ---- it is what orders and requests leave of the empty one

abbrev add : ℕ → ℕ → Command
add k until = command.Add (key k) [] None until 0

is_digest : (id : ℕ) → id < 256 → IsDigest (replicate 32 id)
is_digest id small = record { long = refl; bytes = recursion_from_All (λ b. b < 256) (replicate 32 id) (All-replicate (λ b. b < 256) 32 id small) }

no_label : IsLabel []
no_label = record { short = omega arith; printable = All-nil (λ b. (32 ≤ b) × (b ≤ 126)) }

-- one event more
left : (r s : Register) (e : Event) (answer : Answer) (new : ℕ) → IsConsistent r → IsProper e → (is_done answer ≡ true → IsUnused r e new) → outcome r e new ≡ (answer, s) → IsConsistent s
left r s e answer new good proper unused is = (step_law r s e answer good proper (step_is r s e new (answer, s) is unused (same_itself s))).consistent

with_tenants : IsConsistent (record empty_register { tenants = bolt ∷ acme ∷ [] })
unfolding is_same
with_tenants = left (record empty_register { tenants = acme ∷ [] }) (record empty_register { tenants = bolt ∷ acme ∷ [] }) (AddTenant (codes "bolt")) Done 2
    (left empty_register (record empty_register { tenants = acme ∷ [] }) (AddTenant (codes "acme")) Done 1 empty_consistent refl (λ _. ((omega arith, omega arith), refl)) refl)
    refl (λ _. ((omega arith, omega arith), refl)) refl

with_tokens : IsConsistent (house [])
unfolding is_same
with_tokens = left (record (house []) { tokens = token 1 ∷ [] }) (house []) (Grant (codes "bolt") (replicate 32 2) Full) Done 0
    (left (record (house []) { tokens = [] }) (record (house []) { tokens = token 1 ∷ [] }) (Grant (codes "acme") (replicate 32 1) Full) Done 0 with_tenants (is_digest 1 (omega arith)) (λ _. tt) refl)
    (is_digest 2 (omega arith)) (λ _. tt) refl

with_office : IsConsistent (house (office 1 [] [] ∷ []))
unfolding is_same is_pool overlaps
with_office = left (house []) (house (office 1 [] [] ∷ [])) (AddNetwork (codes "acme") (codes "office") (settings 8 51820)) Done 3 with_tokens
    (refl, ((codes "vpn.example.net", refl), (omega arith, omega arith), (omega arith, omega arith), refl)) (λ _. ((omega arith, omega arith), refl)) refl

with_lab : IsConsistent (house (lab 1 [] ∷ office 1 [] [] ∷ []))
unfolding is_same is_pool overlaps
with_lab = left (house (office 1 [] [] ∷ [])) (house (lab 1 [] ∷ office 1 [] [] ∷ [])) (AddNetwork (codes "bolt") (codes "lab") (settings 9 51821)) Done 4 with_office
    (refl, ((codes "vpn.example.net", refl), (omega arith, omega arith), (omega arith, omega arith), refl)) (λ _. ((omega arith, omega arith), refl)) refl

asked : (r s : Register) (id : ℕ) (name : Bytes) (now : ℕ) (command : Command) (answer : Answer) → IsConsistent r → IsProper (Ask (replicate 32 id) name now command) → outcome r (Ask (replicate 32 id) name now command) 0 ≡ (answer, s) → IsConsistent s
asked r s id name now command answer good proper is = left r s (Ask (replicate 32 id) name now command) answer 0 good proper (λ _. tt) is

abbrev added : Peer → NetworkValue → Answer
added p network = Replied (reply.Peer (record { peer = p; routes = [] })) network

abbrev with_one : Register
with_one = house (lab 1 [] ∷ office 2 (peer 1 1 (address 8 2) 0 ∷ []) [] ∷ [])

with_one_good : IsConsistent with_one
unfolding is_same act
with_one_good = asked (house (lab 1 [] ∷ office 1 [] [] ∷ [])) with_one 1 (codes "office") 0 (add 1 0) (added (peer 1 1 (address 8 2) 0) (office 2 (peer 1 1 (address 8 2) 0 ∷ []) []).network) with_lab
    (tt, (refl, no_label, omega arith, omega arith)) refl

abbrev with_two : Register
with_two = house (lab 1 [] ∷ office 3 (peer 1 1 (address 8 2) 0 ∷ peer 2 2 (address 8 3) 100 ∷ []) [] ∷ [])

with_two_good : IsConsistent with_two
unfolding is_same act
with_two_good = asked with_one with_two 1 (codes "office") 0 (add 2 100) (added (peer 2 2 (address 8 3) 100) (office 3 (peer 1 1 (address 8 2) 0 ∷ peer 2 2 (address 8 3) 100 ∷ []) []).network) with_one_good
    (tt, (refl, no_label, omega arith, omega arith)) refl

-- acme's network as it is from then on
abbrev acmes : NetworkEntry
acmes = office 3 (peer 1 1 (address 8 2) 0 ∷ peer 2 2 (address 8 3) 100 ∷ []) ((route, 1) ∷ [])

with_route_good : IsConsistent (house (lab 1 [] ∷ acmes ∷ []))
unfolding is_same act
with_route_good = asked with_two (house (lab 1 [] ∷ acmes ∷ [])) 1 (codes "office") 0 (command.Route 1 route) (Replied (reply.Peer (record { peer = peer 1 1 (address 8 2) 0; routes = route ∷ [] })) acmes.network) with_two_good
    ((omega arith, (omega arith, refl)), tt) refl

full_house_good : IsConsistent full_house
unfolding is_same act
full_house_good = asked (house (lab 1 [] ∷ acmes ∷ [])) full_house 2 (codes "lab") 0 (add 1 0) (added (peer 1 1 (address 9 2) 0) (lab 2 (peer 1 1 (address 9 2) 0 ∷ [])).network) with_route_good
    (tt, (refl, no_label, omega arith, omega arith)) refl

-- ---- its rows

abbrev network_row : ℕ → ℕ → Bytes → ℕ → ℕ → ℕ → NetworkRow
network_row id tenant name b port next = record { id = id; tenant = tenant; name = name; pool = record { address = address b 0; length = 24 }; host = codes "vpn.example.net"; port = port; server = key 9; capacity = 4096; next = next }

abbrev peer_row : ℕ → ℕ → ℕ → ℕ → PeerRow
peer_row id network k until = record { id = id; network = network; key = key k; label = []; until = until; keepalive = 0; status = None }

-- an address stands at full length, and is its own last one
abbrev address_row : ℕ → AddrValue → ℕ → AllowedRow
address_row network at peer = record { network = network; prefix = record { address = at; length = 32 }; last = at; peer = peer; is_route = false }

-- a peer's id is its network's times 2 ^ 20, and its number
abbrev rows : Tables
rows = record {
  meta = record { version = 3 } ∷ [];
  tenants = bolt ∷ acme ∷ [];
  tokens = token 2 ∷ token 1 ∷ [];
  networks = network_row 4 2 (codes "lab") 9 51821 2 ∷ network_row 3 1 (codes "office") 8 51820 3 ∷ [];
  seconds = [];
  readers = [];
  peers = peer_row 4194305 4 1 0 ∷ peer_row 3145729 3 1 0 ∷ peer_row 3145730 3 2 100 ∷ [];
  allowed = address_row 4 (address 9 2) 4194305
      ∷ address_row 3 (address 8 2) 3145729
      ∷ address_row 3 (address 8 3) 3145730
      ∷ record { network = 3; prefix = route; last = home 255; peer = 3145729; is_route = true }
      ∷ [];
}

are_rows : AreRowsOf full_house rows
are_rows = rows_exist full_house full_house_good

rows_are_consistent : AreConsistent rows
rows_are_consistent = rows_consistent full_house rows are_rows full_house_good

-- they are read back as the register
read_back : IsSame full_house (register_of rows)
read_back = gathered full_house rows are_rows full_house_good

-- ---- steps on them

-- what is a step of the register is one of its rows
on_rows : (e : Event) (answer : Answer) (s : Register) → IsProper e → IsStep full_house e answer s → IsRowStep rows e answer (rows_of s)
on_rows e answer s proper step = record {
  after = s;
  step = order_is_no_account full_house (register_of rows) e answer s read_back full_house_good step;
  rows = rows_exist s (step_law full_house s e answer full_house_good proper step).consistent;
}

-- acme sees the peer whose lease is over no more, and no row changes
listing : IsRowStep rows (Ask (replicate 32 1) (codes "office") 100 command.List) (Replied (reply.List (record { peer = peer 1 1 (address 8 2) 0; routes = route ∷ [] } ∷ [])) acmes.network) rows
unfolding is_same act
listing =
    let answer = Replied (reply.List (record { peer = peer 1 1 (address 8 2) 0; routes = route ∷ [] } ∷ [])) acmes.network in
    on_rows (Ask (replicate 32 1) (codes "office") 100 command.List) answer full_house (tt, tt) (step_is full_house full_house (Ask (replicate 32 1) (codes "office") 100 command.List) 0 (answer, full_house) refl (λ _. tt) (same_itself full_house))

-- the next peer takes its address, and its rows are gone; those of bolt's stay
abbrev later : NetworkEntry
later = office 4 (peer 1 1 (address 8 2) 0 ∷ peer 3 3 (address 8 3) 0 ∷ []) ((route, 1) ∷ [])

abbrev later_rows : Tables
later_rows = record rows {
  networks = network_row 4 2 (codes "lab") 9 51821 2 ∷ network_row 3 1 (codes "office") 8 51820 4 ∷ [];
  peers = peer_row 4194305 4 1 0 ∷ peer_row 3145729 3 1 0 ∷ peer_row 3145731 3 3 0 ∷ [];
  allowed = address_row 4 (address 9 2) 4194305
      ∷ address_row 3 (address 8 2) 3145729
      ∷ address_row 3 (address 8 3) 3145731
      ∷ record { network = 3; prefix = route; last = home 255; peer = 3145729; is_route = true }
      ∷ [];
}

adding : IsRowStep rows (Ask (replicate 32 1) (codes "office") 100 (add 3 0)) (added (peer 3 3 (address 8 3) 0) later.network) later_rows
unfolding is_same act
adding =
    let s : Register = house (lab 2 (peer 1 1 (address 9 2) 0 ∷ []) ∷ later ∷ []) in
    let answer = added (peer 3 3 (address 8 3) 0) later.network in
    on_rows (Ask (replicate 32 1) (codes "office") 100 (add 3 0)) answer s (tt, (refl, no_label, omega arith, omega arith)) (step_is full_house s (Ask (replicate 32 1) (codes "office") 100 (add 3 0)) 0 (answer, s) refl (λ _. tt) (same_itself s))

-- a second token of bolt's, which only reads: a row more of each kind, and every other row stays
reader_granted : IsRowStep rows (Grant (codes "bolt") (replicate 32 3) Read) Done (record rows { tokens = record { digest = replicate 32 3; tenant = 2 } ∷ token 2 ∷ token 1 ∷ []; readers = replicate 32 3 ∷ [] })
unfolding is_same
reader_granted =
    let s : Register = record full_house { tokens = record { digest = replicate 32 3; tenant = 2 } ∷ token 2 ∷ token 1 ∷ []; readers = replicate 32 3 ∷ [] } in
    on_rows (Grant (codes "bolt") (replicate 32 3) Read) Done s (is_digest 3 (omega arith)) (step_is full_house s (Grant (codes "bolt") (replicate 32 3) Read) 0 (Done, s) refl (λ _. tt) (same_itself s))
