-- The definitions on a small register, by computation.
use Rattle.std.proofs.Common.{◌≡◌, ℕ, ◌+◌, ◌*◌, ◌^◌, ◌≤◌, ◌<◌, Bool, true, false, not, List, [], ◌∷◌, length, refl, ap, ◌∙◌, arith, Option, None, Some, nat_lt}
use Rattle.std.specs.Prelude.{replicate, codes}
use Rattle.std.specs.FinMap as map_
use Rattle.std.proofs.lemmas.Bool.Decides.{nat_tests}
use Rattle.wgr_text.specs.declared.addr.Family.TheVariants.{V4}
use Rattle.wgr_text.specs.Prefix.{AddrValue, PrefixValue}
use Rattle.wgr_text.specs.declared.key.Key.{Key}
use Rattle.wgr_peers.specs.declared.peer.Peer.{Peer}
use Rattle.wgr_core.specs.declared.command.Command.{Command}
use Rattle.wgr_core.specs.declared.command.Command.TheVariants as command
use Rattle.wgr_core.specs.declared.form.Form.{Form}
use Rattle.wgr_core.specs.declared.reply.Reply.TheVariants as reply
use Rattle.wgr_core.specs.declared.seen_peer.SeenPeer.{SeenPeer}
use Rattle.wgr_core.specs.Network.{NetworkValue}
use Rattle.wgr_model.specs.declared.right.Right.{Right}
use Rattle.wgr_model.specs.declared.right.Right.TheVariants.{Full, Read}
use Rattle.wgr_model.specs.Register.{Bytes, Register, id_of, is_same, tenant_view}
use Rattle.wgr_model.specs.Consistent.{has_digest, is_pool, overlaps}
use Rattle.wgr_model.specs.Steps.{Event, Answer, Settings, act, allows, first_refusal, given, has_endpoint, has_name, has_slot, granted, network_added, new_network, outcome, overlapping, pool_refusal, refuse, with_new_network, with_tenant, with_token}
use Rattle.wgr_model.specs.Steps.{Ask, Networks, AddTenant, Grant, EndToken, AddNetwork, EndNetwork}
use Rattle.wgr_model.specs.Steps.{Replied, UnknownToken, ReadOnly, NoSuchNetwork, Done, Refused}
use Rattle.wgr_model.specs.Steps.{NameHeld, NoSuchTenant, DigestHeld, PoolOverlaps, BadPool, PortHeld, NoSuchToken, NoNetwork, RegisterFull}
use Rattle.wgr_model.proofs.ViewLemmas.{get_view, right_view}

abbrev ten_eight : ℕ → ℕ → ℕ → PrefixValue
ten_eight c d length = record { address = record { family = V4; number = 10 * 2 ^ 24 + 8 * 2 ^ 16 + c * 2 ^ 8 + d }; length = length }

abbrev at_port : PrefixValue → ℕ → Settings
at_port pool port = record { pool = pool; host = codes "vpn.example.net"; port = port; server = record { 0 = replicate 32 9 }; capacity = 4096 }

-- the same on another host
abbrev elsewhere : PrefixValue → ℕ → Settings
elsewhere pool port = record (at_port pool port) { host = codes "office.example.net" }

abbrev lab : NetworkValue
lab = new_network (at_port (ten_eight 0 0 25) 51820)

-- acme and bolt have a token and a network each, cato has none; bolt's network stands first, and acme
-- has a second token, which only reads
abbrev house : Register
house = record {
  tenants = record { id = 3; name = codes "cato" } ∷ record { id = 2; name = codes "bolt" } ∷ record { id = 1; name = codes "acme" } ∷ [];
  tokens = record { digest = replicate 32 4; tenant = 1 } ∷ record { digest = replicate 32 2; tenant = 2 } ∷ record { digest = replicate 32 1; tenant = 1 } ∷ [];
  readers = replicate 32 4 ∷ [];
  networks = record { id = 5; tenant = 2; name = codes "a"; network = new_network (at_port (ten_eight 0 128 25) 51821) }
      ∷ record { id = 4; tenant = 1; name = codes "lab"; network = lab } ∷ [];
}

abbrev answer : Event → Answer
answer event = (outcome house event 6).0

-- ---- requests

-- acme's token lists the peers of acme's network
own_network : answer (Ask (replicate 32 1) (codes "lab") 0 command.List) ≡ Replied (reply.List []) lab
unfolding is_same act
own_network = refl

-- an unknown network and bolt's network give acme one answer
unknown_network : answer (Ask (replicate 32 1) (codes "b") 0 command.List) ≡ NoSuchNetwork
unfolding is_same
unknown_network = refl

foreign_network : answer (Ask (replicate 32 1) (codes "a") 0 command.List) ≡ NoSuchNetwork
unfolding is_same
foreign_network = refl

-- a token that nobody has
stranger : answer (Ask (replicate 32 3) (codes "lab") 0 command.List) ≡ UnknownToken
unfolding is_same
stranger = refl

strangers_list : answer (Networks (replicate 32 3)) ≡ UnknownToken
unfolding is_same
strangers_list = refl

-- a token that ended is nobody's
ended_token : (outcome (outcome house (EndToken (replicate 32 1)) 6).1 (Networks (replicate 32 1)) 6).0 ≡ UnknownToken
unfolding is_same
ended_token = refl

-- acme sees its network by name
own_view : map_.get (tenant_view house (codes "acme")).networks (codes "lab") ≡ Some lab
unfolding is_same
own_view = get_view house 1 (codes "lab")

-- each of its tokens has its right
own_rights : map_.get (tenant_view house (codes "acme")).rights (replicate 32 1) ≡ Some Full
unfolding is_same
own_rights = right_view house 1 (replicate 32 1)

reading_right : map_.get (tenant_view house (codes "acme")).rights (replicate 32 4) ≡ Some Read
unfolding is_same
reading_right = right_view house 1 (replicate 32 4)

-- ---- a token that only reads: of two checks that fail, the earlier one is told

abbrev key : ℕ → Key
key n = record { 0 = replicate 32 n }

-- a command that changes
abbrev add : Command
add = command.Add (key 5) [] None 0 0

abbrev peer : ℕ → ℕ → Peer
peer n until = record { number = 1; key = key n; label = []; address = (ten_eight 0 2 25).address; second = None; until = until; keepalive = 0; status = None }

-- what it may ask: no command that changes, whatever its fields
no_add : (key : Key) (label : Bytes) (wanted : Option AddrValue) (until keepalive : ℕ) → allows Read (command.Add key label wanted until keepalive) ≡ false
no_add key label wanted until keepalive = refl

no_move : (number : ℕ) (wanted : Option AddrValue) → allows Read (command.Move number wanted) ≡ false
no_move number wanted = refl

no_revoke : (number : ℕ) → allows Read (command.Revoke number) ≡ false
no_revoke number = refl

no_route : (number : ℕ) (prefix : PrefixValue) → allows Read (command.Route number prefix) ≡ false
no_route number prefix = refl

no_unroute : (prefix : PrefixValue) → allows Read (command.Unroute prefix) ≡ false
no_unroute prefix = refl

no_renew : (number until : ℕ) → allows Read (command.Renew number until) ≡ false
no_renew number until = refl

no_adopt : (server : Option Key) (lines : List SeenPeer) → allows Read (command.Adopt server lines) ≡ false
no_adopt server lines = refl

-- and each other one
may_list : allows Read command.List ≡ true
may_list = refl

may_ask_owner : (address : AddrValue) → allows Read (command.Owner address) ≡ true
may_ask_owner address = refl

may_have_files : (number : ℕ) (form : Form) → (allows Read (command.ServerFile form) ≡ true) × (allows Read (command.PeerFile number form) ≡ true)
may_have_files number form = (refl, refl)

-- it lists the peers of acme's network as the other token does
reader_lists : answer (Ask (replicate 32 4) (codes "lab") 0 command.List) ≡ Replied (reply.List []) lab
unfolding is_same act
reader_lists = refl

reader_sees_networks : answer (Networks (replicate 32 4)) ≡ answer (Networks (replicate 32 1))
unfolding is_same
reader_sees_networks = refl

-- a token that nobody has, and a command that changes
stranger_changes : answer (Ask (replicate 32 3) (codes "lab") 0 add) ≡ UnknownToken
unfolding is_same
stranger_changes = refl

-- the right is asked before the network is looked for: a change, of no network, of bolt's, and of a
-- peer that isn't there
reader_before_network : answer (Ask (replicate 32 4) (codes "b") 0 add) ≡ ReadOnly
unfolding is_same
reader_before_network = refl

reader_of_foreign_network : answer (Ask (replicate 32 4) (codes "a") 0 add) ≡ ReadOnly
unfolding is_same
reader_of_foreign_network = refl

reader_before_peer : answer (Ask (replicate 32 4) (codes "lab") 0 (command.Revoke 9)) ≡ ReadOnly
unfolding is_same
reader_before_peer = refl

-- a reading of a network that isn't there
reader_of_unknown_network : answer (Ask (replicate 32 4) (codes "b") 0 command.List) ≡ NoSuchNetwork
unfolding is_same
reader_of_unknown_network = refl

-- acme's network with a peer whose lease ends at 100
abbrev leased : Register
leased = record house {
  networks = record { id = 5; tenant = 2; name = codes "a"; network = new_network (at_port (ten_eight 0 128 25) 51821) }
      ∷ record { id = 4; tenant = 1; name = codes "lab"; network = record lab { next = 2; peers = peer 6 100 ∷ [] } }
      ∷ [];
}

-- a change of its own network: nothing changes, and the peer whose lease is over is still there
reader_changes_nothing : outcome leased (Ask (replicate 32 4) (codes "lab") 100 add) 6 ≡ (ReadOnly, leased)
unfolding is_same act
reader_changes_nothing = refl

-- with the full right the new peer has its address
full_right_changes : (outcome leased (Ask (replicate 32 1) (codes "lab") 100 add) 6).0 ≡ Replied (reply.Peer (record { peer = record (peer 5 0) { number = 2 }; routes = [] })) (record lab { next = 3; peers = record (peer 5 0) { number = 2 } ∷ [] })
unfolding is_same act
full_right_changes = refl

-- a digest that is held has its right until the token ends
right_is_held : answer (Grant (codes "acme") (replicate 32 4) Full) ≡ Refused DigestHeld
unfolding is_same
right_is_held = refl

right_of_full_is_held : answer (Grant (codes "acme") (replicate 32 1) Read) ≡ Refused DigestHeld
unfolding is_same
right_of_full_is_held = refl

-- then it can be granted again with the other right
abbrev again : Register
again = (outcome (outcome house (EndToken (replicate 32 4)) 6).1 (Grant (codes "acme") (replicate 32 4) Full) 6).1

granted_again : (outcome again (Ask (replicate 32 4) (codes "lab") 0 add) 6).0 ≡ Replied (reply.Peer (record { peer = peer 5 0; routes = [] })) (record lab { next = 2; peers = peer 5 0 ∷ [] })
unfolding is_same act
granted_again = refl

-- and a new token that only reads changes nothing
new_reader : (outcome (outcome house (Grant (codes "bolt") (replicate 32 3) Read) 6).1 (Ask (replicate 32 3) (codes "a") 0 add) 6).0 ≡ ReadOnly
unfolding is_same
new_reader = refl

-- ---- orders

name_held : answer (AddTenant (codes "acme")) ≡ Refused NameHeld
unfolding is_same
name_held = refl

new_tenant : answer (AddTenant (codes "dora")) ≡ Done
unfolding is_same
new_tenant = refl

no_such_tenant : answer (Grant (codes "nobody") (replicate 32 3) Full) ≡ Refused NoSuchTenant
unfolding is_same
no_such_tenant = refl

digest_held : answer (Grant (codes "bolt") (replicate 32 1) Full) ≡ Refused DigestHeld
unfolding is_same
digest_held = refl

-- the tenant is looked for before the token
tenant_before_digest : answer (Grant (codes "nobody") (replicate 32 1) Read) ≡ Refused NoSuchTenant
unfolding is_same
tenant_before_digest = refl

no_such_token : answer (EndToken (replicate 32 3)) ≡ Refused NoSuchToken
unfolding is_same
no_such_token = refl

-- of two pools that overlap, the first one by the tenant's name is named
pool_overlaps : answer (AddNetwork (codes "cato") (codes "office") (at_port (ten_eight 0 0 24) 1)) ≡ Refused (PoolOverlaps (codes "acme") (codes "lab"))
unfolding is_same is_pool overlaps
pool_overlaps = refl

upper_overlaps : answer (AddNetwork (codes "acme") (codes "office") (at_port (ten_eight 0 192 26) 1)) ≡ Refused (PoolOverlaps (codes "bolt") (codes "a"))
unfolding is_same is_pool overlaps
upper_overlaps = refl

-- host bits, and a length that no pool has
host_bits : answer (AddNetwork (codes "cato") (codes "office") (at_port (ten_eight 1 1 24) 1)) ≡ Refused BadPool
unfolding is_same is_pool overlaps
host_bits = refl

too_long : answer (AddNetwork (codes "cato") (codes "office") (at_port (ten_eight 1 0 31) 1)) ≡ Refused BadPool
unfolding is_same is_pool overlaps
too_long = refl

-- Of two checks that fail, the earlier one is told: here and for a register that is full (below) for
-- each two that stand side by side and can both fail. The tenant comes before the pool; without it
-- there is no name that could be held.
tenant_before_pool : answer (AddNetwork (codes "nobody") (codes "lab") (at_port (ten_eight 0 1 24) 51820)) ≡ Refused NoSuchTenant
unfolding is_same is_pool overlaps
tenant_before_pool = refl

-- 10.8.0.1/24 has host bits, and addresses in common with two pools
bits_and_overlap : pool_refusal (overlapping house.tenants house.networks (ten_eight 0 1 24)) ≡ Some (PoolOverlaps (codes "acme") (codes "lab"))
unfolding is_same overlaps
bits_and_overlap = refl

pool_before_overlap : answer (AddNetwork (codes "cato") (codes "office") (at_port (ten_eight 0 1 24) 51820)) ≡ Refused BadPool
unfolding is_same is_pool overlaps
pool_before_overlap = refl

overlap_before_port : answer (AddNetwork (codes "cato") (codes "office") (at_port (ten_eight 0 0 24) 51820)) ≡ Refused (PoolOverlaps (codes "acme") (codes "lab"))
unfolding is_same is_pool overlaps
overlap_before_port = refl

-- the name is looked at before the pool
name_before_pool : answer (AddNetwork (codes "acme") (codes "lab") (at_port (ten_eight 0 1 24) 1)) ≡ Refused NameHeld
unfolding is_same is_pool overlaps
name_before_pool = refl

port_held : answer (AddNetwork (codes "cato") (codes "lab") (at_port (ten_eight 1 0 24) 51820)) ≡ Refused PortHeld
unfolding is_same is_pool overlaps
port_held = refl

-- an endpoint is a host and a port: the port of another host is free, and so is another port
port_elsewhere : answer (AddNetwork (codes "cato") (codes "lab") (elsewhere (ten_eight 1 0 24) 51820)) ≡ Done
unfolding is_same is_pool overlaps
port_elsewhere = refl

new_network_done : answer (AddNetwork (codes "cato") (codes "lab") (at_port (ten_eight 1 0 24) 1)) ≡ Done
unfolding is_same is_pool overlaps
new_network_done = refl

-- a new network with a host, a server key and a capacity of its own
abbrev small : Settings
small = record { pool = ten_eight 1 0 24; host = codes "office.example.net"; port = 51820; server = record { 0 = replicate 32 7 }; capacity = 100 }

small_network : (outcome house (AddNetwork (codes "cato") (codes "lab") small) 6).1.networks
    ≡ record { id = 6; tenant = 3; name = codes "lab"; network = record { pool = ten_eight 1 0 24; host = codes "office.example.net"; port = 51820; server = record { 0 = replicate 32 7 }; capacity = 100; next = 1; peers = []; routes = [] } } ∷ house.networks
unfolding is_same is_pool overlaps
small_network = refl

nobodys_network : answer (EndNetwork (codes "nobody") (codes "lab")) ≡ Refused NoSuchTenant
unfolding is_same
nobodys_network = refl

no_network : answer (EndNetwork (codes "acme") (codes "a")) ≡ Refused NoNetwork
unfolding is_same
no_network = refl

-- the pool of a network that ended can be given again
pool_given_again : (outcome (outcome house (EndNetwork (codes "acme") (codes "lab")) 6).1 (AddNetwork (codes "cato") (codes "lab") (at_port (ten_eight 0 0 25) 51820)) 6).0 ≡ Done
unfolding is_same is_pool overlaps
pool_given_again = refl

-- ---- a register with many entries, whichever they are

fills : (n : ℕ) → 65536 ≤ n → nat_lt n 65536 ≡ false
fills n many = grind (arith, nat_tests, many)

leaves_room : (n : ℕ) → n < 65536 → nat_lt n 65536 ≡ true
leaves_room n few = grind (arith, nat_tests, few)

-- there is room for 65,536 tenants, and a name that is held is told before that there is none
abbrev tenant_answer : Register → Bytes → ℕ → Bool → Bool → Answer
tenant_answer r name new held room = (given (first_refusal (refuse held NameHeld ∷ refuse (not room) RegisterFull ∷ [])) r (with_tenant r name new)).0

register_full : (r : Register) (name : Bytes) (new : ℕ) → 65536 ≤ length r.tenants → has_name r.tenants name ≡ false → (outcome r (AddTenant name) new).0 ≡ Refused RegisterFull
register_full r name new many free =
    ap (λ b. tenant_answer r name new b (nat_lt (length r.tenants) 65536)) free ∙ ap (tenant_answer r name new false) (fills (length r.tenants) many)

tenant_taken : (r : Register) (name : Bytes) (new : ℕ) → length r.tenants < 65536 → has_name r.tenants name ≡ false → (outcome r (AddTenant name) new).0 ≡ Done
tenant_taken r name new few free =
    ap (λ b. tenant_answer r name new b (nat_lt (length r.tenants) 65536)) free ∙ ap (tenant_answer r name new false) (leaves_room (length r.tenants) few)

held_name_told : (r : Register) (name : Bytes) (new : ℕ) → has_name r.tenants name ≡ true → (outcome r (AddTenant name) new).0 ≡ Refused NameHeld
held_name_told r name new held = ap (λ b. tenant_answer r name new b (nat_lt (length r.tenants) 65536)) held

-- there is room for 65,536 tokens
abbrev token_answer : Register → Bytes → ℕ → Right → Bool → Bool → Answer
token_answer r digest id right held room = (given (first_refusal (refuse held DigestHeld ∷ refuse (not room) RegisterFull ∷ [])) r (with_token r digest id right)).0

tokens_full : (r : Register) (tenant digest : Bytes) (right : Right) (id new : ℕ) → 65536 ≤ length r.tokens → id_of r.tenants tenant ≡ Some id → has_digest r.tokens digest ≡ false → (outcome r (Grant tenant digest right) new).0 ≡ Refused RegisterFull
tokens_full r tenant digest right id new many known free =
    ap (λ o. (granted r digest right o).0) known
    ∙ ap (λ b. token_answer r digest id right b (nat_lt (length r.tokens) 65536)) free
    ∙ ap (token_answer r digest id right false) (fills (length r.tokens) many)

-- a digest that is held is told before that there is none
held_digest_told : (r : Register) (tenant digest : Bytes) (right : Right) (id new : ℕ) → id_of r.tenants tenant ≡ Some id → has_digest r.tokens digest ≡ true → (outcome r (Grant tenant digest right) new).0 ≡ Refused DigestHeld
held_digest_told r tenant digest right id new known held =
    ap (λ o. (granted r digest right o).0) known
    ∙ ap (λ b. token_answer r digest id right b (nat_lt (length r.tokens) 65536)) held

token_taken : (r : Register) (tenant digest : Bytes) (right : Right) (id new : ℕ) → length r.tokens < 65536 → id_of r.tenants tenant ≡ Some id → has_digest r.tokens digest ≡ false → (outcome r (Grant tenant digest right) new).0 ≡ Done
token_taken r tenant digest right id new few known free =
    ap (λ o. (granted r digest right o).0) known
    ∙ ap (λ b. token_answer r digest id right b (nat_lt (length r.tokens) 65536)) free
    ∙ ap (token_answer r digest id right false) (leaves_room (length r.tokens) few)

-- there is room for 65,536 networks, and an endpoint that is held is told before that there is none
record NetworkMayCome (r : Register) (tenant name : Bytes) (s : Settings) (id : ℕ) : Type 0 where
  known : id_of r.tenants tenant ≡ Some id
  free : has_slot r.networks id name ≡ false
  fits : is_pool s.pool ≡ true
  apart : overlapping r.tenants r.networks s.pool ≡ []

abbrev network_answer : Register → Bytes → Settings → ℕ → ℕ → Bool → Bool → List (Bytes × Bytes) → Bool → Bool → Answer
network_answer r name s id new held fits overlapped taken room = (given (first_refusal (refuse held NameHeld ∷ refuse (not fits) BadPool ∷ pool_refusal overlapped ∷ refuse taken PortHeld ∷ refuse (not room) RegisterFull ∷ [])) r (with_new_network r new id name (new_network s))).0

network_judged : (r : Register) (tenant name : Bytes) (s : Settings) (id new : ℕ) → NetworkMayCome r tenant name s id
    → (outcome r (AddNetwork tenant name s) new).0 ≡ network_answer r name s id new false true [] (has_endpoint r.networks (s.host, s.port)) (nat_lt (length r.networks) 65536)
network_judged r tenant name s id new may =
    let taken : Bool = has_endpoint r.networks (s.host, s.port) in
    let room : Bool = nat_lt (length r.networks) 65536 in
    let others : List (Bytes × Bytes) = overlapping r.tenants r.networks s.pool in
    ap (λ o. (network_added r name s new o).0) may.known
    ∙ ap (λ b. network_answer r name s id new b (is_pool s.pool) others taken room) may.free
    ∙ ap (λ b. network_answer r name s id new false b others taken room) may.fits
    ∙ ap (λ ps. network_answer r name s id new false true ps taken room) may.apart

networks_full : (r : Register) (tenant name : Bytes) (s : Settings) (id new : ℕ) → NetworkMayCome r tenant name s id → 65536 ≤ length r.networks → has_endpoint r.networks (s.host, s.port) ≡ false → (outcome r (AddNetwork tenant name s) new).0 ≡ Refused RegisterFull
networks_full r tenant name s id new may many vacant =
    network_judged r tenant name s id new may
    ∙ ap (λ b. network_answer r name s id new false true [] b (nat_lt (length r.networks) 65536)) vacant
    ∙ ap (network_answer r name s id new false true [] false) (fills (length r.networks) many)

network_taken : (r : Register) (tenant name : Bytes) (s : Settings) (id new : ℕ) → NetworkMayCome r tenant name s id → length r.networks < 65536 → has_endpoint r.networks (s.host, s.port) ≡ false → (outcome r (AddNetwork tenant name s) new).0 ≡ Done
network_taken r tenant name s id new may few vacant =
    network_judged r tenant name s id new may
    ∙ ap (λ b. network_answer r name s id new false true [] b (nat_lt (length r.networks) 65536)) vacant
    ∙ ap (network_answer r name s id new false true [] false) (leaves_room (length r.networks) few)

held_endpoint_told : (r : Register) (tenant name : Bytes) (s : Settings) (id new : ℕ) → NetworkMayCome r tenant name s id → has_endpoint r.networks (s.host, s.port) ≡ true → (outcome r (AddNetwork tenant name s) new).0 ≡ Refused PortHeld
held_endpoint_told r tenant name s id new may held =
    network_judged r tenant name s id new may
    ∙ ap (λ b. network_answer r name s id new false true [] b (nat_lt (length r.networks) 65536)) held
