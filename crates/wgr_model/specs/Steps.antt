-- What one event does to a register, and what is answered.
use Rattle.std.specs.Prelude.{◌≡◌, ℕ, Bool, true, false, not, ◌&&◌, if◌then◌else◌, nat_eq, nat_lt, List, [], ◌∷◌, length, map, Option, Some, None, Result, Ok, Err, ⊤}
use Rattle.std.specs.List.{filter, list_any}
use Rattle.std.specs.Ordering.{nat_cmp, ordering_then, is_lt}
use Rattle.std.specs.Cmp.Lexicographic.{slice_cmp}
use Rattle.std.specs.FinMap as map_
use Rattle.wgr_text.specs.declared.key.Key.{Key}
use Rattle.wgr_text.specs.Prefix.{PrefixValue}
use Rattle.wgr_peers.specs.Host.{IsHost}
use Rattle.wgr_peers.specs.Limits.{IsPort, IsCapacity}
use Rattle.wgr_core.specs.declared.command.Command.{Command}
use Rattle.wgr_core.specs.declared.refusal.CommandRefusal.{CommandRefusal}
use Rattle.wgr_core.specs.declared.reply.Reply.{Reply}
use Rattle.wgr_core.specs.Network.{NetworkValue}
use Rattle.wgr_core.specs.Outcome.{IsAsked, is_reading, outcome_of}
use Rattle.wgr_core.specs.Forms.{IsFormedCommand, IsKey}
use Rattle.wgr_model.specs.declared.right.Right.{Right}
use Rattle.wgr_model.specs.declared.right.Right.TheVariants.{Full, Read}
use Rattle.wgr_model.specs.Register.{Bytes, Tenant, Token, NetworkEntry, Register, IsSame, id_of, is_same, right_of, view_at}
use Rattle.wgr_model.specs.Consistent.{IsDigest, IsId, IsName, endpoint, has_digest, has_tenant, is_pool, overlaps, same_endpoint, same_slot, slot, max_entries}

-- what a command gives on a network: a refusal, or a reply and the network after it
unfoldable pub act : NetworkValue → ℕ → Command → Result (Reply × NetworkValue) CommandRefusal
act n now command = outcome_of n now command

-- ---- events

-- the settings of a new network, which an operator chooses
pub record Settings : Type 0 where
  pub pool : PrefixValue
  pub host : Bytes
  pub port : ℕ
  pub server : Key
  pub capacity : ℕ

-- A request whose bytes alone decide its reply, with the digest of its token where it has one; two
-- other requests, each with the digest of its token: a command to a network of this name at this
-- moment, and the list of networks; and the operator's orders.
pub data Event : Type 0 where
  Decided : (digest : Option Bytes) (reply : Bytes) → Event
  Ask : (digest name : Bytes) (now : ℕ) (command : Command) → Event
  Networks : (digest : Bytes) → Event
  AddTenant : (name : Bytes) → Event
  Grant : (tenant digest : Bytes) (right : Right) → Event
  EndToken : (digest : Bytes) → Event
  AddNetwork : (tenant name : Bytes) (settings : Settings) → Event
  EndNetwork : (tenant name : Bytes) → Event

-- the fields have the forms that their types guarantee
abbrev pub IsProperCommand : Command → Type 0
IsProperCommand command = IsAsked command × IsFormedCommand command

abbrev pub IsProperSettings : Settings → Type 0
IsProperSettings s = IsHost s.host × IsPort s.port × IsCapacity s.capacity × IsKey s.server

abbrev pub IsProper : Event → Type 0
IsProper (Ask digest name now command) = IsProperCommand command
IsProper (AddTenant name) = IsName name
IsProper (Grant tenant digest right) = IsDigest digest
IsProper (AddNetwork tenant name settings) = IsName name × IsProperSettings settings
IsProper _ = ⊤

-- ---- answers

-- why an order is refused: `pool_overlaps` names the tenant and the network of a pool
pub data OrderRefusal : Type 0 where
  NameHeld : OrderRefusal
  NoSuchTenant : OrderRefusal
  DigestHeld : OrderRefusal
  PoolOverlaps : (tenant network : Bytes) → OrderRefusal
  BadPool : OrderRefusal
  PortHeld : OrderRefusal
  NoSuchToken : OrderRefusal
  NoNetwork : OrderRefusal
  RegisterFull : OrderRefusal

-- A reply that the bytes decided; what a command replies, with the network after it, from which
-- files are written; its refusal; a tenant's networks in the order of their names; no tenant with
-- the token, a token that only reads and a command that changes, or no network of the name; and an
-- order that is done, or its refusal.
pub data Answer : Type 0 where
  Plain : (reply : Bytes) → Answer
  Replied : (reply : Reply) (network : NetworkValue) → Answer
  Declined : (why : CommandRefusal) → Answer
  Listed : (networks : List (Bytes × NetworkValue)) → Answer
  UnknownToken : Answer
  ReadOnly : Answer
  NoSuchNetwork : Answer
  Done : Answer
  Refused : (why : OrderRefusal) → Answer

-- whether it is the answer to an order that was accepted
abbrev pub is_done : Answer → Bool
is_done Done = true
is_done _ = false

-- an answer, and the register after it
abbrev pub EventOutcome : Type 0
EventOutcome = Answer × Register

-- ---- requests

-- the id of the tenant that the token of this digest names
abbrev pub tenant_of_token : List Token → Bytes → Option ℕ
tenant_of_token [] digest = None
tenant_of_token (t ∷ ts) digest = if is_same digest t.digest then Some t.tenant else tenant_of_token ts digest

-- the network of this name that the tenant of this id has
abbrev pub network_at : List NetworkEntry → ℕ → Bytes → Option NetworkValue
network_at [] id name = None
network_at (h ∷ hs) id name = if nat_eq h.tenant id && is_same name h.name then Some h.network else network_at hs id name

-- the networks with this one in its place
abbrev pub with_network : List NetworkEntry → ℕ → Bytes → NetworkValue → List NetworkEntry
with_network [] id name n = []
with_network (h ∷ hs) id name n = if nat_eq h.tenant id && is_same name h.name then record h { network = n } ∷ hs else h ∷ with_network hs id name n

abbrev pub put_network : Register → ℕ → Bytes → NetworkValue → Register
put_network r id name n = record r { networks = with_network r.networks id name n }

abbrev pub acted : Register → ℕ → Bytes → Result (Reply × NetworkValue) CommandRefusal → EventOutcome
acted r id name (Err why) = (Declined why, r)
acted r id name (Ok done) = (Replied done.0 done.1, put_network r id name done.1)

abbrev pub asked : ℕ → Command → Register → ℕ → Bytes → Option NetworkValue → EventOutcome
asked now command r id name None = (NoSuchNetwork, r)
asked now command r id name (Some n) = acted r id name (act n now command)

-- whether a token of this right may ask the command
abbrev pub allows : Right → Command → Bool
allows Full command = true
allows Read command = is_reading command

-- the right is asked before the network is looked for
abbrev pub ask : Register → Bytes → Bytes → ℕ → Command → Option ℕ → EventOutcome
ask r digest name now command None = (UnknownToken, r)
ask r digest name now command (Some id) = if allows (right_of r.readers digest) command then asked now command r id name (network_at r.networks id name) else (ReadOnly, r)

abbrev pub listed : Register → Option ℕ → EventOutcome
listed r None = (UnknownToken, r)
listed r (Some id) = (Listed (map_.entries (view_at r id).networks), r)

-- ---- orders

abbrev pub refuse : Bool → OrderRefusal → Option OrderRefusal
refuse true why = Some why
refuse false why = None

-- the first refusal, where there is one
abbrev pub first_refusal : List (Option OrderRefusal) → Option OrderRefusal
first_refusal [] = None
first_refusal (None ∷ checks) = first_refusal checks
first_refusal (Some why ∷ checks) = Some why

abbrev pub given : Option OrderRefusal → Register → Register → EventOutcome
given (Some why) r s = (Refused why, r)
given None r s = (Done, s)

-- the first refusal and the register as it is, or the register with the order done
abbrev pub ordered : List (Option OrderRefusal) → Register → Register → EventOutcome
ordered checks r s = given (first_refusal checks) r s

abbrev pub has_name : List Tenant → Bytes → Bool
has_name ts name = list_any (is_same name) (map (λ t. t.name) ts)

abbrev pub has_slot : List NetworkEntry → ℕ → Bytes → Bool
has_slot hs id name = list_any (same_slot (id, name)) (map slot hs)

abbrev pub has_endpoint : List NetworkEntry → Bytes × ℕ → Bool
has_endpoint hs e = list_any (same_endpoint e) (map endpoint hs)

abbrev pub is_full : {A : Type 0} → List A → Bool
is_full xs = not (nat_lt (length xs) max_entries)

abbrev pub name_of : List Tenant → ℕ → Bytes
name_of [] id = []
name_of (t ∷ ts) id = if nat_eq t.id id then t.name else name_of ts id

-- the names of the tenant and of the network, for each network whose pool overlaps
abbrev pub overlapping : List Tenant → List NetworkEntry → PrefixValue → List (Bytes × Bytes)
overlapping ts hs pool = map (λ h. (name_of ts h.tenant, h.name)) (filter (λ h. overlaps pool h.network.pool) hs)

-- byte order by the tenant's name, then by the network's
abbrev pub comes_before : Bytes × Bytes → Bytes × Bytes → Bool
comes_before p q = is_lt (ordering_then (slice_cmp nat_cmp p.0 q.0) (slice_cmp nat_cmp p.1 q.1))

abbrev pub first_of : Bytes × Bytes → List (Bytes × Bytes) → Bytes × Bytes
first_of p [] = p
first_of p (q ∷ qs) = first_of (if comes_before q p then q else p) qs

-- of several, the first one is named
abbrev pub pool_refusal : List (Bytes × Bytes) → Option OrderRefusal
pool_refusal [] = None
pool_refusal (p ∷ ps) = let first = first_of p ps in Some (PoolOverlaps first.0 first.1)

-- a network without peers
abbrev pub new_network : Settings → NetworkValue
new_network s = record { pool = s.pool; host = s.host; port = s.port; server = s.server; capacity = s.capacity; next = 1; peers = []; routes = [] }

abbrev pub with_tenant : Register → Bytes → ℕ → Register
with_tenant r name new = record r { tenants = record { id = new; name = name } ∷ r.tenants }

abbrev pub with_reader : Right → Bytes → List Bytes → List Bytes
with_reader Full digest readers = readers
with_reader Read digest readers = digest ∷ readers

abbrev pub with_token : Register → Bytes → ℕ → Right → Register
with_token r digest id right = record r { tokens = record { digest = digest; tenant = id } ∷ r.tokens; readers = with_reader right digest r.readers }

abbrev pub without_reader : Bytes → List Bytes → List Bytes
without_reader digest readers = filter (λ d. not (is_same digest d)) readers

-- the token goes with its right, so a later token of this digest has the right that it is given
abbrev pub without_token : Register → Bytes → Register
without_token r digest = record r { tokens = filter (λ t. not (is_same digest t.digest)) r.tokens; readers = without_reader digest r.readers }

abbrev pub with_new_network : Register → ℕ → ℕ → Bytes → NetworkValue → Register
with_new_network r new id name n = record r { networks = record { id = new; tenant = id; name = name; network = n } ∷ r.networks }

abbrev pub without_network : Register → ℕ → Bytes → Register
without_network r id name = record r { networks = filter (λ h. not (same_slot (id, name) (slot h))) r.networks }

abbrev pub tenant_checks : Register → Bytes → List (Option OrderRefusal)
tenant_checks r name = refuse (has_name r.tenants name) NameHeld ∷ refuse (is_full r.tenants) RegisterFull ∷ []

abbrev pub grant_checks : Register → Bytes → List (Option OrderRefusal)
grant_checks r digest = refuse (has_digest r.tokens digest) DigestHeld ∷ refuse (is_full r.tokens) RegisterFull ∷ []

abbrev pub network_checks : Register → ℕ → Bytes → Settings → List (Option OrderRefusal)
network_checks r id name s =
    refuse (has_slot r.networks id name) NameHeld
    ∷ refuse (not (is_pool s.pool)) BadPool
    ∷ pool_refusal (overlapping r.tenants r.networks s.pool)
    ∷ refuse (has_endpoint r.networks (s.host, s.port)) PortHeld
    ∷ refuse (is_full r.networks) RegisterFull
    ∷ []

abbrev pub granted : Register → Bytes → Right → Option ℕ → EventOutcome
granted r digest right None = (Refused NoSuchTenant, r)
granted r digest right (Some id) = ordered (grant_checks r digest) r (with_token r digest id right)

abbrev pub network_added : Register → Bytes → Settings → ℕ → Option ℕ → EventOutcome
network_added r name s new None = (Refused NoSuchTenant, r)
network_added r name s new (Some id) = ordered (network_checks r id name s) r (with_new_network r new id name (new_network s))

abbrev pub network_ended : Register → Bytes → Option ℕ → EventOutcome
network_ended r name None = (Refused NoSuchTenant, r)
network_ended r name (Some id) = ordered (refuse (not (has_slot r.networks id name)) NoNetwork ∷ []) r (without_network r id name)

-- ---- steps

-- what an event gives, where `new` is the id of the tenant or network that it adds
abbrev pub outcome : Register → Event → ℕ → EventOutcome
outcome r (Decided digest reply) new = (Plain reply, r)
outcome r (Ask digest name now command) new = ask r digest name now command (tenant_of_token r.tokens digest)
outcome r (Networks digest) new = listed r (tenant_of_token r.tokens digest)
outcome r (AddTenant name) new = ordered (tenant_checks r name) r (with_tenant r name new)
outcome r (Grant tenant digest right) new = granted r digest right (id_of r.tenants tenant)
outcome r (EndToken digest) new = ordered (refuse (not (has_digest r.tokens digest)) NoSuchToken ∷ []) r (without_token r digest)
outcome r (AddNetwork tenant name settings) new = network_added r name settings new (id_of r.tenants tenant)
outcome r (EndNetwork tenant name) new = network_ended r name (id_of r.tenants tenant)

abbrev pub has_network : List NetworkEntry → ℕ → Bool
has_network hs id = list_any (nat_eq id) (map (λ h. h.id) hs)

-- an id that no other tenant has, where a tenant is added; that no other network has, where a
-- network is
abbrev pub IsUnused : Register → Event → ℕ → Type 0
IsUnused r (AddTenant name) new = IsId new × (has_tenant r.tenants new ≡ false)
IsUnused r (AddNetwork tenant name settings) new = IsId new × (has_network r.networks new ≡ false)
IsUnused r _ new = ⊤

-- An event, its answer and the register after it. Which unused id an accepted order takes is left
-- open, and so is the order of the entries; nothing else is.
pub record IsStep (r : Register) (event : Event) (answer : Answer) (s : Register) : Type 0 where
  pub new : ℕ
  pub unused : is_done answer ≡ true → IsUnused r event new
  pub answered : answer ≡ (outcome r event new).0
  pub rows : IsSame (outcome r event new).1 s
