-- What follows from the definitions.
use Rattle.std.specs.Prelude.{◌≡◌, ℕ, ◌<◌, ◌⊎◌, ◌↔◌, true, false, nat_eq, List, [], ◌∷◌, length, Some}
use Rattle.std.specs.List.{list_any}
use Rattle.std.specs.FinMap as map_
use Rattle.wgr_text.specs.Prefix.{PrefixValue, AreDisjoint}
use Rattle.wgr_pool.specs.Pool.{IsPool}
use Rattle.wgr_peers.specs.declared.peer.Peer.{Peer}
use Rattle.wgr_core.specs.declared.command.Command.{Command}
use Rattle.wgr_core.specs.Network.{NetworkValue}
use Rattle.wgr_model.specs.declared.right.Right.TheVariants.{Read}
use Rattle.wgr_model.specs.Register.{Bytes, Register, View, NetworkEntry, IsSame, empty_register, right_of, tenant_view}
use Rattle.wgr_model.specs.Consistent.{IsConsistent, IsId, is_pool, overlaps, max_entries}
use Rattle.wgr_model.specs.Steps.{AddNetwork, Ask, Event, Answer, Done, PoolOverlaps, Settings, IsProper, IsProperCommand, IsStep, comes_before, is_done, overlapping, pool_refusal}
use Rattle.wgr_model.specs.Tenants.{Agree, FitsAnswer, own_events, tenant_after, tenant_answer, tenant_run, answers_given}
use Rattle.wgr_model.specs.Runs.{Served, AreProper, IsRun, acknowledged}

-- an element of a list
abbrev pub Has : {A : Type 0} → List A → A → Type 0
Has [] a = ⊥
Has (x ∷ xs) a = (x ≡ a) ⊎ Has xs a

-- two peers of the register that hold the same address are the same peer of the same network
abbrev pub HasOneHolder : Register → Type 0
HasOneHolder s = (h k : NetworkEntry) (p q : Peer) → Has s.networks h → Has s.networks k → Has h.network.peers p → Has k.network.peers q → p.address ≡ q.address → (h ≡ k) × (p ≡ q)

-- a register without entries is consistent
abbrev pub EmptyIsConsistent : Type 0
EmptyIsConsistent = IsConsistent empty_register

-- For any event, whoever it is from: the register after it is consistent; no tenant alone has an
-- answer other than the one given; and each tenant sees what it then has alone.
pub record StepLaw (r : Register) (e : Event) (answer : Answer) (s : Register) : Type 0 where
  pub consistent : IsConsistent s
  pub answered : (me : Bytes) → FitsAnswer (tenant_answer (tenant_view r me) e) answer
  pub view : (me : Bytes) → tenant_after me (tenant_view r me) e (is_done answer) ≡ tenant_view s me

abbrev pub StepsAreIsolated : Type 0
StepsAreIsolated = (r s : Register) (e : Event) (answer : Answer) → IsConsistent r → IsProper e → IsStep r e answer s → StepLaw r e answer s

-- The answers to each tenant, and what it sees at the end, are those of its own requests and of the
-- accepted orders about it, on what it saw at the beginning.
pub record IsIsolated (r : Register) (es : List Served) (s : Register) : Type 0 where
  pub answers : (me : Bytes) → Agree (tenant_run me (tenant_view r me) (acknowledged es)).0 (acknowledged es)
  pub views : (me : Bytes) → (tenant_run me (tenant_view r me) (acknowledged es)).1 ≡ tenant_view s me
  pub consistent : IsConsistent s
  pub holders : HasOneHolder s

-- the main theorem, along every list of events
abbrev pub RunsAreIsolated : Type 0
RunsAreIsolated = (r s : Register) (es : List Served) → IsConsistent r → AreProper es → IsRun r es s → IsIsolated r es s

-- two lists of events that agree, in order, on those that are the tenant's own give it the same
-- answers and the same last view
abbrev pub TwoWorlds : Type 0
TwoWorlds = (me : Bytes) (v : View) (es fs : List (Event × Answer)) → own_events me v es ≡ own_events me v fs
    → (answers_given (tenant_run me v es).0 ≡ answers_given (tenant_run me v fs).0) × ((tenant_run me v es).1 ≡ (tenant_run me v fs).1)

-- the order of entries doesn't matter: a step is one on the same entries in whatever order
abbrev pub OrderIsNoAccount : Type 0
OrderIsNoAccount = (r s : Register) (e : Event) (answer : Answer) (u : Register) → IsSame r s → IsConsistent r → IsStep r e answer u → IsStep s e answer u

-- by a token that only reads nobody's view changes
abbrev pub ReadersOnlyRead : Type 0
ReadersOnlyRead = (r s : Register) (digest name : Bytes) (now : ℕ) (command : Command) (answer : Answer) → IsConsistent r → IsProperCommand command → right_of r.readers digest ≡ Read
    → IsStep r (Ask digest name now command) answer s → (me : Bytes) → tenant_view s me ≡ tenant_view r me

-- ---- the definitions can be met: every event has a step

abbrev pub EveryEventHasAStep : Type 0
EveryEventHasAStep = (r : Register) (e : Event) → (answer : Answer) × (s : Register) × IsStep r e answer s

-- below 65,536 entries some id is unused
abbrev pub AnIdIsUnused : Type 0
AnIdIsUnused = (ids : List ℕ) → length ids < max_entries → (id : ℕ) × IsId id × (list_any (nat_eq id) ids ≡ false)

-- ---- pools

-- an address and a length pass the test exactly where they make a pool
abbrev pub PoolsAreDecided : Type 0
PoolsAreDecided = (p : PrefixValue) → (is_pool p ≡ true) ↔ IsPool p

-- two pools overlap exactly where they aren't disjoint
abbrev pub OverlapsAreDecided : Type 0
OverlapsAreDecided = (p q : PrefixValue) → IsPool p → IsPool q → (overlaps p q ≡ false) ↔ AreDisjoint p q

-- `pool_overlaps` names a network whose pool overlaps, and no such network comes before it
pub record IsFirst (ps : List (Bytes × Bytes)) (first : Bytes × Bytes) : Type 0 where
  pub there : Has ps first
  pub least : (p : Bytes × Bytes) → Has ps p → comes_before p first ≡ false

abbrev pub FirstIsNamed : Type 0
FirstIsNamed = (r : Register) (pool : PrefixValue) (tenant network : Bytes) → pool_refusal (overlapping r.tenants r.networks pool) ≡ Some (PoolOverlaps tenant network)
    → IsFirst (overlapping r.tenants r.networks pool) (tenant, network)

-- ---- new networks

-- a network with these settings, without peers
pub record HasSettings (n : NetworkValue) (s : Settings) : Type 0 where
  pub pool : n.pool ≡ s.pool
  pub host : n.host ≡ s.host
  pub port : n.port ≡ s.port
  pub server : n.server ≡ s.server
  pub capacity : n.capacity ≡ s.capacity
  pub first_number : n.next ≡ 1
  pub no_peers : n.peers ≡ []
  pub no_routes : n.routes ≡ []

-- after an accepted order for a new network, the tenant has one of that name with the requested
-- settings
abbrev pub NetworksAreAsAsked : Type 0
NetworksAreAsAsked = (r s : Register) (tenant name : Bytes) (settings : Settings) → IsConsistent r → IsProper (AddNetwork tenant name settings) → IsStep r (AddNetwork tenant name settings) Done s
    → (n : NetworkValue) × (map_.get (tenant_view s tenant).networks name ≡ Some n) × HasSettings n settings
