-- Rows that are those of a consistent register, stated table by table.
use Rattle.std.specs.Prelude.{◌≡◌, ◌≤◌, ◌↔◌, ℕ, true, [], nat_eq, length, map}
use Rattle.std.specs.List.{AllByRecursion, IsDistinct}
use Rattle.wgr_peers.specs.Host.{IsHost}
use Rattle.wgr_core.specs.Network.{NetworkValue}
use Rattle.wgr_model.specs.Register.{is_same}
use Rattle.wgr_model.specs.Consistent.{IsDigest, IsId, IsName, IsTenant, has_digest, has_tenant, overlaps, same_endpoint, same_slot, max_entries}
use Rattle.wgr_model.specs.Laws.{Has}
use Rattle.wgr_model.specs.Rows.{AllowedRow, NetworkRow, PeerRow, Tables, third_version}
use Rattle.wgr_model.specs.RowLaws.{AreConsistent}
use Rattle.wgr_tables.specs.Stored.{IsStored}

pub record AreTenantsApart (t : Tables) : Type 0 where
  pub each : AllByRecursion IsTenant t.tenants
  pub ids : IsDistinct nat_eq (map (λ x. x.id) t.tenants)
  pub names : IsDistinct is_same (map (λ x. x.name) t.tenants)
  pub few : length t.tenants ≤ max_entries

pub record AreTokensApart (t : Tables) : Type 0 where
  pub each : AllByRecursion (λ x. IsDigest x.digest) t.tokens
  pub digests : IsDistinct is_same (map (λ x. x.digest) t.tokens)
  pub owners : AllByRecursion (λ x. has_tenant t.tenants x.tenant ≡ true) t.tokens
  pub few : length t.tokens ≤ max_entries

-- the tokens that only read
pub record AreReadersApart (t : Tables) : Type 0 where
  pub digests : IsDistinct is_same t.readers
  pub tokens : AllByRecursion (λ d. has_digest t.tokens d ≡ true) t.readers

-- the id, the name and the host of a network are of their forms
pub record IsNamed (w : NetworkRow) : Type 0 where
  pub id : IsId w.id
  pub name : IsName w.name
  pub host : IsHost w.host

pub record AreNetworksApart (t : Tables) : Type 0 where
  pub each : AllByRecursion IsNamed t.networks
  pub ids : IsDistinct nat_eq (map (λ w. w.id) t.networks)
  pub slots : IsDistinct same_slot (map (λ w. (w.tenant, w.name)) t.networks)
  pub endpoints : IsDistinct same_endpoint (map (λ w. (w.host, w.port)) t.networks)
  pub pools : IsDistinct overlaps (map (λ w. w.pool) t.networks)
  pub owners : AllByRecursion (λ w. has_tenant t.tenants w.tenant ≡ true) t.networks
  pub few : length t.networks ≤ max_entries

-- the network of this id exists
abbrev pub IsThere : Tables → ℕ → Type 0
IsThere t id = (w : NetworkRow) × Has t.networks w × (w.id ≡ id)

-- The rows of each table are those of distinct entries, each network's rows form a network that
-- keeps the rules, and no peer and no allowed prefix is of a network that doesn't exist. There is no second
-- pool.
pub record AreWhole (t : Tables) : Type 0 where
  pub meta : t.meta ≡ third_version
  pub tenants : AreTenantsApart t
  pub tokens : AreTokensApart t
  pub networks : AreNetworksApart t
  pub seconds : t.seconds ≡ []
  pub readers : AreReadersApart t
  pub stored : (w : NetworkRow) → Has t.networks w → (n : NetworkValue) × IsStored t w.id n
  pub peers : (p : PeerRow) → Has t.peers p → IsThere t p.network
  pub allowed : (a : AllowedRow) → Has t.allowed a → IsThere t a.network

abbrev pub WholeRowsAreConsistent : Type 0
WholeRowsAreConsistent = (t : Tables) → AreWhole t ↔ AreConsistent t
