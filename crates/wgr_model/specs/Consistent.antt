-- Which registers are consistent.
use Rattle.std.specs.Prelude.{◌≡◌, ℕ, ◌^◌, ◌%◌, ◌<◌, ◌≤◌, Bool, true, ◌&&◌, ◌||◌, nat_eq, nat_le, nat_lt, List, length, map}
use Rattle.std.specs.List.{list_any, IsDistinct, AllByRecursion}
use Rattle.wgr_text.specs.declared.addr.Family.{Family}
use Rattle.wgr_text.specs.declared.addr.Family.TheVariants.{V4, V6}
use Rattle.wgr_text.specs.Prefix.{PrefixValue, block, width}
use Rattle.wgr_pool.specs.PrefixTests.{covers}
use Rattle.wgr_peers.specs.Host.{IsHost}
use Rattle.wgr_peers.specs.Name.{is_name}
use Rattle.wgr_core.specs.Network.{IsNetwork}
use Rattle.wgr_core.specs.Forms.{HasForms}
use Rattle.wgr_model.specs.Register.{Bytes, Tenant, Token, NetworkEntry, Register, is_same}

-- ---- forms

-- the name of a tenant or of a network
abbrev pub IsName : Bytes → Type 0
IsName text = is_name text ≡ true

-- a SHA-256 (FIPS 180-4): 32 bytes
pub record IsDigest (digest : Bytes) : Type 0 where
  pub long : length digest ≡ 32
  pub bytes : AllByRecursion (λ b. b < 256) digest

-- how many tenants, how many tokens and how many networks a register may have
abbrev pub max_entries : ℕ
max_entries = 65536

abbrev pub IsId : ℕ → Type 0
IsId id = (1 ≤ id) × (id ≤ max_entries)

-- ---- pools

abbrev pub is_pool_length : Family → ℕ → Bool
is_pool_length V4 length = nat_le 8 length && nat_le length 30
is_pool_length V6 length = nat_le 48 length && nat_le length 126

-- whether an address and a length make a pool: no host bit is set, and the length is one of a pool
unfoldable pub is_pool : PrefixValue → Bool
is_pool p = nat_lt p.address.number (2 ^ width p.address.family) && nat_eq (p.address.number % block p.address.family p.length) 0 && is_pool_length p.address.family p.length

-- whether some address is in both: one of two prefixes then has all of the other
unfoldable pub overlaps : PrefixValue → PrefixValue → Bool
overlaps p q = covers p q || covers q p

-- ---- what must be unique

-- a network's name within its tenant
abbrev pub slot : NetworkEntry → ℕ × Bytes
slot h = (h.tenant, h.name)

abbrev pub same_slot : ℕ × Bytes → ℕ × Bytes → Bool
same_slot p q = nat_eq p.0 q.0 && is_same p.1 q.1

abbrev pub endpoint : NetworkEntry → Bytes × ℕ
endpoint h = (h.network.host, h.network.port)

abbrev pub same_endpoint : Bytes × ℕ → Bytes × ℕ → Bool
same_endpoint p q = is_same p.0 q.0 && nat_eq p.1 q.1

abbrev pub pool_of : NetworkEntry → PrefixValue
pool_of h = h.network.pool

abbrev pub has_tenant : List Tenant → ℕ → Bool
has_tenant ts id = list_any (nat_eq id) (map (λ t. t.id) ts)

abbrev pub has_digest : List Token → Bytes → Bool
has_digest ts digest = list_any (is_same digest) (map (λ t. t.digest) ts)

pub record IsTenant (t : Tenant) : Type 0 where
  pub id : IsId t.id
  pub name : IsName t.name

-- a network's id, name, host and server key, and the fields of its peers, are of their forms, and it
-- keeps the rules of one network
pub record IsNetworkEntry (h : NetworkEntry) : Type 0 where
  pub id : IsId h.id
  pub name : IsName h.name
  pub host : IsHost h.network.host
  pub forms : HasForms h.network
  pub rules : IsNetwork h.network

pub record IsConsistent (r : Register) : Type 0 where
  pub names : IsDistinct is_same (map (λ t. t.name) r.tenants)
  pub ids : IsDistinct nat_eq (map (λ t. t.id) r.tenants)
  pub digests : IsDistinct is_same (map (λ t. t.digest) r.tokens)
  pub readers : IsDistinct is_same r.readers
  pub slots : IsDistinct same_slot (map slot r.networks)
  pub network_ids : IsDistinct nat_eq (map (λ h. h.id) r.networks)
  pub endpoints : IsDistinct same_endpoint (map endpoint r.networks)
  pub pools : IsDistinct overlaps (map pool_of r.networks)
  pub token_tenants : AllByRecursion (λ t. has_tenant r.tenants t.tenant ≡ true) r.tokens
  pub reader_tokens : AllByRecursion (λ d. has_digest r.tokens d ≡ true) r.readers
  pub network_tenants : AllByRecursion (λ h. has_tenant r.tenants h.tenant ≡ true) r.networks
  pub tenants : AllByRecursion IsTenant r.tenants
  pub tokens : AllByRecursion (λ t. IsDigest t.digest) r.tokens
  pub networks : AllByRecursion IsNetworkEntry r.networks
  pub few_tenants : length r.tenants ≤ max_entries
  pub few_tokens : length r.tokens ≤ max_entries
  pub few_networks : length r.networks ≤ max_entries
