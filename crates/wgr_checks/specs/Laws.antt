-- How the tests of rows relate to a register's consistency.
use Rattle.std.specs.Prelude.{◌≡◌, ◌<◌, ◌≤◌, ◌↔◌, ℕ, List, length, map, codes, true, nat_eq}
use Rattle.std.specs.List.{AllByRecursion, IsDistinct}
use Rattle.sqlite_value.specs.Order.{Row}
use Rattle.sqlite.specs.Effect.{Database, IsDatabase}
use Rattle.wgr_model.specs.Register.{is_same}
use Rattle.wgr_pool.specs.Pool.{IsPool}
use Rattle.wgr_peers.specs.Host.{IsHost}
use Rattle.wgr_peers.specs.Limits.{IsCapacity, IsPort}
use Rattle.wgr_core.specs.Forms.{IsKey}
use Rattle.wgr_model.specs.Consistent.{IsDigest, IsId, IsName, IsTenant, has_digest, has_tenant, overlaps, same_endpoint, same_slot, max_entries}
use Rattle.wgr_model.specs.Rows.{NetworkRow}
use Rattle.wgr_sql.specs.Named.{rows_named}
use Rattle.wgr_columns.specs.Layout.{HasReader, network_tree, tenant_tree, token_tree}
use Rattle.wgr_columns.specs.Decode.{AreNetworks, AreReaders, AreTenants, AreTokens, network_in, reader_in, tenant_in, token_in, AreAllowed, ArePeers, HaveKinds, HaveStatuses, allowed_in, peer_in}
use Rattle.wgr_columns.specs.LaidOut.{IsLaidOut}
use Rattle.wgr_checks.specs.TenantRows.{AreGoodTenants, AreIdsOf}
use Rattle.wgr_checks.specs.TokenRows.{AreGoodTokens, HaveOwnDigests}
use Rattle.wgr_checks.specs.ReaderRows.{AreGoodReaders}
use Rattle.wgr_checks.specs.NetworkRows.{AreGoodNetworks}
use Rattle.wgr_checks.specs.Sorted.{AreAmong}
use Rattle.wgr_checks.specs.PeerRows.{AreWrittenPeers}
use Rattle.wgr_checks.specs.AllowedRows.{AreWrittenAllowed}

-- what `IsRegister` requires of the rows of tenants, and `IsConsistent` of the tenants in them
pub record AreConsistentTenants (rows : List Row) : Type 0 where
  pub written : AreTenants rows
  pub each : AllByRecursion IsTenant (map tenant_in rows)
  pub ids : IsDistinct nat_eq (map (λ t. t.id) (map tenant_in rows))
  pub names : IsDistinct is_same (map (λ t. t.name) (map tenant_in rows))

-- the same for the rows of tokens, and the tokens in them
pub record AreConsistentTokens (tenants rows : List Row) : Type 0 where
  pub written : AreTokens rows
  pub each : AllByRecursion (λ t. IsDigest t.digest) (map token_in rows)
  pub digests : IsDistinct is_same (map (λ t. t.digest) (map token_in rows))
  pub owners : AllByRecursion (λ t. has_tenant (map tenant_in tenants) t.tenant ≡ true) (map token_in rows)
  pub few : length (map token_in rows) ≤ max_entries

-- the same for the rows of tokens that only read, and the digests in them
pub record AreConsistentReaders (tokens rows : List Row) : Type 0 where
  pub written : AreReaders rows
  pub apart : IsDistinct is_same (map reader_in rows)
  pub among : AllByRecursion (λ d. has_digest (map token_in tokens) d ≡ true) (map reader_in rows)

-- each value in a network's row is of its form
pub record HasGoodValues (w : NetworkRow) : Type 0 where
  pub id : IsId w.id
  pub name : IsName w.name
  pub pool : IsPool w.pool
  pub host : IsHost w.host
  pub port : IsPort w.port
  pub server : IsKey w.server
  pub capacity : IsCapacity w.capacity
  pub next : w.next < 4294967296

-- the same for the rows of networks, and the networks in them, except for their peers
pub record AreConsistentNetworks (tenants rows : List Row) : Type 0 where
  pub written : AreNetworks rows
  pub each : AllByRecursion HasGoodValues (map network_in rows)
  pub ids : IsDistinct nat_eq (map (λ w. w.id) (map network_in rows))
  pub slots : IsDistinct same_slot (map (λ w. (w.tenant, w.name)) (map network_in rows))
  pub endpoints : IsDistinct same_endpoint (map (λ w. (w.host, w.port)) (map network_in rows))
  pub pools : IsDistinct overlaps (map (λ w. w.pool) (map network_in rows))
  pub owners : AllByRecursion (λ w. has_tenant (map tenant_in tenants) w.tenant ≡ true) (map network_in rows)
  pub few : length (map network_in rows) ≤ max_entries

abbrev pub GoodTenantsAreConsistent : Type 0
GoodTenantsAreConsistent = (db : Database) → IsLaidOut db.schema → IsDatabase db → AreGoodTenants (db.trees tenant_tree) ↔ AreConsistentTenants (db.trees tenant_tree)

abbrev pub GoodTokensAreConsistent : Type 0
GoodTokensAreConsistent = (db : Database) → IsLaidOut db.schema → IsDatabase db → AreGoodTenants (db.trees tenant_tree) → (ids : List ℕ) → AreIdsOf (db.trees tenant_tree) ids
    → AreGoodTokens ids (db.trees token_tree) ↔ AreConsistentTokens (db.trees tenant_tree) (db.trees token_tree)

abbrev pub GoodReadersAreConsistent : Type 0
GoodReadersAreConsistent = (db : Database) → HasReader db.schema → IsDatabase db → HaveOwnDigests (db.trees token_tree)
    → AreGoodReaders (db.trees token_tree) (rows_named db (codes "reader")) ↔ AreConsistentReaders (db.trees token_tree) (rows_named db (codes "reader"))

abbrev pub GoodNetworksAreConsistent : Type 0
GoodNetworksAreConsistent = (db : Database) → IsLaidOut db.schema → IsDatabase db → AreGoodTenants (db.trees tenant_tree) → (ids : List ℕ) → AreIdsOf (db.trees tenant_tree) ids
    → AreGoodNetworks ids (db.trees network_tree) ↔ AreConsistentNetworks (db.trees tenant_tree) (db.trees network_tree)

-- what `IsRegister` requires of the rows of peers, and that each peer is one of a network that exists
abbrev pub WrittenPeersArePeers : Type 0
WrittenPeersArePeers = (networks : List ℕ) → (rows : List Row) → AreWrittenPeers networks rows → ArePeers rows × HaveStatuses rows × AreAmong (map (λ p. p.network) (map peer_in rows)) networks

-- the same for the rows of allowed prefixes
abbrev pub WrittenAllowedAreAllowed : Type 0
WrittenAllowedAreAllowed = (networks : List ℕ) → (rows : List Row) → AreWrittenAllowed networks rows → AreAllowed rows × HaveKinds rows × AreAmong (map (λ a. a.network) (map allowed_in rows)) networks
