-- Rows of all tables that are good.
use Rattle.std.specs.Prelude.{◌≡◌, ◌≤◌, ℕ, IsTrue, List, [], codes, length}
use Rattle.sqlite.specs.Tree.{Trees}
use Rattle.sqlite.specs.Effect.{Database}
use Rattle.sqlite.specs.State.{State}
use Rattle.wgr_core.specs.Network.{NetworkValue}
use Rattle.wgr_model.specs.Rows.{Tables, third_version}
use Rattle.wgr_model.specs.RowLaws.{AreConsistent}
use Rattle.wgr_sql.specs.Named.{rows_named}
use Rattle.wgr_columns.specs.Layout.{allowed_tree, network_tree, peer_tree, tenant_tree, token_tree}
use Rattle.wgr_columns.specs.Decode.{IsRegister, tables_of}
use Rattle.wgr_tables.specs.Stored.{IsStored}
use Rattle.wgr_schema.specs.Versions.{AreFree, IsOfVersion}
use Rattle.wgr_schema.specs.declared.version.Version.{Version}
use Rattle.wgr_checks.specs.TenantRows.{AreGoodTenants, AreIdsOf}
use Rattle.wgr_checks.specs.TokenRows.{AreGoodTokens}
use Rattle.wgr_checks.specs.ReaderRows.{AreGoodReaders}
use Rattle.wgr_checks.specs.NetworkRows.{AreGoodNetworks}
use Rattle.wgr_checks.specs.PeerRows.{AreWrittenPeers}
use Rattle.wgr_checks.specs.AllowedRows.{AreWrittenAllowed}
use Rattle.wgr_model.specs.Consistent.{max_entries}

-- the rows of tenants and of tokens; the tenants have these ids, ascending
pub record HasEntries (trees : Trees) (tenants : List ℕ) : Type 0 where
  pub apart : AreGoodTenants (trees tenant_tree)
  pub few : length (trees tenant_tree) ≤ max_entries
  pub ids : AreIdsOf (trees tenant_tree) tenants
  pub tokens : AreGoodTokens tenants (trees token_tree)

-- and of networks, which have these
pub record HasNetworks (trees : Trees) (networks : List ℕ) : Type 0 where
  pub owners : List ℕ
  pub entries : HasEntries trees owners
  pub apart : AreGoodNetworks owners (trees network_tree)
  pub ids : AreIdsOf (trees network_tree) networks

-- and of peers and of allowed prefixes of these networks
pub record HasTables (trees : Trees) (networks : List ℕ) : Type 0 where
  pub there : HasNetworks trees networks
  pub peers : AreWrittenPeers networks (trees peer_tree)
  pub allowed : AreWrittenAllowed networks (trees allowed_tree)

-- and of tokens that only read; there is no second pool
pub record AreLaterGood (db : Database) : Type 0 where
  pub seconds : rows_named db (codes "second") ≡ []
  pub readers : AreGoodReaders (db.trees token_tree) (rows_named db (codes "reader"))

pub record HasAll (db : Database) (networks : List ℕ) : Type 0 where
  pub tables : HasTables db.trees networks
  pub later : AreLaterGood db

-- the rows of the network of this id form a network that keeps the rules
abbrev pub StoresNetwork : Tables → ℕ → Type 0
StoresNetwork t id = (n : NetworkValue) × IsStored t id n

-- the rows, as those of the third version
abbrev pub as_third : Tables → Tables
as_third t = record t { meta = third_version }

-- a register, of whatever version, whose other rows are consistent
pub record HasSoundRows (db : Database) : Type 0 where
  pub register : IsRegister db
  pub consistent : AreConsistent (as_third (tables_of db))

-- a register of the third version whose rows are consistent
pub record IsGood (db : Database) : Type 0 where
  pub register : IsRegister db
  pub consistent : AreConsistent (tables_of db)

-- the tables are of this version, and nothing has the name of one that it lacks
abbrev pub IsReady : Version → Database → Type 0
IsReady version db = IsOfVersion version db × AreFree version db.schema

-- so they are, if the store is open
abbrev pub IsReadyIn : Version → State → Type 0
IsReadyIn version s = IsTrue s.is_open → IsReady version s.now
