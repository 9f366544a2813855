-- The rows of the model, read from the rows of the database. A table's rowid, which is its INTEGER
-- PRIMARY KEY if it has one, is at place 0, and its columns are at the places from 1 on.
use Rattle.std.specs.Prelude.{◌≡◌, ◌⊎◌, ℕ, pos, ◌+◌, cond, nat_eq, List, [], ◌∷◌, map, codes, bytes_eq, Option, Some, None, unsigned_abs}
use Rattle.std.specs.Int.{w128, from_be_bytes, to_be_bytes}
use Rattle.sqlite_value.specs.Order.{Row, column, bytes}
use Rattle.sqlite_rules.specs.Edit.{id_in}
use Rattle.sqlite_rules.specs.Lists.{Has}
use Rattle.sqlite.specs.declared.types.Value.TheVariants.{Null, Int, Text, Blob}
use Rattle.sqlite.specs.Schema.{Schema}
use Rattle.sqlite.specs.Tree.{Trees}
use Rattle.sqlite.specs.Effect.{Database, IsDatabase}
use Rattle.sqlite_sql.specs.Ops.{is_null}
use Rattle.wgr_text.specs.declared.addr.Family.{Family}
use Rattle.wgr_text.specs.declared.addr.Family.TheVariants.{V4, V6}
use Rattle.wgr_text.specs.declared.key.Key.{Key}
use Rattle.wgr_text.specs.Prefix.{AddrValue, PrefixValue}
use Rattle.wgr_peers.specs.declared.peer.Status.{Status}
use Rattle.wgr_model.specs.Register.{Bytes, Tenant, Token}
use Rattle.wgr_model.specs.Rows.{NetworkRow, PeerRow, AllowedRow, MetaRow, SecondRow, Tables, family_number, third_version}
use Rattle.wgr_sql.specs.Keyed.{IsKeyed}
use Rattle.wgr_sql.specs.Named.{rows_in, rows_named, tree_named}
use Rattle.wgr_columns.specs.declared.columns.allowed.TheConstants as allowed
use Rattle.wgr_columns.specs.declared.columns.meta.TheConstants as meta
use Rattle.wgr_columns.specs.declared.columns.network.TheConstants as network
use Rattle.wgr_columns.specs.declared.columns.peer.TheConstants as peer
use Rattle.wgr_columns.specs.declared.columns.reader.TheConstants as reader
use Rattle.wgr_columns.specs.declared.columns.second.TheConstants as second
use Rattle.wgr_columns.specs.declared.columns.tenant.TheConstants as tenant
use Rattle.wgr_columns.specs.declared.columns.token.TheConstants as token
use Rattle.wgr_columns.specs.Layout.{Others, schema_with, AreOthersApart, HasReader, HasSecond, allowed_tree, meta_tree, network_tree, peer_tree, tenant_tree, token_tree}

abbrev pub number_at : Row → ℕ → ℕ
number_at row at = unsigned_abs (id_in (column row at))

-- the bytes of a blob or of a text
abbrev pub bytes_at : Row → ℕ → List ℕ
bytes_at row at = bytes (column row at)

abbrev pub family_of : ℕ → Family
family_of n = cond (nat_eq n 4) V4 V6

-- the 16 bytes of a number, in big-endian order
unfoldable pub bytes_of : ℕ → List ℕ
bytes_of = to_be_bytes w128

-- the number of 16 bytes, in big-endian order
unfoldable pub number_of : List ℕ → ℕ
number_of = from_be_bytes w128

abbrev pub address_at : Row → ℕ → ℕ → AddrValue
address_at row family at = record { family = family_of (number_at row family); number = number_of (bytes_at row at) }

-- a prefix whose family, address and length are at this place and the next two
abbrev pub prefix_at : Row → ℕ → PrefixValue
prefix_at row at = record { address = address_at row at (at + 1); length = number_at row (at + 2) }

abbrev pub key_at : Row → ℕ → Key
key_at row at = record { 0 = bytes_at row at }

abbrev pub meta_in : Row → MetaRow
meta_in row = record { version = number_at row meta.VERSION }

abbrev pub tenant_in : Row → Tenant
tenant_in row = record { id = number_at row tenant.ID; name = bytes_at row tenant.NAME }

abbrev pub token_in : Row → Token
token_in row = record { digest = bytes_at row token.DIGEST; tenant = number_at row token.TENANT }

abbrev pub network_in : Row → NetworkRow
network_in row = record {
  id = number_at row network.ID;
  tenant = number_at row network.TENANT;
  name = bytes_at row network.NAME;
  pool = record { address = address_at row network.FAMILY network.LO; length = number_at row network.LENGTH };
  host = bytes_at row network.HOST;
  port = number_at row network.PORT;
  server = key_at row network.SERVER;
  capacity = number_at row network.CAPACITY;
  next = number_at row network.NEXT;
}

abbrev pub second_in : Row → SecondRow
second_in row = record { network = number_at row second.NETWORK; pool = record { address = address_at row second.FAMILY second.LO; length = number_at row second.LENGTH } }

abbrev pub reader_in : Row → Bytes
reader_in row = bytes_at row reader.DIGEST

-- absent together: where the first is absent, there is no status
abbrev pub status_at : Row → Option Status
status_at row = cond (is_null (column row peer.HANDSHAKE)) None
    (Some (record { handshake = number_at row peer.HANDSHAKE; received = number_at row peer.RECEIVED; sent = number_at row peer.SENT }))

abbrev pub peer_in : Row → PeerRow
peer_in row = record {
  id = number_at row peer.ID;
  network = number_at row peer.NETWORK;
  key = key_at row peer.KEY;
  label = bytes_at row peer.LABEL;
  until = number_at row peer.UNTIL;
  keepalive = number_at row peer.KEEPALIVE;
  status = status_at row;
}

abbrev pub route_kind : List ℕ
route_kind = codes "route"

abbrev pub address_kind : List ℕ
address_kind = codes "address"

abbrev pub allowed_in : Row → AllowedRow
allowed_in row = record {
  network = number_at row allowed.NETWORK;
  prefix = record { address = address_at row allowed.FAMILY allowed.LO; length = number_at row allowed.LENGTH };
  last = address_at row allowed.FAMILY allowed.HI;
  peer = number_at row allowed.PEER;
  is_route = bytes_eq (bytes_at row allowed.KIND) route_kind;
}

abbrev pub tables_in : Schema → Trees → Tables
tables_in schema trees = record {
  meta = map meta_in (trees meta_tree);
  tenants = map tenant_in (trees tenant_tree);
  tokens = map token_in (trees token_tree);
  networks = map network_in (trees network_tree);
  seconds = map second_in (rows_in trees (tree_named schema (codes "second")));
  readers = map reader_in (rows_in trees (tree_named schema (codes "reader")));
  peers = map peer_in (trees peer_tree);
  allowed = map allowed_in (trees allowed_tree);
}

-- the rows of the register that a database holds
abbrev pub tables_of : Database → Tables
tables_of db = tables_in db.schema db.trees

-- ---- rows that are written as the register writes them

-- an integer that is not negative
abbrev pub IsNumberAt : Row → ℕ → Type 0
IsNumberAt row at = column row at ≡ Int (pos (number_at row at))

-- the values at these places are integers that are not negative
abbrev pub AreNatural : List ℕ → List Row → Type 0
AreNatural places rows = (r : Row) → Has rows r → (p : ℕ) → Has places p → IsNumberAt r p

-- the values at these places are the 16 bytes of a number
abbrev pub AreSpelled : List ℕ → List Row → Type 0
AreSpelled places rows = (r : Row) → Has rows r → (p : ℕ) → Has places p → column r p ≡ Blob (bytes_of (number_of (bytes_at r p)))

-- the numbers at these places are those of families
abbrev pub HaveFamilies : List ℕ → List Row → Type 0
HaveFamilies places rows = (r : Row) → Has rows r → (p : ℕ) → Has places p → number_at r p ≡ family_number (family_of (number_at r p))

-- different rows have different rowids, and these places hold numbers, addresses and families
pub record AreWritten (numbers addresses families : List ℕ) (rows : List Row) : Type 0 where
  pub keyed : IsKeyed rows
  pub numbers_are : AreNatural numbers rows
  pub addresses_are : AreSpelled addresses rows
  pub families_are : HaveFamilies families rows

abbrev pub network_numbers : List ℕ
network_numbers = network.ID ∷ network.TENANT ∷ network.FAMILY ∷ network.LENGTH ∷ network.PORT ∷ network.CAPACITY ∷ network.NEXT ∷ []

abbrev pub second_numbers : List ℕ
second_numbers = second.NETWORK ∷ second.FAMILY ∷ second.LENGTH ∷ []

abbrev pub peer_numbers : List ℕ
peer_numbers = peer.ID ∷ peer.NETWORK ∷ peer.UNTIL ∷ peer.KEEPALIVE ∷ []

abbrev pub allowed_numbers : List ℕ
allowed_numbers = allowed.NETWORK ∷ allowed.FAMILY ∷ allowed.LENGTH ∷ allowed.PEER ∷ []

abbrev pub allowed_addresses : List ℕ
allowed_addresses = allowed.LO ∷ allowed.HI ∷ []

abbrev pub AreTenants : List Row → Type 0
AreTenants = AreWritten (tenant.ID ∷ []) [] []

abbrev pub AreTokens : List Row → Type 0
AreTokens = AreWritten (token.TENANT ∷ []) [] []

abbrev pub AreNetworks : List Row → Type 0
AreNetworks = AreWritten network_numbers (network.LO ∷ []) (network.FAMILY ∷ [])

abbrev pub AreSeconds : List Row → Type 0
AreSeconds = AreWritten second_numbers (second.LO ∷ []) (second.FAMILY ∷ [])

abbrev pub AreReaders : List Row → Type 0
AreReaders = AreWritten [] [] []

abbrev pub ArePeers : List Row → Type 0
ArePeers = AreWritten peer_numbers [] []

abbrev pub AreAllowed : List Row → Type 0
AreAllowed = AreWritten allowed_numbers allowed_addresses (allowed.FAMILY ∷ [])

-- the three counts of a status, all present or all NULL
abbrev pub IsStatusThere : Row → Type 0
IsStatusThere row = IsNumberAt row peer.HANDSHAKE × IsNumberAt row peer.RECEIVED × IsNumberAt row peer.SENT

abbrev pub IsStatusAbsent : Row → Type 0
IsStatusAbsent row = (column row peer.HANDSHAKE ≡ Null) × (column row peer.RECEIVED ≡ Null) × (column row peer.SENT ≡ Null)

abbrev pub IsStatusRow : Row → Type 0
IsStatusRow row = IsStatusThere row ⊎ IsStatusAbsent row

abbrev pub HaveStatuses : List Row → Type 0
HaveStatuses rows = (r : Row) → Has rows r → IsStatusRow r

abbrev pub IsKindAt : Row → ℕ → Type 0
IsKindAt row at = (column row at ≡ Text address_kind) ⊎ (column row at ≡ Text route_kind)

-- each is an address or a route
abbrev pub HaveKinds : List Row → Type 0
HaveKinds rows = (r : Row) → Has rows r → IsKindAt r allowed.KIND

-- the rows of the six tables
pub record AreTrees (trees : Trees) : Type 0 where
  pub meta : AreWritten (meta.VERSION ∷ []) [] [] (trees meta_tree)
  pub tenants : AreTenants (trees tenant_tree)
  pub tokens : AreTokens (trees token_tree)
  pub networks : AreNetworks (trees network_tree)
  pub peers : ArePeers (trees peer_tree)
  pub allowed : AreAllowed (trees allowed_tree)
  pub statuses : HaveStatuses (trees peer_tree)
  pub kinds : HaveKinds (trees allowed_tree)

-- the tables of the third version are there, and their rows are written as the register writes them
pub record HasLater (db : Database) : Type 0 where
  pub second : HasSecond db.schema
  pub reader : HasReader db.schema
  pub seconds : AreSeconds (rows_named db (codes "second"))
  pub readers : AreReaders (rows_named db (codes "reader"))

-- the database has the register's tables, perhaps with others after them that are separate, and
-- their rows are written as the register writes them; one of the third version has those of that too
pub record IsRegister (db : Database) : Type 0 where
  pub others : Others
  pub schema_is : db.schema ≡ schema_with others
  pub apart : AreOthersApart others
  pub sound : IsDatabase db
  pub written : AreTrees db.trees
  pub later : (tables_of db).meta ≡ third_version → HasLater db
