-- The statements that create the tables and the index, and queries of whole rows of `network`.
use Rattle.std.specs.Prelude.{ℕ, List, codes, ◌++◌}

abbrev pub meta_text : List ℕ
meta_text = codes "CREATE TABLE meta (version INTEGER PRIMARY KEY) STRICT"

abbrev pub tenant_text : List ℕ
tenant_text = codes "CREATE TABLE tenant (id INTEGER PRIMARY KEY, name TEXT NOT NULL UNIQUE) STRICT"

abbrev pub token_text : List ℕ
token_text = codes "CREATE TABLE token (digest BLOB NOT NULL PRIMARY KEY, tenant INTEGER NOT NULL) STRICT"

abbrev pub network_text : List ℕ
network_text = codes "CREATE TABLE network (id INTEGER PRIMARY KEY, tenant INTEGER NOT NULL, name TEXT NOT NULL, family INTEGER NOT NULL, lo BLOB NOT NULL, length INTEGER NOT NULL, host TEXT NOT NULL, port INTEGER NOT NULL, server BLOB NOT NULL, capacity INTEGER NOT NULL, next INTEGER NOT NULL, UNIQUE (tenant, name), UNIQUE (host, port)) STRICT"

abbrev pub peer_text : List ℕ
peer_text = codes "CREATE TABLE peer (id INTEGER PRIMARY KEY, network INTEGER NOT NULL, key BLOB NOT NULL, label TEXT NOT NULL, until INTEGER NOT NULL, keepalive INTEGER NOT NULL, handshake INTEGER, received INTEGER, sent INTEGER, UNIQUE (network, key)) STRICT"

abbrev pub allowed_text : List ℕ
allowed_text = codes "CREATE TABLE allowed (network INTEGER NOT NULL, family INTEGER NOT NULL, lo BLOB NOT NULL, length INTEGER NOT NULL, hi BLOB NOT NULL, peer INTEGER NOT NULL, kind TEXT NOT NULL, PRIMARY KEY (network, family, lo, length)) STRICT"

abbrev pub allowed_peer_text : List ℕ
allowed_peer_text = codes "CREATE INDEX allowed_peer ON allowed (network, peer)"

-- the columns of `network`, each at its place
abbrev pub network_columns : List ℕ
network_columns = codes "id, NULL, tenant, name, family, lo, length, host, port, server, capacity, next"

-- a query of networks; the argument is what stands behind the table's name
abbrev pub select_networks : List ℕ → List ℕ
select_networks rest = codes "SELECT " ++ network_columns ++ codes " FROM network" ++ rest
