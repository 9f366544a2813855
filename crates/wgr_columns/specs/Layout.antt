-- The tables of the register and their indexes, as the database's schema has them.
use Rattle.std.specs.Prelude.{◌≡◌, ℕ, Bool, true, false, not, ◌&&◌, ◌||◌, nat_le, List, [], ◌∷◌, ◌++◌, map, Option, Some, None, codes}
use Rattle.std.specs.List.{list_any, list_all}
use Rattle.sqlite.specs.Collation.TheVariants.{Binary}
use Rattle.sqlite.specs.declared.types.Value.TheVariants.{Null}
use Rattle.sqlite_value.specs.Keys.{plain}
use Rattle.sqlite_schema.specs.Names.{same_name}
use Rattle.sqlite_schema.specs.declared.schema.Column.{Column}
use Rattle.sqlite_schema.specs.declared.schema.Kind.{Kind}
use Rattle.sqlite_schema.specs.declared.schema.Index.{Index}
use Rattle.sqlite_schema.specs.declared.schema.Reference.{Reference}
use Rattle.sqlite_schema.specs.declared.schema.View.{View}
use Rattle.sqlite.specs.Table.{Table}
use Rattle.sqlite.specs.Schema.{Schema}
use Rattle.sqlite.specs.Kind.TheVariants.{Integer, Text, Blob}
use Rattle.wgr_sql.specs.Named.{HasTable}
use Rattle.wgr_columns.specs.declared.columns.allowed.TheConstants as allowed
use Rattle.wgr_columns.specs.declared.columns.meta.TheConstants as meta
use Rattle.wgr_columns.specs.declared.columns.network.TheConstants as network
use Rattle.wgr_columns.specs.declared.columns.peer.TheConstants as peer
use Rattle.wgr_columns.specs.declared.columns.reader.TheConstants as reader
use Rattle.wgr_columns.specs.declared.columns.second.TheConstants as second
use Rattle.wgr_columns.specs.declared.columns.tenant.TheConstants as tenant
use Rattle.wgr_columns.specs.declared.columns.token.TheConstants as token

-- a column of a STRICT table
abbrev pub column_of : List ℕ → Kind → Bool → Column
column_of name kind needed = record { name = name; kind = kind; is_strict = true; not_null = needed; default = Null; collation = Binary }

-- a table with no default, no check, no reference and no counter
abbrev pub table_of : List ℕ → ℕ → Option ℕ → List ℕ → List (List ℕ) → List Column → Table
table_of name tree key primary uniques columns = record {
  name = name;
  tree = tree;
  columns = columns;
  key = key;
  primary = primary;
  uniques = uniques;
  orders = map (λ _. plain) uniques;
  checks = [];
  references = [];
  computed = [];
  stamps = record { places = []; terms = []; formats = [] };
  is_counted = false;
}

abbrev pub meta_table_at : ℕ → Table
meta_table_at tree = table_of (codes "meta") tree (Some 0) (meta.VERSION ∷ []) [] (column_of (codes "version") Integer false ∷ [])

abbrev pub tenant_table_at : ℕ → Table
tenant_table_at tree = table_of (codes "tenant") tree (Some 0) (tenant.ID ∷ []) ((tenant.NAME ∷ []) ∷ []) (column_of (codes "id") Integer false ∷ column_of (codes "name") Text true ∷ [])

abbrev pub token_table_at : ℕ → Table
token_table_at tree = table_of (codes "token") tree None (token.DIGEST ∷ []) ((token.DIGEST ∷ []) ∷ []) (column_of (codes "digest") Blob true ∷ column_of (codes "tenant") Integer true ∷ [])

abbrev pub network_table_at : ℕ → Table
network_table_at tree = table_of (codes "network") tree (Some 0) (network.ID ∷ []) ((network.TENANT ∷ network.NAME ∷ []) ∷ (network.HOST ∷ network.PORT ∷ []) ∷ [])
    (column_of (codes "id") Integer false ∷ column_of (codes "tenant") Integer true ∷ column_of (codes "name") Text true ∷ column_of (codes "family") Integer true ∷ column_of (codes "lo") Blob true
    ∷ column_of (codes "length") Integer true ∷ column_of (codes "host") Text true ∷ column_of (codes "port") Integer true ∷ column_of (codes "server") Blob true
    ∷ column_of (codes "capacity") Integer true ∷ column_of (codes "next") Integer true ∷ [])

abbrev pub peer_table_at : ℕ → Table
peer_table_at tree = table_of (codes "peer") tree (Some 0) (peer.ID ∷ []) ((peer.NETWORK ∷ peer.KEY ∷ []) ∷ [])
    (column_of (codes "id") Integer false ∷ column_of (codes "network") Integer true ∷ column_of (codes "key") Blob true ∷ column_of (codes "label") Text true ∷ column_of (codes "until") Integer true
    ∷ column_of (codes "keepalive") Integer true ∷ column_of (codes "handshake") Integer false ∷ column_of (codes "received") Integer false ∷ column_of (codes "sent") Integer false ∷ [])

abbrev pub allowed_key_places : List ℕ
allowed_key_places = allowed.NETWORK ∷ allowed.FAMILY ∷ allowed.LO ∷ allowed.LENGTH ∷ []

abbrev pub allowed_table_at : ℕ → Table
allowed_table_at tree = table_of (codes "allowed") tree None allowed_key_places (allowed_key_places ∷ [])
    (column_of (codes "network") Integer true ∷ column_of (codes "family") Integer true ∷ column_of (codes "lo") Blob true ∷ column_of (codes "length") Integer true ∷ column_of (codes "hi") Blob true
    ∷ column_of (codes "peer") Integer true ∷ column_of (codes "kind") Text true ∷ [])

-- the two tables of the third version, which are found by their names
abbrev pub second_table_at : ℕ → Table
second_table_at tree = table_of (codes "second") tree (Some 0) (second.NETWORK ∷ []) [] (column_of (codes "network") Integer false ∷ column_of (codes "family") Integer true ∷ column_of (codes "lo") Blob true ∷ column_of (codes "length") Integer true ∷ [])

abbrev pub reader_table_at : ℕ → Table
reader_table_at tree = table_of (codes "reader") tree None (reader.DIGEST ∷ []) ((reader.DIGEST ∷ []) ∷ []) (column_of (codes "digest") Blob true ∷ [])

-- the trees that hold the rows of the tables; those between hold the indexes
abbrev pub meta_tree : ℕ
meta_tree = 0

abbrev pub tenant_tree : ℕ
tenant_tree = 1

abbrev pub token_tree : ℕ
token_tree = 3

abbrev pub network_tree : ℕ
network_tree = 5

abbrev pub peer_tree : ℕ
peer_tree = 8

abbrev pub allowed_tree : ℕ
allowed_tree = 10

-- the first tree that is not the register's
abbrev pub first_free_tree : ℕ
first_free_tree = 13

abbrev pub register_tables : List Table
register_tables = meta_table_at meta_tree ∷ tenant_table_at tenant_tree ∷ token_table_at token_tree ∷ network_table_at network_tree ∷ peer_table_at peer_tree ∷ allowed_table_at allowed_tree ∷ []

abbrev pub index_of : List ℕ → ℕ → ℕ → List ℕ → Bool → Index
index_of name tree table columns is_unique = record { name = name; tree = tree; table = table; columns = columns; order = plain; is_unique = is_unique }

-- One for each key, and one that finds the allowed prefixes of a peer: by network and peer.
abbrev pub register_indexes : List Index
register_indexes = index_of (codes "sqlite_autoindex_tenant_1") 2 1 (tenant.NAME ∷ []) true ∷ index_of (codes "sqlite_autoindex_token_1") 4 3 (token.DIGEST ∷ []) true ∷ index_of (codes "sqlite_autoindex_network_1") 6 5 (network.TENANT ∷ network.NAME ∷ []) true
    ∷ index_of (codes "sqlite_autoindex_network_2") 7 5 (network.HOST ∷ network.PORT ∷ []) true ∷ index_of (codes "sqlite_autoindex_peer_1") 9 8 (peer.NETWORK ∷ peer.KEY ∷ []) true
    ∷ index_of (codes "sqlite_autoindex_allowed_1") 11 10 allowed_key_places true ∷ index_of (codes "allowed_peer") 12 10 (allowed.NETWORK ∷ allowed.PEER ∷ []) false ∷ []

-- a table of the third version is there: it is none of the first six, and has a tree of its own
abbrev pub HasSecond : Schema → Type 0
HasSecond = HasTable first_free_tree (codes "second") second_table_at

abbrev pub HasReader : Schema → Type 0
HasReader = HasTable first_free_tree (codes "reader") reader_table_at

-- what is in the database after the register's tables and indexes
pub record Others : Type 0 where
  pub tables : List Table
  pub indexes : List Index
  pub views : List View

abbrev pub schema_with : Others → Schema
schema_with others = record { tables = register_tables ++ others.tables; indexes = register_indexes ++ others.indexes; views = others.views }

abbrev pub refers : List Table → Reference → Bool
refers tables ref = list_any (λ t. same_name t.name ref.parent) tables

-- whether a table's rows are in a tree after the register's, and it refers to none of the tables
abbrev pub is_apart : List Table → Table → Bool
is_apart tables table = nat_le first_free_tree table.tree && not (list_any (refers tables) table.references)

abbrev pub is_past : Index → Bool
is_past index = nat_le first_free_tree index.tree

-- whether a table refers to none of the two that are found by their names
abbrev pub refers_to_no_later : Table → Bool
refers_to_no_later table = not (list_any (λ (ref : Reference). same_name (codes "second") ref.parent || same_name (codes "reader") ref.parent) table.references)

-- Each further table is separate, and each further index is in a tree after the register's. Views are free.
pub record AreOthersApart (others : Others) : Type 0 where
  pub tables : list_all (is_apart register_tables) others.tables ≡ true
  pub unreferred : list_all refers_to_no_later others.tables ≡ true
  pub indexes : list_all is_past others.indexes ≡ true
