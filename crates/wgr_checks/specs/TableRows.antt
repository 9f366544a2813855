-- The tables of members: what is read from each, and which rows it may have.
use Rattle.std.specs.Prelude.{ℕ, List, codes}
use Rattle.sqlite_value.specs.Order.{Row}
use Rattle.wgr_columns.specs.Layout.{allowed_tree, peer_tree}
use Rattle.wgr_checks.specs.declared.table.Table.{Table}
use Rattle.wgr_checks.specs.declared.table.Table.TheVariants.{Peers, Allowed}
use Rattle.wgr_checks.specs.PeerRows.{IsPeerRowOf, peer_values}
use Rattle.wgr_checks.specs.AllowedRows.{IsAllowedRowOf, allowed_values}

-- the query
abbrev pub text_of : Table → List ℕ
text_of Peers = codes "SELECT id, NULL, network, NULL, NULL, until, keepalive, handshake, received, sent FROM peer ORDER BY id"
text_of Allowed = codes "SELECT rowid, network, family, lo, length, hi, peer, kind FROM allowed ORDER BY rowid"

-- what it returns for a row
abbrev pub values_of : Table → Row → Row
values_of Peers = peer_values
values_of Allowed = allowed_values

-- where the rows are stored
abbrev pub tree_of : Table → ℕ
tree_of Peers = peer_tree
tree_of Allowed = allowed_tree

-- a row that belongs to one of these networks
abbrev pub IsRowOf : Table → List ℕ → Row → Type 0
IsRowOf Peers networks = IsPeerRowOf networks
IsRowOf Allowed networks = IsAllowedRowOf networks
