-- Rows of peers.
use Rattle.std.specs.Prelude.{◌≡◌, ℕ, List, [], ◌∷◌, map, true, nat_eq}
use Rattle.std.specs.List.{AllByRecursion, IsDistinct, list_any}
use Rattle.sqlite_value.specs.Order.{Row, column}
use Rattle.sqlite.specs.declared.types.Value.TheVariants.{Null}
use Rattle.wgr_columns.specs.declared.columns.peer.TheConstants as peer
use Rattle.wgr_columns.specs.Decode.{IsNumberAt, IsStatusRow, number_at}
use Rattle.wgr_checks.specs.Sorted.{AreAmong}

pub record IsPeerRow (row : Row) : Type 0 where
  pub id : IsNumberAt row peer.ID
  pub network : IsNumberAt row peer.NETWORK
  pub until : IsNumberAt row peer.UNTIL
  pub keepalive : IsNumberAt row peer.KEEPALIVE
  pub status : IsStatusRow row

-- the row of a peer of one of these networks
abbrev pub IsPeerRowOf : List ℕ → Row → Type 0
IsPeerRowOf networks row = IsPeerRow row × (list_any (λ id. nat_eq (number_at row peer.NETWORK) id) networks ≡ true)

-- the rows are those of peers of these networks, no two of which share an id
pub record AreWrittenPeers (networks : List ℕ) (rows : List Row) : Type 0 where
  pub each : AllByRecursion IsPeerRow rows
  pub ids : IsDistinct nat_eq (map (λ r. number_at r peer.ID) rows)
  pub among : AreAmong (map (λ r. number_at r peer.NETWORK) rows) networks

-- ---- what the query returns

abbrev pub peer_values : Row → Row
peer_values row = column row peer.ID ∷ Null ∷ column row peer.NETWORK ∷ Null ∷ Null ∷ column row peer.UNTIL ∷ column row peer.KEEPALIVE ∷ column row peer.HANDSHAKE ∷ column row peer.RECEIVED ∷ column row peer.SENT ∷ []
