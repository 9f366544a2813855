-- Rows of tokens.
use Rattle.std.specs.Prelude.{◌≤◌, ℕ, List, [], ◌∷◌, length, map}
use Rattle.std.specs.Ordering.{int_eq}
use Rattle.std.specs.List.{AllByRecursion, IsDistinct}
use Rattle.sqlite_value.specs.Order.{Row, column}
use Rattle.sqlite.specs.declared.types.Value.TheVariants.{Null}
use Rattle.sqlite_rules.specs.Edit.{id_in}
use Rattle.wgr_model.specs.Register.{is_same}
use Rattle.wgr_columns.specs.declared.columns.TheConstants.{ROWID}
use Rattle.wgr_columns.specs.declared.columns.token.TheConstants as token
use Rattle.wgr_columns.specs.Decode.{number_at, bytes_at}
use Rattle.wgr_checks.specs.Sorted.{AreAmong}
use Rattle.wgr_columns.specs.Fields.{IsDigestAt, IsIdAt, IsIntegerAt}
use Rattle.wgr_model.specs.Consistent.{max_entries}

-- the rowids are integers, no two of which are equal
pub record HaveOwnRowids (rows : List Row) : Type 0 where
  pub each : AllByRecursion (λ r. IsIntegerAt r ROWID) rows
  pub rowids : IsDistinct int_eq (map (λ r. id_in (column r ROWID)) rows)

-- the rows have digests, no two of which are equal, and are no more than a register may have
pub record HaveOwnDigests (rows : List Row) : Type 0 where
  pub few : length rows ≤ max_entries
  pub each : AllByRecursion (λ r. IsDigestAt r token.DIGEST) rows
  pub digests : IsDistinct is_same (map (λ r. bytes_at r token.DIGEST) rows)

abbrev pub HaveOwnKeys : List Row → Type 0
HaveOwnKeys rows = HaveOwnRowids rows × HaveOwnDigests rows

-- each row has an owner, who is one of these
pub record HaveOwners (ids : List ℕ) (rows : List Row) : Type 0 where
  pub each : AllByRecursion (λ r. IsIdAt r token.TENANT) rows
  pub owners : AreAmong (map (λ r. number_at r token.TENANT) rows) ids

-- the rows are those of tokens of the tenants that have these ids
pub record AreGoodTokens (ids : List ℕ) (rows : List Row) : Type 0 where
  pub own_keys : HaveOwnKeys rows
  pub owned : HaveOwners ids rows

-- ---- what queries return

abbrev pub rowid_values : Row → Row
rowid_values row = column row ROWID ∷ Null ∷ Null ∷ []

abbrev pub digest_values : Row → Row
digest_values row = Null ∷ column row token.DIGEST ∷ Null ∷ []

abbrev pub owner_values : Row → Row
owner_values row = Null ∷ Null ∷ column row token.TENANT ∷ []
