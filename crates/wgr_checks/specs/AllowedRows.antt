-- Rows of allowed prefixes.
use Rattle.std.specs.Prelude.{◌≡◌, ℕ, List, [], ◌∷◌, map, true, nat_eq}
use Rattle.std.specs.List.{AllByRecursion, list_any}
use Rattle.sqlite_value.specs.Order.{Row, column}
use Rattle.wgr_columns.specs.declared.columns.TheConstants.{ROWID}
use Rattle.wgr_columns.specs.declared.columns.allowed.TheConstants as allowed
use Rattle.wgr_columns.specs.Decode.{IsNumberAt, IsKindAt, number_at}
use Rattle.wgr_checks.specs.Sorted.{AreAmong}
use Rattle.wgr_checks.specs.TokenRows.{HaveOwnRowids}
use Rattle.wgr_columns.specs.Fields.{IsFamilyAt, IsSpelledAt}

pub record IsAllowedRow (row : Row) : Type 0 where
  pub network : IsNumberAt row allowed.NETWORK
  pub family : IsFamilyAt row allowed.FAMILY
  pub lo : IsSpelledAt row allowed.LO
  pub length : IsNumberAt row allowed.LENGTH
  pub hi : IsSpelledAt row allowed.HI
  pub peer : IsNumberAt row allowed.PEER
  pub kind : IsKindAt row allowed.KIND

-- the row of an allowed prefix in one of these networks
abbrev pub IsAllowedRowOf : List ℕ → Row → Type 0
IsAllowedRowOf networks row = IsAllowedRow row × (list_any (λ id. nat_eq (number_at row allowed.NETWORK) id) networks ≡ true)

-- the rows are those of allowed prefixes in these networks, no two of which share a rowid
pub record AreWrittenAllowed (networks : List ℕ) (rows : List Row) : Type 0 where
  pub own_rowids : HaveOwnRowids rows
  pub each : AllByRecursion IsAllowedRow rows
  pub among : AreAmong (map (λ r. number_at r allowed.NETWORK) rows) networks

-- ---- what the query returns

abbrev pub allowed_values : Row → Row
allowed_values row = column row ROWID ∷ column row allowed.NETWORK ∷ column row allowed.FAMILY ∷ column row allowed.LO ∷ column row allowed.LENGTH ∷ column row allowed.HI ∷ column row allowed.PEER ∷ column row allowed.KIND ∷ []
