-- Rows that were read so far, one after the other.
use Rattle.std.specs.Prelude.{◌≡◌, ◌+◌, ◌-◌, ◌^◌, ℕ, ℤ, pos, negsuc, Some, None, suc, false, List, [], ◌∷◌, ◌++◌, Option, IfSome, IsTrue}
use Rattle.std.specs.List.{AllByRecursion}
use Rattle.std.specs.Ordering.{int_cmp, int_eq}
use Rattle.std.specs.declared.cmp.Ordering.TheVariants.{Less}
use Rattle.sqlite_value.specs.Order.{Row, column}
use Rattle.sqlite_rules.specs.Edit.{id_in}
use Rattle.sqlite.specs.State.{State}
use Rattle.wgr_columns.specs.declared.columns.TheConstants.{ROWID}
use Rattle.wgr_checks.specs.OwnRows.{AreOwnRows}

abbrev pub EndsAtRow : List Row → ℤ → Type 0
EndsAtRow rows rowid = (front : List Row) × (row : Row) × (rows ≡ front ++ row ∷ []) × (id_in (column row ROWID) ≡ rowid)

-- the rows are as they should be, and none has a rowid that comes after the last
pub record IsWalked (IsRow : Row → Type 0) (rows : List Row) (last : Option ℤ) : Type 0 where
  pub own : AreOwnRows IsRow rows
  pub ends : IfSome last (EndsAtRow rows)
  pub unused : (z : ℤ) → IfSome last (λ y. int_cmp y z ≡ Less) → AllByRecursion (λ r. int_eq (id_in (column r ROWID)) z ≡ false) rows

-- if the connection is open, it was open before, and what it shows and what was committed are unchanged
abbrev pub IsStill : State → State → Type 0
IsStill old new = IsTrue new.is_open → IsTrue old.is_open × (new.now ≡ old.now) × (new.committed ≡ old.committed)

-- how many signed 64-bit numbers there are from this one on
abbrev pub from_on : ℤ → ℕ
from_on (pos n) = 2 ^ 63 - n
from_on (negsuc n) = 2 ^ 63 + suc n

-- It decreases with each row, since rowids ascend.
abbrev pub still_to_come : Option ℤ → ℕ
still_to_come None = 2 ^ 64 + 1
still_to_come (Some last) = from_on last
