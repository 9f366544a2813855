-- Rows, each with a rowid of its own.
use Rattle.std.specs.Prelude.{List}
use Rattle.std.specs.List.{AllByRecursion}
use Rattle.sqlite_value.specs.Order.{Row}
use Rattle.wgr_checks.specs.TokenRows.{HaveOwnRowids}

-- the rows are as they should be, and no two share a rowid
pub record AreOwnRows (IsRow : Row → Type 0) (rows : List Row) : Type 0 where
  pub each : AllByRecursion IsRow rows
  pub own_rowids : HaveOwnRowids rows
