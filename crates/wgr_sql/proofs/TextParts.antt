-- The parts of a statement that was read from a text.
use Rattle.std.proofs.Common.{List, [], Option, Some, None}
use Rattle.sqlite_ast.specs.Layer.{Layer, ShownLayer}
use Rattle.sqlite_ast.specs.declared.Expr.{Expr}
use Rattle.sqlite_ast.specs.declared.Expr.TheOpen.{Expr-F, Shown-F}
use Rattle.sqlite_ast.specs.declared.Rows.{Rows}
use Rattle.sqlite_ast.specs.declared.Rows.TheVariants.{Defaults}
use Rattle.sqlite_ast.specs.declared.Select as written_select
use Rattle.sqlite_ast.specs.declared.Statement.{Statement}
use Rattle.sqlite_ast.specs.declared.Statement.TheVariants as written
use Rattle.sqlite_resolve.specs.Scope.{Name}

-- the columns and the rows of an INSERT
abbrev pub columns_in : Statement → List Name
columns_in (written.Insert how name columns rows clauses shown) = columns
columns_in _ = []

abbrev pub rows_in : Statement → Rows
rows_in (written.Insert how name columns rows clauses shown) = rows
rows_in _ = Defaults

-- the condition of a DELETE
abbrev pub test_in : Statement → Option Expr
test_in (written.Delete name test shown) = test
test_in _ = None

-- a SELECT, and an expression that it shows, with its text
abbrev pub select_in : Statement → Option written_select.Select
select_in (written.Select q) = Some q
select_in _ = None

abbrev pub expr_in : ShownLayer → Option Expr
expr_in (Shown-F.One e alias text) = Some e
expr_in _ = None

abbrev pub text_in : ShownLayer → Name
text_in (Shown-F.One e alias text) = text
text_in _ = []

-- the sides of an operator
abbrev pub left_in : Expr → Layer → Expr
left_in e (Expr-F.Binary op a b) = a
left_in e _ = e

abbrev pub right_in : Expr → Layer → Expr
right_in e (Expr-F.Binary op a b) = b
right_in e _ = e
