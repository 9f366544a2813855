-- DELETE from a table that is found by its name.
use Rattle.std.proofs.Common.{◌≡◌, ℕ, List, false, [], ◌∷◌, Option, Some, Ok, ◌∙◌}
use Rattle.sqlite.specs.Command.TheVariants.{Delete}
use Rattle.sqlite.specs.Schema.{Schema}
use Rattle.sqlite.specs.Table.{Table}
use Rattle.sqlite.specs.Term.{Term, col}
use Rattle.sqlite_ast.specs.declared.Expr.{Expr}
use Rattle.sqlite_schema.specs.declared.program.Program.{Program}
use Rattle.sqlite_draft.specs.declared.query.Draft.{Draft}
use Rattle.sqlite_draft.specs.declared.join.Step.TheVariants.{Inner}
use Rattle.sqlite_resolve.specs.declared.state.State.{State}
use Rattle.sqlite_resolve.specs.Terms.{conjuncts}
use Rattle.sqlite_resolve.specs.Body.{tests}
use Rattle.sqlite_resolve.specs.Expr.{lower}
use Rattle.sqlite_resolve.specs.Lowering.{and_then, fresh, max_budget}
use Rattle.sqlite_resolve.specs.Program.{program}
use Rattle.sqlite_resolve.specs.Write.{deleted, picked, simple}
use Rattle.sqlite_resolve.specs.Compile.{delete}
use Rattle.wgr_sql.specs.Named.{Holds}
use Rattle.wgr_sql.proofs.NamedColumns.{on_table_is, over}

module _ (schema : Schema) (name : List ℕ) (at : ℕ) (table : Table) (h : Holds schema name at table) where
  pub deleted_is : (e : Expr) (t : Term) (s : State) → lower (over schema name at table h table.name [] false) e (fresh 2 max_budget) ≡ Ok (t, s) → s.steps ≡ [] → deleted schema at table (Some e) ≡ Ok (simple (Inner table.tree ∷ []) (conjuncts t) (col 1 0 ∷ []))
  unfolding deleted picked tests
  deleted_is e t s is none = rw (is, none)

  pub delete_is : (test : Option Expr) (d : Draft) (p : Program) → deleted schema at table test ≡ Ok d → program schema [] d ≡ Ok p → delete schema name test ≡ Ok (Delete at p)
  unfolding delete
  delete_is test d p is program_is = on_table_is schema name at table h (λ i t. and_then (deleted schema i t test) (λ d. and_then (program schema [] d) (λ p. Ok (Delete i p)))) ∙ rw (is, program_is)
