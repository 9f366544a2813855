-- What a stop leaves of a register is one.
use Rattle.std.proofs.Common.{◌≡◌, List, refl, subst, inl, inr}
use Rattle.sqlite_catalog.specs.Listing.{Lists}
use Rattle.sqlite_catalog.proofs.ReadLemmas.{lists_once}
use Rattle.sqlite_trees.specs.Objects.{catalog_tree}
use Rattle.sqlite.specs.Effect.{Database, IsDatabase}
use Rattle.sqlite.specs.Held.{Held}
use Rattle.sqlite.specs.Store.{Ghosts}
use Rattle.sqlite.specs.Tree.{Trees}
use Rattle.wgr_model.specs.Steps.{Event}
use Rattle.wgr_model.proofs.RowRunLemmas.{row_step}
use Rattle.wgr_columns.specs.Decode.{tables_of}
use Rattle.wgr_register.specs.Left.{LeavesGood}

pub stop_leaves : {S : Type 0} (g : Ghosts S) (conn : Held S) (db : Database) (late : List Event) → LeavesGood g conn db late
stop_leaves g conn db late at clean trees may = elim (at.stands.leaves clean trees may) [
  | inl same ↦ (db, record { register = at.stands.sound; consistent = at.consistent }, inl refl, same)
  | inr w ↦
      let step = at.steps w.0 w.1 (tables_of w.2) w.3.made in
      let law = row_step (tables_of db) (tables_of w.2) step.0 step.3 at.consistent step.2 step.4 in
      (w.2, record { register = w.3.sound; consistent = law.0 }, inr step, w.4)
]

-- trees list one schema
pub one_database : (a b : Database) → IsDatabase a → IsDatabase b → a.trees ≡ b.trees → a ≡ b
one_database a b p q same =
    let schema : a.schema ≡ b.schema = lists_once (b.trees catalog_tree) a.schema b.schema (subst (λ (t : Trees). Lists (t catalog_tree) a.schema) same p.lists) q.lists in
    λ i. record { schema = schema i; trees = same i }
