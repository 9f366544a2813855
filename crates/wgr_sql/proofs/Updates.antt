-- What UPDATE makes of a database.
use Rattle.std.proofs.Common.{◌≡◌, ◌≢◌, ℕ, ℤ, List, [], ◌∷◌, map, drop, slice_get, true, Some, None, Ok, refl, sym, ap, subst, ◌∙◌}
use Rattle.std.specs.List.{AllByRecursion}
use Rattle.sqlite.specs.Order.{Row}
use Rattle.sqlite.specs.Table.{Table}
use Rattle.sqlite.specs.Schema.{Schema}
use Rattle.sqlite.specs.Command.TheVariants.{Update}
use Rattle.sqlite.specs.Edit.{edit_of}
use Rattle.sqlite_rules.specs.Edit.{numbered, row_at, without_all, put_all, are_fresh}
use Rattle.sqlite_rules.specs.Action.{works}
use Rattle.sqlite_rules.specs.Cast.{cast_row}
use Rattle.sqlite_rules.specs.Calls.{ids_of}
use Rattle.sqlite_schema.specs.declared.schema.Keys.TheVariants.{Enforced}
use Rattle.sqlite_schema.specs.declared.program.Program.{Program}
use Rattle.sqlite.specs.Rowids.TheVariants.{Given}
use Rattle.sqlite.specs.Does.{Does, AtPlace, OnRows}
use Rattle.sqlite.specs.Rows.{Written, Task}
use Rattle.sqlite.specs.Tree.{Trees}
use Rattle.sqlite_trees.specs.Tree.{put_row}
use Rattle.sqlite.specs.Effect.{Database, Answers}
use Rattle.sqlite.specs.Listing.{understood}
use Rattle.sqlite.specs.State.{State, mode_of, Executes}
use Rattle.sqlite.proofs.Callers.{IsPlain, command_of, statement_of, runs_as, one_step}
use Rattle.wgr_sql.proofs.Statements.{went, same_value, Wrote}

numbered_given : (rows news : List Row) → numbered Given rows news ≡ news
numbered_given rows [] = refl
numbered_given rows (r ∷ news) = ap (λ l. r ∷ l) (numbered_given (put_row r rows) news)

-- the rows that the query of an UPDATE makes, as the table stores them
abbrev pub stored_as : Table → List Row → List Row
stored_as table found = map (λ s. cast_row table (drop 1 s)) found

module _ (old new : State) (schema : Schema) (has : old.now.schema ≡ schema) (sql : List ℕ) (params : Row) (plain : IsPlain (understood schema sql))
    (at : ℕ) (table : Table) (is_table : slice_get schema.tables at ≡ Some table) (count : ℕ) (ran : Executes sql params old new (Ok count)) where
  abbrev task : Task
  task = record { limit = old.step_limit; keys = Enforced; schema = schema; table = table; params = params }

  pub updates : (q : Program) → command_of (understood schema sql) ≡ Update at q
      → ((db : Trees) (gone : List ℤ) (news : List Row) → works schema Enforced 0 table.tree (map (row_at (db table.tree)) gone) news ≡ [])
      → (found : List Row) × Answers (record old.now { schema = schema }) q params found
      × Wrote old new schema table.tree (put_all (without_all (old.now.trees table.tree) (ids_of found)) (stored_as table found))
      × (are_fresh (without_all (old.now.trees table.tree) (ids_of found)) (stored_as table found) ≡ true)
  updates q is none =
      let command = Update at q in
      let db = old.now.trees in
      let w = runs_as sql params old new schema has command is plain count ran in
      let text = statement_of sql (understood schema sql) in
      let there = subst (λ s. Does old.step_limit (mode_of old) params (record old.now { schema = s }) text None command (Ok (w.tally, new.now))) has w.changed in
      let done = went (subst (λ o. AtPlace (λ it. OnRows (record task { table = it }) (mode_of old) None command db) o (Ok (w.tally, new.now))) is_table there) in
      let now = ap (λ (p : _). p.1) (same_value (went (went done.2).2).2) in
      let asked = went done.1 in
      let written = went asked.2 in
      let edit = edit_of db table (ids_of asked.0) Given 1 asked.0 in
      let applied = one_step schema Enforced db written.0 edit (none db (ids_of asked.0) edit.news) written.1 in
      let trees : done.0.trees ≡ written.0 = ap (λ (it : Written). it.trees) (same_value written.2) in
      let trees_are : new.now.trees ≡ written.0 = ap (λ (d : Database). d.trees) now ∙ trees in
      let left = without_all (db table.tree) (ids_of asked.0) in
      let news : edit.news ≡ stored_as table asked.0 = numbered_given left (stored_as table asked.0) in (
        asked.0,
        asked.1,
        record {
          edits = record {
            schema_is = ap (λ (d : Database). d.schema) now;
            rows = ap (λ (t : Trees). t table.tree) trees_are ∙ applied.rows ∙ ap (put_all left) news;
            tables = subst (λ (trees : Trees). AllByRecursion (λ (t : Table). t.tree ≢ table.tree → trees t.tree ≡ old.now.trees t.tree) schema.tables) (sym trees_are) applied.tables;
            others = λ t other none. ap (λ (trees : Trees). trees t) trees_are ∙ applied.others t other none;
          };
          shown = w.shown;
          marks = w.marks;
          sound = w.sound;
        },
        ap (are_fresh left) (sym news) ∙ applied.fresh,
      )
