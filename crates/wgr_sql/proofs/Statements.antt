-- What each kind of statement makes of a database.
use Rattle.std.proofs.Common.{◌≡◌, ◌≢◌, ◌⊎◌, ◌/◌, inl, inr, ℕ, ℤ, MatchBool, if◌then◌else◌, is_lt, int_cmp, List, [], length, map, slice_get, true, false, cond, Option, Some, None, Ok, Err, Result, sym, ap, subst, ◌∙◌}
use Rattle.std.specs.List.{AllByRecursion}
use Rattle.sqlite.specs.Order.{Row}
use Rattle.sqlite.specs.Term.{Term}
use Rattle.sqlite.specs.Table.{Table}
use Rattle.sqlite.specs.Schema.{Schema}
use Rattle.sqlite.specs.Source.TheVariants.{Values}
use Rattle.sqlite.specs.Command.TheVariants.{Insert, Delete, CreateTable}
use Rattle.sqlite.specs.Edit.{edit_of}
use Rattle.sqlite_rules.specs.Edit.{row_at, without_all, put_all, are_fresh}
use Rattle.sqlite_rules.specs.Action.{works}
use Rattle.sqlite_rules.specs.Calls.{ids_of}
use Rattle.sqlite_schema.specs.declared.schema.Keys.TheVariants.{Enforced}
use Rattle.sqlite_schema.specs.declared.program.Program.{Program}
use Rattle.sqlite.specs.Rowids.TheVariants.{Chosen, Above, Given}
use Rattle.sqlite.specs.Does.{Tally, Does, AtPlace, OnRows, MakesTable, MakesSequence, lacks_sequence, sequence_text}
use Rattle.sqlite.specs.Compile.{table_defined_by}
use Rattle.sqlite.specs.Change.{created, next_tree}
use Rattle.sqlite_catalog.specs.Change.{KeepsRows}
use Rattle.sqlite.specs.declared.error.Error.{Error}
use Rattle.sqlite.specs.Rows.{Written, Task, stamped, Edited, rowids_for, count_of, Counts, CountsIn, sequence, Gives}
use Rattle.sqlite.specs.Tree.{Trees}
use Rattle.sqlite.specs.Effect.{Database, IsDatabase, Answers, value_rows}
use Rattle.sqlite.specs.Listing.{understood}
use Rattle.sqlite.specs.State.{State, mode_of, Writes, Executes, Shows}
use Rattle.sqlite.proofs.Callers.{IsPlain, command_of, statement_of, runs_as, one_step}
use Rattle.wgr_sql.specs.Effects.{Edits, CreatesTable}

-- a part that gave a value did not stop on the way
pub went : {B E R : Type 0} {b : B} {Stops : E → Type 0} → ((stop : E) × Stops stop × (Ok b ≡ Err stop)) ⊎ R → R
went (inl stopped) = absurd (let e = stopped.2 in cc)
went (inr on) = on

pub same_value : {B E : Type 0} {a b : B} → ◌≡◌ {A = Result B E} (Ok a) (Ok b) → a ≡ b
same_value e = cc

counts_nothing : (task : Task) (mid next : Trees) (counter : Option Row) (top : ℤ) → task.table.is_counted ≡ false → Counts task mid counter top (Ok next) → next ≡ mid
counts_nothing task mid next counter top none h =
    same_value (subst (λ b. MatchBool (if b then is_lt (int_cmp (count_of counter) top) else false) (CountsIn task mid counter top (sequence task.schema) (Ok next)) (Gives mid (Ok next))) none h)

chosen_for : (table : Table) (top : ℤ) → table.is_counted ≡ false → rowids_for table top ≡ Chosen
chosen_for table top none = ap (λ b. if b then Above top else Chosen) none

pub record Wrote (old new : State) (schema : Schema) (tree : ℕ) (after : List Row) : Type 1 where
  pub edits : Edits schema tree after old.now new.now
  pub shown : Shows old new new.now (cond old.in_transaction old.committed new.now) old.in_transaction
  pub marks : new.marks ≡ old.marks
  pub sound : IsDatabase new.now

module _ (old new : State) (schema : Schema) (has : old.now.schema ≡ schema) (sql : List ℕ) (params : Row) (plain : IsPlain (understood schema sql))
    (at : ℕ) (table : Table) (is_table : slice_get schema.tables at ≡ Some table) (count : ℕ) (ran : Executes sql params old new (Ok count)) where
  abbrev task : Task
  task = record { limit = old.step_limit; keys = Enforced; schema = schema; table = table; params = params }

  pub inserts : (terms : List Term) (width : ℕ) → command_of (understood schema sql) ≡ Insert at (Values terms width) → table.is_counted ≡ false
      → ((news : List Row) → works schema Enforced 0 table.tree [] news ≡ [])
      → let news = (edit_of old.now.trees table [] Chosen 0 (value_rows (stamped table params) width (length terms / width) terms)).news in
      Wrote old new schema table.tree (put_all (old.now.trees table.tree) news) × (are_fresh (old.now.trees table.tree) news ≡ true)
  inserts terms width is uncounted none =
      let command = Insert at (Values terms width) in
      let db = old.now.trees in
      let w = runs_as sql params old new schema has command is plain count ran in
      let text = statement_of sql (understood schema sql) in
      let there = subst (λ s. Does old.step_limit (mode_of old) params (record old.now { schema = s }) text None command (Ok (w.tally, new.now))) has w.changed in
      let done = went (subst (λ o. AtPlace (λ it. OnRows (record task { table = it }) (mode_of old) None command db) o (Ok (w.tally, new.now))) is_table there) in
      let now = ap (λ (p : _). p.1) (same_value (went (went done.2).2).2) in
      let given = went done.1 in
      let counter = went given.2 in
      let written = went counter.2 in
      let counted = went written.2 in
      let news = (edit_of db table [] Chosen 0 (value_rows (stamped table params) width (length terms / width) terms)).news in
      let trees : done.0.trees ≡ written.0 = ap (λ (it : Written). it.trees) (same_value counted.2) ∙ counts_nothing task written.0 counted.0 counter.0 _ uncounted counted.1 in
      let edit = edit_of db table [] Chosen 0 given.0 in
      let kind : rowids_for table (count_of counter.0) ≡ Chosen = chosen_for table _ uncounted in
      let made = subst (λ k. Edited schema Enforced db (edit_of db table [] k 0 given.0) (Ok written.0)) kind written.1 in
      let applied = one_step schema Enforced db written.0 edit (none edit.news) made in
      let rows : edit.news ≡ news = ap (λ all. (edit_of db table [] Chosen 0 all).news) given.1.1 in
      let trees_are : new.now.trees ≡ written.0 = ap (λ (d : Database). d.trees) now ∙ trees in (
        record {
          edits = record {
            schema_is = ap (λ (d : Database). d.schema) now;
            rows = ap (λ (t : Trees). t table.tree) trees_are ∙ applied.rows ∙ ap (put_all (db table.tree)) rows;
            tables = subst (λ (trees : Trees). AllByRecursion (λ (t : Table). t.tree ≢ table.tree → trees t.tree ≡ old.now.trees t.tree) schema.tables) (sym trees_are) applied.tables;
            others = λ t other none. ap (λ (trees : Trees). trees t) trees_are ∙ applied.others t other none;
          };
          shown = w.shown;
          marks = w.marks;
          sound = w.sound;
        },
        ap (are_fresh (db table.tree)) (sym rows) ∙ applied.fresh,
      )

  pub deletes : (q : Program) → command_of (understood schema sql) ≡ Delete at q
      → ((db : Trees) (gone : List ℤ) → works schema Enforced 0 table.tree (map (row_at (db table.tree)) gone) [] ≡ [])
      → (found : List Row) × Answers (record old.now { schema = schema }) q params found × Wrote old new schema table.tree (without_all (old.now.trees table.tree) (ids_of found))
  deletes q is none =
      let command = Delete at q in
      let db = old.now.trees in
      let w = runs_as sql params old new schema has command is plain count ran in
      let text = statement_of sql (understood schema sql) in
      let there = subst (λ s. Does old.step_limit (mode_of old) params (record old.now { schema = s }) text None command (Ok (w.tally, new.now))) has w.changed in
      let done = went (subst (λ o. AtPlace (λ it. OnRows (record task { table = it }) (mode_of old) None command db) o (Ok (w.tally, new.now))) is_table there) in
      let now = ap (λ (p : _). p.1) (same_value (went (went done.2).2).2) in
      let asked = went done.1 in
      let written = went asked.2 in
      let edit = edit_of db table (ids_of asked.0) Given 0 [] in
      let applied = one_step schema Enforced db written.0 edit (none db (ids_of asked.0)) written.1 in
      let trees : done.0.trees ≡ written.0 = ap (λ (it : Written). it.trees) (same_value written.2) in
      let trees_are : new.now.trees ≡ written.0 = ap (λ (d : Database). d.trees) now ∙ trees in (
        asked.0,
        asked.1,
        record {
          edits = record {
            schema_is = ap (λ (d : Database). d.schema) now;
            rows = ap (λ (t : Trees). t table.tree) trees_are ∙ applied.rows;
            tables = subst (λ (trees : Trees). AllByRecursion (λ (t : Table). t.tree ≢ table.tree → trees t.tree ≡ old.now.trees t.tree) schema.tables) (sym trees_are) applied.tables;
            others = λ t other none. ap (λ (trees : Trees). trees t) trees_are ∙ applied.others t other none;
          };
          shown = w.shown;
          marks = w.marks;
          sound = w.sound;
        },
      )

pub makes : (old new : State) (schema : Schema) → old.now.schema ≡ schema → (sql : List ℕ) (table : Table) → IsPlain (understood schema sql) → command_of (understood schema sql) ≡ CreateTable
    → statement_of sql (understood schema sql) ≡ sql → table_defined_by sql ≡ Ok table → lacks_sequence (created schema table) ≡ false → (count : ℕ) → Executes sql [] old new (Ok count) → CreatesTable schema table old.now new.now
makes old new schema has sql table plain is text defined uncounted count ran =
    let w = subst (λ t. Writes old new None CreateTable t [] count) text (runs_as sql [] old new schema has CreateTable is plain count ran) in
    let all = went w.changed in
    let first = went all.1 in
    let made = first.1 in
    let same : made.table ≡ table = same_value (sym made.defined ∙ defined) in
    let schema_is : first.0.schema ≡ created schema table = made.is ∙ ap (λ s. created s made.table) has ∙ ap (created schema) same in
    let now : new.now ≡ first.0 = ap (λ (p : Tally × Database). p.1) (same_value all.2) ∙ same_value (counts_none first.0 (ap lacks_sequence schema_is ∙ uncounted) all.0 first.2) in
    record {
      schema_is = ap (λ (d : Database). d.schema) now ∙ schema_is;
      empty = ap (λ (d : Database). d.trees (next_tree schema)) now ∙ subst (λ s. first.0.trees (next_tree s) ≡ []) has made.empty;
      others = subst (λ (d : Database). KeepsRows schema.tables old.now.trees d.trees) (sym now) (subst (λ (s : Schema). KeepsRows s.tables old.now.trees first.0.trees) has made.others);
      sound = w.sound;
    }
  where
    counts_none : (db : Database) → lacks_sequence db.schema ≡ false → (after : Database) → MakesSequence db (Ok after) → ◌≡◌ {A = Result Database (Option Error)} (Ok after) (Ok db)
    counts_none db plain after h = subst (λ b. MatchBool b (MakesTable sequence_text db (Ok after)) (Gives db (Ok after))) plain h
