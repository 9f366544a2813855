-- What the statements that make a register leave.
use Rattle.std.proofs.Common.{◌≡◌, ℕ, List, [], ◌∷◌, ◌++◌, Some, None, Ok, Result, IfOk, IsTrue, true, false, slice_get, sym, ap, subst, ◌∙◌}
use Rattle.std.specs.List.{AllByRecursion}
use Rattle.sqlite.specs.Table.{Table}
use Rattle.sqlite.specs.Schema.{Schema}
use Rattle.sqlite.specs.Tree.{Trees}
use Rattle.sqlite_schema.specs.declared.schema.Index.{Index}
use Rattle.sqlite.specs.Command.TheVariants.{CreateTable, CreateIndex}
use Rattle.sqlite.specs.Does.{Tally, Does, AtPlace, Defines, MakesIndex, lacks_sequence}
use Rattle.sqlite.specs.Compile.{table_defined_by}
use Rattle.sqlite_resolve.specs.Compile.{index_defined_by}
use Rattle.sqlite_catalog.specs.Change.{created, indexed, next_tree, KeepsRows}
use Rattle.sqlite.specs.Effect.{Database}
use Rattle.sqlite.specs.State.{State, mode_of, Writes, Executes, Shows, KeepsCommit}
use Rattle.sqlite.proofs.Callers.{runs_as}
use Rattle.wgr_sql.specs.Effects.{CreatesTable}
use Rattle.wgr_sql.specs.declared.fault.Fault.{Fault}
use Rattle.wgr_sql.proofs.ResultLemmas.{if_ok}
use Rattle.wgr_sql.proofs.Statements.{went, same_value, makes}
use Rattle.wgr_schema.specs.Fresh.{HasBlank, IsFresh, Lays, reader_schema}
use Rattle.wgr_schema.specs.Upgrade.{say_text}
use Rattle.wgr_schema.proofs.Meanings.{Means}
use Rattle.wgr_schema.proofs.FreshLemmas.{fresh_made}

-- an index was made: the rows of every table are as they were
record Indexes (schema : Schema) (table : Table) (index : Index) (old new : Database) : Type 0 where
  schema_is : new.schema ≡ indexed schema table index
  others : KeepsRows schema.tables old.trees new.trees

makes_index : (old new : State) (schema : Schema) → old.now.schema ≡ schema → (sql : List ℕ) (at : ℕ) (table : Table) (index : Index) → Means schema sql (CreateIndex at) → slice_get schema.tables at ≡ Some table
    → index_defined_by table sql ≡ Ok index → (count : ℕ) → Executes sql [] old new (Ok count) → Indexes schema table index old.now new.now
makes_index old new schema has sql at table index means is_table defined count ran =
    let command = CreateIndex at in
    let w = subst (λ t. Writes old new None command t [] count) means.text_is (runs_as sql [] old new schema has command means.command_is means.plain count ran) in
    let there = subst (λ s. Does old.step_limit (mode_of old) [] (record old.now { schema = s }) sql None command (Ok (w.tally, new.now))) has w.changed in
    let all = went (subst (λ o. AtPlace (λ it. Defines (mode_of old) (MakesIndex sql (record old.now { schema = schema }) it)) o (Ok (w.tally, new.now))) is_table there) in
    let made = all.1 in
    let same : made.index ≡ index = same_value (sym made.defined ∙ defined) in
    let now : new.now ≡ all.0 = ap (λ (p : Tally × Database). p.1) (same_value all.2) in
    record {
      schema_is = ap (λ (d : Database). d.schema) now ∙ made.is ∙ ap (indexed schema table) same;
      others = subst (λ (d : Database). KeepsRows schema.tables old.now.trees d.trees) (sym now) made.rows;
    }

-- ---- no row

kept_blank : (tables : List Table) (old new : Trees) → KeepsRows tables old new → AllByRecursion (λ (t : Table). old t.tree ≡ []) tables → AllByRecursion (λ (t : Table). new t.tree ≡ []) tables
kept_blank [] old new keeps blank = tt
kept_blank (t ∷ tables) old new keeps blank = (keeps.0 ∙ blank.0, kept_blank tables old new keeps.1 blank.1)

one_blank : (tables : List Table) (db : Trees) (t : Table) → AllByRecursion (λ (t : Table). db t.tree ≡ []) tables → db t.tree ≡ [] → AllByRecursion (λ (t : Table). db t.tree ≡ []) (tables ++ t ∷ [])
one_blank [] db t blank last = (last, tt)
one_blank (x ∷ tables) db t blank last = (blank.0, one_blank tables db t blank.1 last)

blank_made : (schema : Schema) (table : Table) (old new : Database) → HasBlank schema old → CreatesTable schema table old new → HasBlank (created schema table) new
blank_made schema table old new was made = record {
  schema_is = made.schema_is;
  blank = one_blank schema.tables new.trees (record table { tree = next_tree schema }) (kept_blank schema.tables old.trees new.trees made.others was.blank) made.empty;
}

blank_indexed : (schema : Schema) (table : Table) (index : Index) (old new : Database) → HasBlank schema old → Indexes schema table index old new → HasBlank (indexed schema table index) new
blank_indexed schema table index old new was made = record { schema_is = made.schema_is; blank = kept_blank schema.tables old.trees new.trees made.others was.blank }

-- ---- steps

-- what `execute` says of a statement
abbrev Ran : List ℕ → State → State → Result ℕ Fault → Type 0
Ran sql a b r = IsTrue a.in_transaction → IfOk r (λ count. Executes sql [] a b (Ok count) × Shows a b b.now a.committed true)

module _ (a b : State) (r : Result ℕ Fault) (kept : IsTrue a.in_transaction → KeepsCommit a b) where
  module _ (schema : Schema) (sql : List ℕ) (ran : Ran sql a b r) where
    pub lays_table : (table : Table) → Means schema sql CreateTable → table_defined_by sql ≡ Ok table → lacks_sequence (created schema table) ≡ false → Lays (HasBlank schema) (HasBlank (created schema table)) a b r
    lays_table table means defined uncounted inside from =
        (kept inside, if_ok r _ _ (λ count h. let was = from h.1.was_open in (blank_made schema table a.now b.now was (makes a b schema was.schema_is sql table means.plain means.command_is means.text_is defined uncounted count h.0), h.1)) (ran inside))

    pub lays_index : (at : ℕ) (table : Table) (index : Index) → Means schema sql (CreateIndex at) → slice_get schema.tables at ≡ Some table → index_defined_by table sql ≡ Ok index
        → Lays (HasBlank schema) (HasBlank (indexed schema table index)) a b r
    lays_index at table index means is_table defined inside from =
        (kept inside, if_ok r _ _ (λ count h. let was = from h.1.was_open in (blank_indexed schema table index a.now b.now was (makes_index a b schema was.schema_is sql at table index means is_table defined count h.0), h.1)) (ran inside))

  pub lays_version : Ran say_text a b r → Lays (HasBlank reader_schema) IsFresh a b r
  lays_version ran inside from = (kept inside, if_ok r _ _ (λ count h. (fresh_made a b (from h.1.was_open) count h.0, h.1)) (ran inside))

keeps_then : (a b c : State) → KeepsCommit a b → KeepsCommit b c → KeepsCommit a c
keeps_then a b c p q = record { was_open = λ h. p.was_open (q.was_open h); committed = λ h. q.committed h ∙ p.committed (q.was_open h) }

shows_then : (a b c : State) → Shows a b b.now a.committed true → Shows b c c.now b.committed true → Shows a c c.now a.committed true
shows_then a b c p q = record { was_open = p.was_open; is_open = q.is_open; now_is = q.now_is; committed_is = q.committed_is ∙ p.committed_is; mode = q.mode }

-- a step, and a step
pub lays_then : (P Q R : Database → Type 0) (a b c : State) (x : ℕ) (r : Result ℕ Fault) → Lays {E = Fault} P Q a b (Ok x) → Lays Q R b c r → Lays P R a c r
lays_then P Q R a b c x r first next inside from =
    let one = first inside from in
    let two = next one.1.1.mode (λ _. one.1.0) in
    (keeps_then a b c one.0 two.0, if_ok r _ _ (λ y h. (h.0, shows_then a b c one.1.1 h.1)) two.1)
