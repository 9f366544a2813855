-- No database that has what came before refuses a table or the index of a register.
use Rattle.std.proofs.Common.{◌≡◌, ◌≤◌, ◌<◌, ◌+◌, ◌*◌, ◌^◌, ℕ, true, false, List, [], ◌∷◌, length, codes, slice_get, Option, Some, None, Ok, Err, Result, MatchBool, inl, inr, sym, ap, subst, ◌∙◌, arith, true≢false}
use Rattle.std.specs.Str.{IsUtf8}
use Rattle.std.specs.List.{AllByRecursion}
use Rattle.sqlite.specs.Command.{Command}
use Rattle.sqlite.specs.Command.TheVariants.{CreateTable, CreateIndex}
use Rattle.sqlite.specs.Compile.{table_defined_by}
use Rattle.sqlite.specs.declared.error.Error.{Error}
use Rattle.sqlite.specs.Does.{Does, AtPlace, Defines, MakesTable, MakesSequence, MakesIndex, lacks_sequence, sequence_text}
use Rattle.sqlite.specs.Effect.{Database}
use Rattle.sqlite.specs.Listing.{understood}
use Rattle.sqlite.specs.Rows.{Gives, Then}
use Rattle.sqlite.specs.Schema.{Schema}
use Rattle.sqlite.specs.State.{text_of}
use Rattle.sqlite.specs.Table.{Table}
use Rattle.sqlite.specs.Tree.{Trees}
use Rattle.sqlite.proofs.Callers.{IsPlain, command_of, statement_of}
use Rattle.sqlite_value.specs.declared.value.Value.TheVariants.{Text}
use Rattle.sqlite_resolve.specs.Compile.{index_defined_by}
use Rattle.sqlite_resolve.specs.declared.compiled.Compiled.{Compiled}
use Rattle.sqlite_resolve.specs.declared.error.CompileError.{CompileError}
use Rattle.sqlite_schema.specs.declared.schema.Constraint.{Constraint}
use Rattle.sqlite_schema.specs.declared.schema.Constraint.TheVariants.{Unique}
use Rattle.sqlite_schema.specs.declared.schema.Index.{Index}
use Rattle.sqlite_schema.specs.Rules.{index_reals, passes, table_reals}
use Rattle.sqlite_rules.specs.Lists.{Has}
use Rattle.sqlite_rules.proofs.ListLemmas.{all_has}
use Rattle.sqlite_catalog.specs.Calls.{RefusesIndex, RefusesTable}
use Rattle.sqlite_catalog.specs.Change.{automatics, created, indexed, is_reserved, is_used, next_tree}
use Rattle.sqlite_catalog.specs.Listing.{is_fit, is_formed}
use Rattle.sqlite_catalog.specs.declared.error.Refusal.{Refusal}
use Rattle.sqlite_catalog.specs.declared.error.Refusal.TheVariants.{Invalid, NameTaken, BadName, TooBig, BadKey, BadText, Violates}
use Rattle.wgr_sql.specs.Causes.{Refuses, RefusesAs, usual}
use Rattle.wgr_sql.proofs.Statements.{same_value}
use Rattle.wgr_schema.specs.Fresh.{HasBlank}
use Rattle.wgr_schema.proofs.Meanings.{Means}

-- a statement that isn't done stops at what its command does
module _ (schema : Schema) (text : List ℕ) (command : Command) (means : Means schema text command) (limit : Option ℕ) (db : Database) (has : db.schema ≡ schema) where
  stopped : (r : Result Compiled CompileError) → IsPlain r → RefusesAs limit db text [] r → (stop : Option Error) × Does limit usual [] db (statement_of text r) None (command_of r) (Err stop)
  stopped (Ok c) plain (stop, does) = (stop, subst (λ o. Does limit usual [] db (text_of text c) o c.command (Err stop)) plain.0 does)
  stopped (Err e) plain none = absurd plain

  pub stops_at : Refuses limit db text [] → (stop : Option Error) × Does limit usual [] db text None command (Err stop)
  stops_at refuses =
      let it = stopped (understood schema text) means.plain (subst (λ s. RefusesAs limit db text [] (understood s text)) has refuses) in
      (it.0, subst (λ k. Does limit usual [] db text None k (Err it.0)) means.command_is (subst (λ t. Does limit usual [] db t None (command_of (understood schema text)) (Err it.0)) means.text_is it.1))

-- ---- a table

-- all that is asked of a text that makes a table, where the schema is so
pub record IsTableFor (schema : Schema) (text : List ℕ) (table : Table) : Type 0 where
  pub defined : table_defined_by text ≡ Ok table
  pub spelled : IsUtf8 text
  pub named : IsUtf8 table.name
  pub own : is_reserved table.name ≡ false
  pub free : is_used schema table.name ≡ false
  pub indexes : AllByRecursion (λ i. is_used schema i.name ≡ false) (automatics table 0 0 table.uniques)
  pub few : next_tree schema + length table.uniques < 65536
  pub reals : table_reals table ≡ 0
  pub keys : AllByRecursion (λ key. index_reals (table_reals table) key ≡ 0) table.uniques
  pub formed : is_formed table ≡ true
  pub fit : is_fit (Text (codes "table")) (Text table.name) (Text table.name) (Text text) ≡ true
  pub short : 2 * length table.name + length text + 200 < 10 ^ 9
  pub uncounted : lacks_sequence (created schema table) ≡ false

module _ (schema : Schema) (text : List ℕ) (table : Table) (it : IsTableFor schema text table) where
  same : (t : Table) → table_defined_by text ≡ Ok t → t ≡ table
  same t is = same_value (sym is ∙ it.defined)

  no_reason : (why : Refusal) → RefusesTable schema text why → ⊥
  no_reason (Invalid e) is = let e = sym it.defined ∙ is in cc
  no_reason NameTaken (t, is, inl used) = true≢false (sym (subst (λ x. is_used schema x.name ≡ true) (same t is) used) ∙ it.free)
  no_reason NameTaken (t, is, inr (index, here, used)) =
      true≢false (sym used ∙ all_has (λ i. is_used schema i.name ≡ false) (automatics table 0 0 table.uniques) index it.indexes (subst (λ (x : Table). Has (automatics x 0 0 x.uniques) index) (same t is) here))
  no_reason BadName (t, is, inl bad) = bad (subst (λ x. IsUtf8 x.name) (sym (same t is)) it.named)
  no_reason BadName (t, is, inr (reserved, own)) = true≢false (sym (subst (λ x. is_reserved x.name ≡ true) (same t is) reserved) ∙ it.own)
  no_reason TooBig (t, is, inl many) = omega (arith, subst (λ x. 65536 ≤ next_tree schema + length x.uniques) (same t is) many, it.few)
  no_reason TooBig (t, is, inr (inl big)) = omega (arith, subst (λ x. 2 ^ 64 ≤ table_reals x) (same t is) big, it.reals)
  no_reason TooBig (t, is, inr (inr (key, here, big))) =
      let none = all_has (λ k. index_reals (table_reals table) k ≡ 0) table.uniques key it.keys (subst (λ x. Has x.uniques key) (same t is) here) in
      omega (arith, subst (λ x. 2 ^ 64 ≤ index_reals (table_reals x) key) (same t is) big, none)
  no_reason BadKey (t, is, unformed) = true≢false (sym it.formed ∙ subst (λ x. is_formed x ≡ false) (same t is) unformed)
  no_reason BadText (t, is, unfit) = true≢false (sym it.fit ∙ subst (λ x. is_fit (Text (codes "table")) (Text x.name) (Text x.name) (Text text) ≡ false) (same t is) unfit)
  no_reason (Violates rule) none = none

  module _ (db : Database) (has : db.schema ≡ schema) where
    is_made : (stop : Option Error) → MakesTable text db (Err stop) → ⊥
    is_made None (t, is, long) = omega (arith, subst (λ x. 10 ^ 9 ≤ 2 * length x.name + length text + 200) (same t is) long, it.short)
    is_made (Some e) (inl (bad, is)) = bad it.spelled
    is_made (Some e) (inr (why, refuses, is)) = no_reason why (subst (λ s. RefusesTable s text why) has refuses)

    is_counted : (stop : Option Error) → Then (MakesTable text db) MakesSequence (Err stop) → ⊥
    is_counted stop (inl (s, makes, is)) = is_made s makes
    is_counted stop (inr (after, makes, counts)) =
        let shape : after.schema ≡ created schema table = makes.is ∙ ap (λ s. created s makes.table) has ∙ ap (created schema) (same makes.table makes.defined) in
        let e = subst (λ b. MatchBool b (MakesTable sequence_text after (Err stop)) (Gives after (Err stop))) (ap lacks_sequence shape ∙ it.uncounted) counts in
        cc

    pub table_is_made : Means schema text CreateTable → (limit : Option ℕ) → Refuses limit db text [] → ⊥
    table_is_made means limit refuses = elim (stops_at schema text CreateTable means limit db has refuses).1 [
      | inl (s, creates, is) ↦ is_counted s creates
      | inr (after, creates, gives) ↦ let e = gives in cc
    ]

-- ---- an index

keeps_blank : (rule : Constraint) (schema : Schema) (db : Trees) (tables : List Table) → AllByRecursion (λ (t : Table). db t.tree ≡ []) tables → AllByRecursion (λ t. AllByRecursion (λ row. passes rule schema db t row ≡ true) (db t.tree)) tables
keeps_blank rule schema db [] blank = tt
keeps_blank rule schema db (t ∷ tables) blank = (subst (AllByRecursion (λ row. passes rule schema db t row ≡ true)) (sym blank.0) tt, keeps_blank rule schema db tables blank.1)

-- all that is asked of a text that makes an index of the table at this place
pub record IsIndexFor (schema : Schema) (at : ℕ) (text : List ℕ) (table : Table) (index : Index) : Type 0 where
  pub defined : index_defined_by table text ≡ Ok index
  pub there : slice_get schema.tables at ≡ Some table
  pub spelled : IsUtf8 text
  pub named : IsUtf8 index.name
  pub owner : IsUtf8 table.name
  pub own : is_reserved index.name ≡ false
  pub free : is_used schema index.name ≡ false
  pub few : next_tree schema < 65536
  pub reals : table_reals table ≡ 0
  pub keys : index_reals (table_reals table) index.columns ≡ 0
  pub fit : is_fit (Text (codes "index")) (Text index.name) (Text table.name) (Text text) ≡ true
  pub short : length index.name + length table.name + length text + 200 < 10 ^ 9

module _ (schema : Schema) (at : ℕ) (text : List ℕ) (table : Table) (index : Index) (it : IsIndexFor schema at text table index) where
  one : (i : Index) → index_defined_by table text ≡ Ok i → i ≡ index
  one i is = same_value (sym is ∙ it.defined)

  module _ (db : Database) (was : HasBlank schema db) (empty : db.trees table.tree ≡ []) where
    no_reason_for : (why : Refusal) → RefusesIndex schema db.trees table text why → ⊥
    no_reason_for (Invalid e) is = let e = sym it.defined ∙ is in cc
    no_reason_for NameTaken (i, is, used) = true≢false (sym (subst (λ x. is_used schema x.name ≡ true) (one i is) used) ∙ it.free)
    no_reason_for BadName (i, is, inl (inl bad)) = bad (subst (λ x. IsUtf8 x.name) (sym (one i is)) it.named)
    no_reason_for BadName (i, is, inl (inr (reserved, own))) = true≢false (sym (subst (λ x. is_reserved x.name ≡ true) (one i is) reserved) ∙ it.own)
    no_reason_for BadName (i, is, inr bad) = bad it.owner
    no_reason_for TooBig (i, is, inl many) = omega (arith, many, it.few)
    no_reason_for TooBig (i, is, inr (inl big)) = omega (arith, big, it.reals)
    no_reason_for TooBig (i, is, inr (inr big)) = omega (arith, subst (λ x. 2 ^ 64 ≤ index_reals (table_reals table) x.columns) (one i is) big, it.keys)
    no_reason_for BadKey none = none
    no_reason_for BadText (i, is, unfit) = true≢false (sym it.fit ∙ subst (λ x. is_fit (Text (codes "index")) (Text x.name) (Text table.name) (Text text) ≡ false) (one i is) unfit)
    no_reason_for (Violates rule) (i, is, unique, broken) = broken (keeps_blank Unique (indexed schema table i) db.trees schema.tables was.blank)

    is_indexed : (stop : Option Error) → MakesIndex text db table (Err stop) → ⊥
    is_indexed None (i, is, inl long) = omega (arith, subst (λ x. 10 ^ 9 ≤ length x.name + length table.name + length text + 200) (one i is) long, it.short)
    is_indexed None (i, is, inr (row, here, big)) = subst (λ l. Has l row) empty here
    is_indexed (Some e) (inl (bad, is)) = bad it.spelled
    is_indexed (Some e) (inr (why, refuses, is)) = no_reason_for why (subst (λ s. RefusesIndex s db.trees table text why) was.schema_is refuses)

    pub index_is_made : Means schema text (CreateIndex at) → (limit : Option ℕ) → Refuses limit db text [] → ⊥
    index_is_made means limit refuses =
        let stop = stops_at schema text (CreateIndex at) means limit db was.schema_is refuses in
        elim (subst (λ o. AtPlace (λ t. Defines usual (MakesIndex text db t)) o (Err stop.0)) (ap (λ s. slice_get s.tables at) was.schema_is ∙ it.there) stop.1) [
          | inl (s, makes, is) ↦ is_indexed s makes
          | inr (after, makes, gives) ↦ let e = gives in cc
        ]
