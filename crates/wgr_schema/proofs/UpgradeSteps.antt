-- What each statement leaves that takes a register's tables to the third version.
use Rattle.std.proofs.Common.{◌≡◌, ℕ, List, [], ◌∷◌, codes, false, true, Ok, Result, IfOk, IsTrue, filter, map, refl, sym, ap, subst, ◌∙◌, inl, inr}
use Rattle.sqlite.specs.Order.{Row}
use Rattle.sqlite.specs.Table.{Table}
use Rattle.sqlite.specs.Command.TheVariants.{CreateTable}
use Rattle.sqlite.specs.Does.{lacks_sequence}
use Rattle.sqlite.specs.Effect.{Database}
use Rattle.sqlite.specs.State.{State, Executes, Shows, KeepsCommit}
use Rattle.sqlite_value.specs.Order.{column}
use Rattle.sqlite_schema.specs.Names.{same_name}
use Rattle.sqlite_trees.specs.Tree.{put_row}
use Rattle.sqlite_catalog.specs.Change.{is_used}
use Rattle.wgr_model.specs.Rows.{Tables, third_version}
use Rattle.wgr_sql.specs.Effects.{CreatesTable}
use Rattle.wgr_sql.specs.Named.{rows_named}
use Rattle.wgr_sql.specs.declared.fault.Fault.{Fault}
use Rattle.wgr_sql.proofs.Compiles.{command_is, plain, statement_is}
use Rattle.wgr_sql.proofs.Creates.{no_table}
use Rattle.wgr_sql.proofs.GrowLemmas.{free_kept, rows_grown, sequence_kept}
use Rattle.wgr_sql.proofs.ResultLemmas.{if_ok}
use Rattle.wgr_sql.proofs.Statements.{makes}
use Rattle.wgr_columns.specs.Layout.{HasReader, HasSecond, meta_table_at, reader_table_at, second_table_at}
use Rattle.wgr_columns.specs.Decode.{AreReaders, AreSeconds, AreWritten, IsRegister, meta_in, tables_of}
use Rattle.wgr_tables.proofs.WriteLemmas.{row_inserted, rows_deleted}
use Rattle.wgr_schema.specs.Fresh.{Lays}
use Rattle.wgr_schema.specs.Upgrade.{Begins, Cleared, HasRows, IsUpgraded, MadeBoth, MadeSecond, MayUpgrade, clear_text, reader_text, say_text, second_text}
use Rattle.wgr_schema.specs.declared.version.Version.{Version}
use Rattle.wgr_schema.specs.declared.version.Version.TheVariants.{One, Two, Three}
use Rattle.wgr_schema.proofs.FreshLemmas.{none_written, third_row, third_written, version_row}
use Rattle.wgr_schema.proofs.GrownLemmas.{came, nothing_named, register_grown, stayed, tables_grown}
use Rattle.wgr_schema.proofs.MetaLemmas.{meta_after, named_after, register_meta, schema_after}
use Rattle.wgr_schema.proofs.UpgradeTexts.{clear_means, later_defined, reader_compiles, say_means, say_values, second_compiles}

-- ---- the start

no_readers : (from : Version) (db : Database) → MayUpgrade from db → (from ≡ Three → ⊥) → rows_named db (codes "reader") ≡ []
no_readers One db may older = nothing_named db (codes "reader") may.free.1
no_readers Two db may older = nothing_named db (codes "reader") may.free
no_readers Three db may older = absurd (older refl)

are_seconds : (from : Version) (db : Database) → MayUpgrade from db → (from ≡ Three → ⊥) → AreSeconds (rows_named db (codes "second"))
are_seconds One db may older = subst AreSeconds (sym (nothing_named db (codes "second") may.free.0)) (none_written _ _ _)
are_seconds Two db may older = may.seconds refl
are_seconds Three db may older = absurd (older refl)

pub begins_has : (from : Version) (start db : Database) → Begins from start db → HasRows start db
begins_has from start db at = subst (HasRows start) (sym at.same) (record {
  register = at.may.register;
  counted = at.may.counted;
  rows = λ meta. refl;
  others = λ name other. refl;
  seconds = are_seconds from start at.may at.older;
  readers = no_readers from start at.may at.older;
})

-- a register of the second version begins where the first has made the table `second`
begins_second : (start db : Database) → Begins Two start db → MadeSecond start db
begins_second start db at = record {
  still = begins_has Two start db at;
  second = subst (λ (d : Database). HasSecond d.schema) (sym at.same) at.may.version.2;
  free = ap (λ (d : Database). is_used d.schema (codes "reader")) at.same ∙ at.may.free;
}

pub begins_older : (from : Version) (start db : Database) → (from ≡ One → ⊥) → Begins from start db → MadeSecond start db
begins_older One start db later at = absurd (later refl)
begins_older Two start db later at = begins_second start db at
begins_older Three start db later at = absurd (at.older refl)

-- ---- a table is made

-- a register of the third version has both tables
no_second : (db : Database) → IsRegister db → is_used db.schema (codes "second") ≡ false → (tables_of db).meta ≡ third_version → ⊥
no_second db register free is = let h = (register.later is).second in let none = sym (no_table db.schema (codes "second") free) ∙ h.named in cc

no_reader : (db : Database) → IsRegister db → is_used db.schema (codes "reader") ≡ false → (tables_of db).meta ≡ third_version → ⊥
no_reader db register free is = let h = (register.later is).reader in let none = sym (no_table db.schema (codes "reader") free) ∙ h.named in cc

rows_stay : (start old new : Database) (table : Table) → HasRows start old → CreatesTable old.schema table old new → table.references ≡ [] → table.is_counted ≡ false → ((tables_of old).meta ≡ third_version → ⊥) → HasRows start new
rows_stay start old new table was grows unreferring uncounted older = record {
  register = register_grown table old new was.register grows unreferring older;
  counted = ap lacks_sequence grows.schema_is ∙ sequence_kept old.schema table uncounted was.counted;
  rows = λ meta. ap (λ (t : Tables). record t { meta = meta }) (tables_grown table old new was.register grows) ∙ was.rows meta;
  others = λ name other. rows_grown old new table grows name ∙ was.others name other;
  seconds = was.seconds;
  readers = was.readers;
}

module _ (start : Database) (old new : State) (count : ℕ) where
  pub second_made : Begins One start old.now → Executes second_text [] old new (Ok count) → MadeSecond start new.now
  unfolding same_name
  second_made at ran =
      let schema = old.now.schema in
      let free : is_used schema (codes "second") ≡ false = ap (λ (d : Database). is_used d.schema (codes "second")) at.same ∙ at.may.free.0 in
      let unread : is_used schema (codes "reader") ≡ false = ap (λ (d : Database). is_used d.schema (codes "reader")) at.same ∙ at.may.free.1 in
      let was = begins_has One start old.now at in
      let means = second_compiles schema free in
      let table = second_table_at 0 in
      let grows = makes old new schema refl second_text table (plain schema second_text CreateTable 0 means) (command_is schema second_text CreateTable 0 means) (statement_is schema second_text CreateTable 0 means) later_defined.0
      (sequence_kept schema table refl was.counted) count ran in
      record {
        still = rows_stay start old.now new.now table was grows refl refl (no_second old.now was.register free);
        second = came table old.now new.now was.register grows (codes "second") second_table_at (λ t. refl) (λ t. refl) refl refl (λ t. refl) free;
        free = ap (λ s. is_used s (codes "reader")) grows.schema_is ∙ free_kept schema table (codes "reader") refl (λ at key tree. refl) unread;
      }

  pub reader_made : MadeSecond start old.now → Executes reader_text [] old new (Ok count) → MadeBoth start new.now
  unfolding same_name
  reader_made at ran =
      let schema = old.now.schema in
      let was = at.still in
      let means = reader_compiles schema at.free in
      let table = reader_table_at 0 in
      let grows = makes old new schema refl reader_text table (plain schema reader_text CreateTable 0 means) (command_is schema reader_text CreateTable 0 means) (statement_is schema reader_text CreateTable 0 means) later_defined.1
      (sequence_kept schema table refl was.counted) count ran in
      record {
        still = rows_stay start old.now new.now table was grows refl refl (no_reader old.now was.register at.free);
        second = stayed table old.now new.now was.register grows (codes "second") second_table_at (λ t. refl) at.second;
        reader = came table old.now new.now was.register grows (codes "reader") reader_table_at (λ t. refl) (λ t. refl) refl refl (λ t. refl) at.free;
      }

-- ---- the version is written

none_left : {A : Type 0} (xs : List A) → filter (λ x. false) xs ≡ []
none_left [] = refl
none_left (x ∷ xs) = none_left xs

module _ (start : Database) (old new : State) (count : ℕ) where
  pub meta_cleared : MadeBoth start old.now → Executes clear_text [] old new (Ok count) → Cleared start new.now
  unfolding same_name
  meta_cleared at ran =
      let was = at.still in
      let register = was.register in
      let done = rows_deleted old new register clear_text [] count ran 0 (meta_table_at 0) refl refl [] (clear_means register.others) register.written.meta.keyed in
      let e = done.edits in
      let none : new.now.trees 0 ≡ [] = e.rows ∙ none_left (old.now.trees 0) in
      let left = filter (λ (r : Row). false) (old.now.trees 0) in
      let rows = meta_after old.now new.now register left e in
      let same = schema_after old.now new.now register left e in
      let empty : (tables_of new.now).meta ≡ [] = ap (map meta_in) none in
      record {
        made = record {
          still = record {
            register = register_meta old.now new.now register left e done.sound (subst (AreWritten (0 ∷ []) [] []) (sym (none_left (old.now.trees 0))) (none_written (0 ∷ []) [] [])) (λ is. absurd (let none = sym empty ∙ is in cc));
            counted = ap lacks_sequence same ∙ was.counted;
            rows = λ meta. ap (λ (t : Tables). record t { meta = meta }) rows ∙ was.rows meta;
            others = λ name other. named_after old.now new.now register left e name other ∙ was.others name other;
            seconds = was.seconds;
            readers = was.readers;
          };
          second = subst HasSecond (sym same) at.second;
          reader = subst HasReader (sym same) at.reader;
        };
        none = none;
      }

  pub version_said : Cleared start old.now → Executes say_text [] old new (Ok count) → IsUpgraded start new.now
  unfolding same_name
  version_said at ran =
      let was = at.made.still in
      let register = was.register in
      let none = at.none in
      let done = row_inserted old new register say_text [] count ran 0 (meta_table_at 0) refl refl say_values 2 (say_means register.others) refl third_row (version_row old.now.trees none) in
      let after = put_row third_row (old.now.trees 0) in
      let e = done.0.edits in
      let one : after ≡ third_row ∷ [] = ap (put_row third_row) none in
      let rows : new.now.trees 0 ≡ third_row ∷ [] = e.rows ∙ one in
      let same = schema_after old.now new.now register after e in
      let stays = λ (name : List ℕ) (other : same_name (codes "meta") name ≡ false). named_after old.now new.now register after e name other ∙ was.others name other in
      let second = subst HasSecond (sym same) at.made.second in
      let reader = subst HasReader (sym same) at.made.reader in
      let good = register_meta old.now new.now register after e done.0.sound (subst (AreWritten (0 ∷ []) [] []) (sym one) third_written)
      (λ _. record { second = second; reader = reader; seconds = subst AreSeconds (sym (stays (codes "second") refl)) was.seconds; readers = subst AreReaders (sym (stays (codes "reader") refl ∙ was.readers)) (none_written [] [] []) }) in
      record {
        register = good;
        version = (record { others = good.others; schema_is = good.schema_is; apart = good.apart }, ap (map (λ r. column r 0)) rows, (second, reader));
        rows = meta_after old.now new.now register after e ∙ ap (λ l. record (tables_of old.now) { meta = map meta_in l }) one ∙ was.rows third_version;
        others = stays;
      }

-- ---- steps

-- what `execute` says of a statement
abbrev pub Ran : List ℕ → State → State → Result ℕ Fault → Type 0
Ran sql a b r = IsTrue a.in_transaction → IfOk r (λ count. Executes sql [] a b (Ok count) × Shows a b b.now a.committed true)

module _ (a b : State) (r : Result ℕ Fault) (kept : IsTrue a.in_transaction → KeepsCommit a b) where
  -- a statement that makes the one of the other
  pub lays : (sql : List ℕ) (from to : Database → Type 0) → ((count : ℕ) → from a.now → Executes sql [] a b (Ok count) → to b.now) → Ran sql a b r → Lays from to a b r
  lays sql from to makes ran inside at = (kept inside, if_ok r _ _ (λ count h. (makes count (at h.1.was_open) h.0, h.1)) (ran inside))
