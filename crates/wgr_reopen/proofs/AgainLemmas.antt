-- What a stop leaves of a register is opened again.
use Rattle.std.proofs.Common.{◌≡◌, ◌∙◌, [], List, Result, Ok, Err, IfOk, IfErr, IsTrue, refl, sym, ap, subst, inl, inr, arith}
use Rattle.std.proofs.Math.Logic.{∥∥₁_elim, ∥∥₁_map}
use Rattle.std.proofs.lemmas.Bool.{and_from, and_parts}
use Rattle.sqlite_disk.specs.declared.Disk as disk
use Rattle.sqlite_disk.specs.declared.Files.{Files}
use Rattle.sqlite_pool.proofs.StateLemmas.{clean_is, may_leave_is}
use Rattle.sqlite_store.specs.FileStore.{faults, files, is_shielded, recovers, view}
use Rattle.sqlite_store.specs.declared.store.FileStore.{FileStore}
use Rattle.sqlite_trees.proofs.Doubt.{no_doubt}
use Rattle.sqlite_trees.specs.View.{IsClean, IsQuiet}
use Rattle.sqlite_wal.specs.Files.{outcomes}
use Rattle.sqlite_wal.specs.Reads.{AreClean}
use Rattle.sqlite.proofs.Theorems.{opens_again}
use Rattle.sqlite_wal.specs.Recovery.{Image}
use Rattle.sqlite.specs.Effect.{Database, IsDatabase}
use Rattle.sqlite.specs.Files.{FailsToOpenFiles, Finds, HoldsDatabase, IsCleanLeft, IsOpened, file_state, image_of, over_files}
use Rattle.sqlite.specs.declared.error.Error.{Error}
use Rattle.sqlite.specs.declared.file.Leftover.{Leftover}
use Rattle.sqlite.specs.Held.{AreDatabases, Held}
use Rattle.sqlite.specs.State.{HasCleanDisk}
use Rattle.sqlite.specs.Tree.{Trees}
use Rattle.wgr_model.specs.Steps.{Event}
use Rattle.wgr_model.specs.Stops.{IsLeft}
use Rattle.wgr_model.specs.RowLaws.{AreConsistent}
use Rattle.wgr_schema.specs.Versions.{IsOfEarlierVersion, IsOfVersion}
use Rattle.wgr_schema.specs.declared.version.Version.{Version}
use Rattle.wgr_schema.specs.declared.version.Version.TheVariants.{One, Two, Three}
use Rattle.wgr_schema.proofs.VersionLemmas.{meta_read, version_read}
use Rattle.wgr_columns.specs.Decode.{tables_of}
use Rattle.wgr_opening.specs.Good.{IsGood}
use Rattle.wgr_opening.specs.Migrated.{CanMigrate, IsMigrated}
use Rattle.wgr_opening.proofs.JoinLemmas.{other_version}
use Rattle.wgr_register.specs.Left.{LeavesRegister}
use Rattle.wgr_register.specs.Standing.{StandsAt}
use Rattle.wgr_register.proofs.LeftLemmas.{one_database, stop_leaves}
use Rattle.wgr_reopen.specs.Again.{FailsByFault, HoldsLeft, HoldsMigrating, StandsAgain, StandsMigrated}

-- a good register is of the third version
pub good_is_third : (db : Database) → IsGood db → IsOfVersion Three db
good_is_third db good = (version_read db good.register).1 good.consistent.rows.meta

-- and of no earlier one
pub good_is_present : (db : Database) → IsGood db → IsOfEarlierVersion db → ⊥
good_is_present db good (inl first) = other_version 1 refl (sym (meta_read One db first.1) ∙ good.consistent.rows.meta)
good_is_present db good (inr second) = other_version 2 refl (sym (meta_read Two db second.1) ∙ good.consistent.rows.meta)

good_can : (db : Database) → IsGood db → CanMigrate Three db
good_can db good = record {
  sound = record { register = good.register; consistent = subst AreConsistent (ap (λ m. record (tables_of db) { meta = m }) good.consistent.rows.meta) good.consistent };
  may = (good_is_third db good, tt);
  free = tt;
}

-- the database that is found is one that the stop left
pub found_left : (db now : Database) (late : List Event) (image : Image) → IsDatabase now → ((trees : Trees) → HoldsDatabase image trees → now.trees ≡ trees)
    → (trees : Trees) → LeavesRegister db late trees → HoldsDatabase image trees → IsGood now × IsLeft (tables_of db) late (tables_of now)
found_left db now late image sound finds trees left held =
    let same : now ≡ left.0 = one_database now left.0 sound left.1.register.sound (finds trees held ∙ left.3) in
    subst (λ (d : Database). IsGood d × IsLeft (tables_of db) late (tables_of d)) (sym same) (left.1, left.2)

-- each image that a stop leaves of the files holds a database that the register may leave
pub stop_is_left : {D : Type 0} {g : disk.Ghosts D} (conn : Held (FileStore D g)) (it : FileStore D g) (closed stopped : Files D) → (IsClean (view it) → IsTrue (view it).is_numbered)
    → (IsClean (view it) → AreDatabases (recovers it)) → IsQuiet view faults recovers is_shielded conn.store it → (closed.log, closed.db) ≡ files it
    → g.may_leave closed.log (g.seen stopped.log) → g.may_leave closed.db (g.seen stopped.db) → (IsTrue (g.is_clean stopped.log) → IsTrue (g.is_clean closed.log))
    → (IsTrue (g.is_clean stopped.db) → IsTrue (g.is_clean closed.db)) → AreClean g stopped.log stopped.db
    → HasCleanDisk (file_state conn) × ∥ ((trees : Trees) × (file_state conn).may_leave trees × HoldsDatabase (image_of g stopped) trees) ∥₁
stop_is_left {D} {g} conn it closed stopped numbered sound quiet same log db log_clean db_clean clean =
    let parts = and_parts (g.is_clean stopped.log) (g.is_clean stopped.db) clean in
    let sure = subst (λ (p : D × D). AreClean g p.0 p.1) same (and_from (g.is_clean closed.log) (g.is_clean closed.db) (log_clean parts.0) (db_clean parts.1)) in
    let none : IsClean (view it) = no_doubt _ (clean_is it.pool ∙ sure) in
    let may = may_leave_is it.pool (image_of g stopped) sure (subst (λ (p : D × D). outcomes g p.0 p.1 (image_of g stopped)) same (log, db)) in
    let was : HasCleanDisk (file_state conn) = omega (arith, quiet.clean) in
    (was, ∥∥₁_map (opens_again it (numbered none) (sound none) (image_of g stopped) may) (λ found. (found.0, quiet.outcomes found.0 found.1, found.2)))

-- where files hold what a stop left of a register, so does the connection that is opened over them
module _ {D : Type 0} {g : disk.Ghosts D} (db : Database) (late : List Event) (stopped : Files D) (conn : Held (FileStore D g)) (held : HasCleanDisk (file_state conn) → HoldsLeft g stopped db late)
    (opened : HasCleanDisk (file_state conn) → IsOpened conn) (found : HasCleanDisk (file_state conn) → Finds stopped conn) where
  finds_left : HasCleanDisk (file_state conn) → ∥ (IsGood (file_state conn).now × IsLeft (tables_of db) late (tables_of (file_state conn).now)) ∥₁
  finds_left clean =
      let is = opened clean in
      let finds = found clean in
      ∥∥₁_map (held clean) (λ it.
      found_left db (file_state conn).now late (image_of g stopped) (is.1 is.0.is_open).0 (λ trees holds. ap (λ (d : Database). d.trees) is.0.clean ∙ finds.holds trees holds) it.0.trees
      (it.0, it.1, it.2, refl) it.3)

  pub stands_again : {E : Type 0} (r : Result (Held (FileStore D g)) E) → IfOk r (λ again. HasCleanDisk (file_state again) → HasCleanDisk (file_state conn))
      → IfOk r (λ again. HasCleanDisk (file_state again) → IsGood (file_state conn).now × StandsAt over_files again (file_state conn).now []) → IfOk r (λ again. StandsAgain over_files again db late)
  stands_again (Ok again) clean good = λ now. let is = good now in ((file_state conn).now, is.0, is.1, ∥∥₁_map (finds_left (clean now)) (λ h. h.1))
  stands_again (Err e) clean good = tt

  -- what a good register rules out isn't answered
  pub never_told : {X E : Type 0} (r : Result X E) (Told : E → Type 0) (Never : Type 0) (after : E → Held (FileStore D g)) → IfErr r (λ e. HasCleanDisk (file_state (after e)) → HasCleanDisk (file_state conn))
      → IfErr r (λ e. HasCleanDisk (file_state (after e)) → Told e → Never) → (Never → IsGood (file_state conn).now → ⊥) → IfErr r (λ e. HasCleanDisk (file_state (after e)) → Told e → ⊥)
  never_told (Ok x) Told Never after clean never so = tt
  never_told (Err e) Told Never after clean never so = λ now told. ∥∥₁_elim (finds_left (clean now)) (λ x y. absurd x) (λ h. so (never now told) h.0)

-- the same of a migration
module _ {D : Type 0} {g : disk.Ghosts D} (version : Version) (old : Database) (can : CanMigrate version old) (stopped : Files D) (conn : Held (FileStore D g)) (held : HoldsMigrating g stopped old)
    (opened : HasCleanDisk (file_state conn) → IsOpened conn) (found : HasCleanDisk (file_state conn) → Finds stopped conn) where
  -- what is found can be migrated to a register that is one of the first database
  abbrev FindsMigrating : Type 0
  FindsMigrating = (v : Version) × CanMigrate v (file_state conn).now × ((db : Database) → IsMigrated (file_state conn).now db → IsMigrated old db)

  finds_migrating : HasCleanDisk (file_state conn) → ∥ FindsMigrating ∥₁
  finds_migrating clean =
      let is = opened clean in
      let finds = found clean in
      let sound = (is.1 is.0.is_open).0 in
      let now = (file_state conn).now in
      let shown : (trees : Trees) → HoldsDatabase (image_of g stopped) trees → now.trees ≡ trees = λ trees holds. ap (λ (d : Database). d.trees) is.0.clean ∙ finds.holds trees holds in
      ∥∥₁_map held (λ it. elim it.2 [
        | inl before ↦
            let same : now ≡ old = one_database now old sound can.sound.register.sound (shown it.0 it.1 ∙ before) in
            (version, subst (CanMigrate version) (sym same) can, λ db made. subst (λ d. IsMigrated d db) same made)
        | inr all ↦
            let same : now ≡ all.0 = one_database now all.0 sound all.1.good.register.sound (shown it.0 it.1 ∙ all.2) in (
              Three,
              subst (CanMigrate Three) (sym same) (good_can all.0 all.1.good),
              λ db made.
                  let again : IsMigrated all.0 db = subst (λ d. IsMigrated d db) same made in
                  subst (IsMigrated old) (sym (again.same (good_is_third all.0 all.1.good))) all.1,
            )
      ])

  pub stands_migrated : {E : Type 0} (r : Result (Held (FileStore D g)) E) → IfOk r (λ again. HasCleanDisk (file_state again) → HasCleanDisk (file_state conn))
      → IfOk r (λ again. HasCleanDisk (file_state again) → (db : Database) × IsMigrated (file_state conn).now db × StandsAt over_files again db []) → IfOk r (λ again. StandsMigrated over_files again old)
  stands_migrated (Ok again) clean done = λ now. let is = done now in ∥∥₁_map (finds_migrating (clean now)) (λ h. (is.0, h.2 is.0 is.1, is.2))
  stands_migrated (Err e) clean done = tt

  -- what a register that can be migrated rules out isn't answered
  pub never_migrating : {X E : Type 0} (r : Result X E) (Told : E → Type 0) (Never : Type 0) (after : E → Held (FileStore D g)) → IfErr r (λ e. HasCleanDisk (file_state (after e)) → HasCleanDisk (file_state conn))
      → IfErr r (λ e. HasCleanDisk (file_state (after e)) → Told e → Never) → (Never → (v : Version) → CanMigrate v (file_state conn).now → ⊥) → IfErr r (λ e. HasCleanDisk (file_state (after e)) → Told e → ⊥)
  never_migrating (Ok x) Told Never after clean never so = tt
  never_migrating (Err e) Told Never after clean never so = λ now told. ∥∥₁_elim (finds_migrating (clean now)) (λ x y. absurd x) (λ h. so (never now told) h.0 h.1)

-- what a stop leaves of a register is held by its files
pub holds_left : {D : Type 0} {g : disk.Ghosts D} (register : Held (FileStore D g)) (stopped : Files D) (db : Database) (late : List Event) → StandsAt over_files register db late
    → HasCleanDisk (file_state register) × ∥ ((trees : Trees) × (file_state register).may_leave trees × HoldsDatabase (image_of g stopped) trees) ∥₁ → HoldsLeft g stopped db late
holds_left {g = g} register stopped db late at left =
    ∥∥₁_map left.1 (λ it. let is = stop_leaves over_files register db late at left.0 it.0 it.1 in (is.0, is.1, is.2, subst (HoldsDatabase (image_of g stopped)) is.3 it.2))

-- files that hold a database aren't refused as none
pub fails_by_fault : {D : Type 0} {g : disk.Ghosts D} (files : Files D) (db : Database) (late : List Event) (left : Leftover D g) (e : Error) → HoldsLeft g files db late
    → FailsToOpenFiles files left e → FailsByFault g files left e
fails_by_fault files db late left e held (inl memory) = inl memory
fails_by_fault files db late left e held (inr (inl refused)) = absurd (∥∥₁_elim held (λ x y. absurd x) (λ it. refused.1 (inl (it.0.trees, it.3))))
fails_by_fault files db late left e held (inr (inr (inl fault))) = inr (inl (_, fault.0, fault.1))
fails_by_fault files db late left e held (inr (inr (inr full))) = inr (inr full)

-- nor are those in which a migration was stopped
pub migrating_fails_by_fault : {D : Type 0} {g : disk.Ghosts D} (files : Files D) (old : Database) (left : Leftover D g) (e : Error) → HoldsMigrating g files old → FailsToOpenFiles files left e → FailsByFault g files left e
migrating_fails_by_fault files old left e held (inl memory) = inl memory
migrating_fails_by_fault files old left e held (inr (inl refused)) = absurd (∥∥₁_elim held (λ x y. absurd x) (λ it. refused.1 (inl (it.0, it.1))))
migrating_fails_by_fault files old left e held (inr (inr (inl fault))) = inr (inl (_, fault.0, fault.1))
migrating_fails_by_fault files old left e held (inr (inr (inr full))) = inr (inr full)

pub fails_if : {D X : Type 0} {g : disk.Ghosts D} (files : Files D) (db : Database) (late : List Event) (r : Result X (Error × Leftover D g)) → HoldsLeft g files db late
    → IfErr r (λ e. IsCleanLeft e.1 → FailsToOpenFiles files e.1 e.0) → IfErr r (λ e. IsCleanLeft e.1 → FailsByFault g files e.1 e.0)
fails_if files db late (Ok x) held cause = tt
fails_if files db late (Err e) held cause = λ clean. fails_by_fault files db late e.1 e.0 held (cause clean)
