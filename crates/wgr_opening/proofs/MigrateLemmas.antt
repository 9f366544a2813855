-- What becomes of a register that is taken to the third version.
use Rattle.std.proofs.Common.{◌≡◌, ◌∙◌, ◌⊎◌, ◌||◌, ℕ, Bool, true, false, IsTrue, IfErr, Result, Ok, Err, [], Option, codes, refl, sym, ap, subst, inl, inr, true≢false}
use Rattle.std.specs.Result.{IsErrAnd}
use Rattle.sqlite.specs.Does.{lacks_sequence}
use Rattle.sqlite.specs.Effect.{Database}
use Rattle.sqlite.specs.Schema.{Schema}
use Rattle.sqlite.specs.State.{HasCleanDisk, Survives}
use Rattle.sqlite.specs.Store.{Ghosts}
use Rattle.sqlite.specs.Held.{Held, state}
use Rattle.sqlite.specs.Tree.{Trees}
use Rattle.sqlite.proofs.StateLemmas.{survives_then, survives_weaker}
use Rattle.sqlite_schema.specs.Names.{same_name}
use Rattle.wgr_model.specs.RowLaws.{AreConsistent}
use Rattle.wgr_sql.specs.Calls.{IsKept}
use Rattle.wgr_sql.specs.Causes.{HasCauseOr, IsHindered}
use Rattle.wgr_sql.specs.declared.fault.Fault.{Fault}
use Rattle.wgr_sql.specs.declared.fault.Fault.TheVariants.{NoMemory, Store}
use Rattle.wgr_sql.proofs.CauseLemmas.{cause_after}
use Rattle.wgr_columns.specs.Decode.{AreSeconds, tables_of}
use Rattle.wgr_tables.specs.Standing.{Stands}
use Rattle.wgr_outline.specs.declared.outline.Outline.{Outline}
use Rattle.wgr_schema.specs.Upgrade.{IsUpgraded, LeavesUpgraded, MayUpgrade, StopsUpgrade}
use Rattle.wgr_schema.specs.Versions.{IsOfVersion}
use Rattle.wgr_schema.specs.declared.version.Version.{Version}
use Rattle.wgr_schema.specs.declared.version.Version.TheVariants.{One, Two, Three}
use Rattle.wgr_schema.proofs.FreshLemmas.{none_written}
use Rattle.wgr_schema.proofs.VersionLemmas.{meta_read}
use Rattle.wgr_opening.specs.Good.{IsReady, IsReadyIn, HasSoundRows}
use Rattle.wgr_opening.specs.Migrated.{AreCounted, IsMigrated, LeavesMigrated, MayMigrate}
use Rattle.wgr_opening.specs.Outlines.{AreOutlines}
use Rattle.wgr_opening.proofs.GoodLemmas.{no_seconds}
use Rattle.wgr_opening.proofs.JoinLemmas.{good_of, other_version}

-- the third version, or an earlier one
pub data Age (version : Version) : Type 0 where
  Present : version ≡ Three → Age version
  Earlier : (version ≡ Three → ⊥) → Age version

pub age_of : (version : Version) → Age version
age_of One = Earlier (λ same. let e = same in cc)
age_of Two = Earlier (λ same. let e = same in cc)
age_of Three = Present refl

counted : (version : Version) (schema : Schema) → (version ≡ Three → ⊥) → AreCounted version schema → lacks_sequence schema ≡ false
counted One schema earlier is = is
counted Two schema earlier is = is
counted Three schema earlier is = absurd (earlier refl)

-- no database is of the third version and of an earlier one
apart : (version : Version) (db : Database) → (version ≡ Three → ⊥) → IsOfVersion version db → IsOfVersion Three db → ⊥
apart One db earlier is third = other_version 1 refl (sym (meta_read One db is.1) ∙ meta_read Three db third.1)
apart Two db earlier is third = other_version 2 refl (sym (meta_read Two db is.1) ∙ meta_read Three db third.1)
apart Three db earlier is third = earlier refl

no_meta : (b c : Bool) → (b || c) ≡ false → b ≡ false
no_meta true c none = absurd (true≢false none)
no_meta false c none = refl

module _ (version : Version) (db : Database) (ready : IsReady version db) (may : MayMigrate version db) (sound : HasSoundRows db) where
  pub may_upgrade : (version ≡ Three → ⊥) → MayUpgrade version db
  may_upgrade earlier = record {
    register = sound.register;
    version = may.0;
    free = ready.1;
    counted = counted version db.schema earlier may.1;
    seconds = λ second. subst AreSeconds (sym (no_seconds db sound)) (none_written _ _ _);
  }

  pub upgraded_migrated : (new : Database) → (version ≡ Three → ⊥) → IsUpgraded db new → IsMigrated db new
  upgraded_migrated new earlier is = record {
    good = record { register = is.register; consistent = subst AreConsistent (sym is.rows) sound.consistent };
    rows = is.rows;
    same = λ third. absurd (apart version db earlier may.0 third);
    others = λ name own. is.others name (no_meta (same_name (codes "meta") name) _ own);
  }

  pub present_migrated : version ≡ Three → IsMigrated db db
  present_migrated third =
      let of = subst (λ v. IsOfVersion v db) third may.0 in
      record { good = good_of db of sound; rows = ap (λ m. record (tables_of db) { meta = m }) (meta_read Three db of.1); same = λ _. refl; others = λ name own. refl }

-- the outlines of its networks stay
pub outlines_stay : (known : ℕ → Option Outline) (db new : Database) → IsMigrated db new → AreOutlines known (tables_of db) → AreOutlines known (tables_of new)
outlines_stay known db new is before = subst (AreOutlines known) (sym is.rows) before

-- a fault is handed on
pub handed_on : {X E : Type 0} (P : E → Type 0) (r : Result X E) (why : E) → IsErrAnd r (λ e. e ≡ why) → P why → IfErr r P
handed_on P (Ok x) why is h = tt
handed_on P (Err e) why is h = subst P (sym is) h

-- all that was tested holds of the database at the call
pub known_from : {S : Type 0} (g : Ghosts S) (version : Version) (old first mid : Held S) (P : Database → Type 0) → (HasCleanDisk (state g mid) → HasCleanDisk (state g first)) → IsKept (state g old) (state g first)
    → (HasCleanDisk (state g first) → IsReady version (state g old).now × MayMigrate version (state g old).now)
    → (HasCleanDisk (state g mid) → IsReadyIn version (state g first) → IsTrue (state g first).is_open × HasSoundRows (state g first).now × Stands g mid (state g first).now [] × P (state g first).now)
    → HasCleanDisk (state g mid) → IsReady version (state g old).now × MayMigrate version (state g old).now × HasSoundRows (state g old).now × Stands g mid (state g old).now [] × P (state g old).now
known_from g version old first mid P back kept right good clean =
    let before = back clean in
    let is = right before in
    let it = good clean (λ live. subst (IsReady version) (sym (kept before live).1) is.0) in
    let same = (kept before it.0).1 in
    (is.0, is.1, subst HasSoundRows same it.1, subst (λ (d : Database). Stands g mid d []) same it.2, subst P same it.3)

-- The connection is `old` at the call, `mid` once all was tested, and `end` at the exit.
module _ {S : Type 0} (g : Ghosts S) (version : Version) (old mid end : Held S) (P : Database → Type 0) (still : HasCleanDisk (state g end) → HasCleanDisk (state g mid))
    (known : HasCleanDisk (state g mid) → IsReady version (state g old).now × MayMigrate version (state g old).now × HasSoundRows (state g old).now × Stands g mid (state g old).now [] × P (state g old).now) where
  abbrev was : Database
  was = (state g old).now

  shown : HasCleanDisk (state g mid) → IsTrue (state g mid).is_open → (state g mid).now ≡ was
  shown clean live = (known clean).3.shows clean live

  pub may_then : (version ≡ Three → ⊥) → HasCleanDisk (state g end) → IsTrue (state g mid).is_open → MayUpgrade version (state g mid).now
  may_then earlier clean live =
      let before = still clean in
      let is = known before in
      subst (MayUpgrade version) (sym (shown before live)) (may_upgrade version was is.0 is.1 is.2 earlier)

  -- the tables were changed, or they were those of the third version
  pub migrated : HasCleanDisk (state g end) → ((version ≡ Three → ⊥) → IsTrue (state g mid).is_open) → (MayUpgrade version (state g mid).now → IsUpgraded (state g mid).now (state g end).now)
      → (MayUpgrade version (state g mid).now → IsTrue (state g mid).is_open → Stands g end (state g end).now []) → (version ≡ Three → end ≡ mid) → (db : Database) × IsMigrated was db × Stands g end db []
  migrated clean live made stood same = by (age_of version) where
    is : IsReady version was × MayMigrate version was × HasSoundRows was × Stands g mid was [] × P was
    is = known (still clean)

    by : Age version → (db : Database) × IsMigrated was db × Stands g end db []
    by (Present third) = (was, present_migrated version was is.0 is.1 is.2 third, subst (λ h. Stands g h was []) (sym (same third)) is.3)
    by (Earlier earlier) =
        let shows = live earlier in
        let may = may_then earlier clean shows in
        let new = (state g end).now in
        (new, upgraded_migrated version was is.0 is.1 is.2 new earlier (subst (λ d. IsUpgraded d new) (shown (still clean) shows) (made may)), stood may shows)

  -- what a stop leaves
  pub survives_migrated : Survives (state g old) (state g mid) (λ _. ⊥)
      → Survives (state g mid) (state g end) (λ trees. (IsTrue (state g mid).is_open → MayUpgrade version (state g mid).now) → IsTrue (state g mid).is_open × LeavesUpgraded (state g mid).now trees)
      → (version ≡ Three → end ≡ mid) → Survives (state g old) (state g end) (LeavesMigrated was)
  survives_migrated begun ended same = by (age_of version) where
    by : Age version → Survives (state g old) (state g end) (LeavesMigrated was)
    by (Present third) = subst (λ h. Survives (state g old) (state g h) (LeavesMigrated was)) (sym (same third))
        (survives_weaker (state g old) (state g mid) (λ _. ⊥) (LeavesMigrated was) (λ _ trees none. absurd none) begun)
    by (Earlier earlier) =
        survives_then (state g old) (state g mid) (state g end) (λ _. ⊥) _ (LeavesMigrated was) (λ _ trees none. absurd none)
        (λ clean trees leaves.
        let all = leaves (may_then earlier clean) in
        let is = known (still clean) in
        (all.1.0, upgraded_migrated version was is.0 is.1 is.2 all.1.0 earlier (subst (λ d. IsUpgraded d all.1.0) (shown (still clean) all.0) all.1.1), all.1.2)) begun ended

  -- a fault
  pub fails_migrated : Survives (state g old) (state g mid) (λ _. ⊥) → {P : Trees → Type 0} → Survives (state g mid) (state g end) P → (why : Fault) → HasCauseOr (StopsUpgrade (state g mid).now) (state g mid) (state g end) why
      → HasCauseOr (StopsUpgrade was) (state g old) (state g end) why
  fails_migrated begun ended NoMemory cause = tt
  fails_migrated begun ended (Store w) cause = λ clean. cause_after (state g old) (state g mid) (state g end) (StopsUpgrade was) (StopsUpgrade was) (λ _. ⊥) _ begun ended (λ h. h) (Store w) (λ c. by_open (state g mid).is_open refl (cause c) c) clean
    where
      by_open : (b : Bool) → (state g mid).is_open ≡ b → IsHindered (state g mid) (state g end) ⊎ StopsUpgrade (state g mid).now → HasCleanDisk (state g end) → IsHindered (state g mid) (state g end) ⊎ StopsUpgrade was
      by_open true live (inl hindered) clean = inl hindered
      by_open true live (inr stops) clean = inr (subst StopsUpgrade (shown (still clean) live) stops)
      by_open false shut cause clean = inl (inr (inl shut))
