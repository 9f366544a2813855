-- Calls on a table of the third version, where the register stands.
use Rattle.std.proofs.Common.{◌≡◌, ◌⊎◌, ℕ, List, Bool, true, false, IsTrue, Option, Some, None, IsSome, Ok, Err, Result, IfErr, inl, inr, refl, sym, ap, subst, arith}
use Rattle.sqlite.specs.Order.{Row}
use Rattle.sqlite.specs.Schema.{Schema}
use Rattle.sqlite.specs.Effect.{Database}
use Rattle.sqlite.specs.Held.{Held, state}
use Rattle.sqlite.specs.Listing.{understood}
use Rattle.sqlite.specs.State.{State, HasCleanDisk, Shown, Survives}
use Rattle.sqlite.specs.Store.{Ghosts}
use Rattle.sqlite.proofs.Callers.{IsPlain}
use Rattle.wgr_model.specs.Rows.{Tables}
use Rattle.wgr_sql.specs.Calls.{Answered, IsKept}
use Rattle.wgr_sql.specs.Causes.{HasCauseOr, IsAnswered, IsHindered, IsWriting, Refuses}
use Rattle.wgr_sql.specs.declared.fault.Fault.{Fault}
use Rattle.wgr_sql.specs.declared.fault.Fault.TheVariants.{NoMemory, Store}
use Rattle.wgr_sql.proofs.StandingLemmas.{stands_kept, plain_at}
use Rattle.wgr_columns.specs.Layout.{HasReader}
use Rattle.wgr_columns.specs.Decode.{IsRegister, tables_of}
use Rattle.wgr_tables.specs.Standing.{Stands}
use Rattle.wgr_tables.specs.Stops.{IsStatementRefused}
use Rattle.wgr_tables.specs.Writes.{Written, Writes}
use Rattle.wgr_entries.specs.ThirdVersion.{FailsOnThird, IsThird, IsThirdRegister, OnlyReadsThird}

-- ---- queries

module _ {S : Type 0} (g : Ghosts S) (old new : Held S) (text : List ℕ) (survives : Survives (state g old) (state g new) (λ _. ⊥)) where
  pub reads_third : ((schema : Schema) → HasReader schema → IsPlain (understood schema text)) → ((IsTrue (state g old).is_open → HasCleanDisk (state g new) → IsPlain (understood old.schema text)) → IsKept (state g old) (state g new))
      → new.in_transaction ≡ false → OnlyReadsThird g old new
  reads_third plain kept idle = record {
    idle = idle;
    clean = λ clean. omega (arith, survives.clean, clean);
    stands = λ db pending stood third.
        stands_kept IsRegister Writes g old new db pending stood
        (kept (λ live clean. plain_at IsRegister Writes g old db pending db.schema text refl stood (omega (arith, survives.clean, clean)) live (plain db.schema (stood.sound.later third).reader))) idle survives;
    survives = survives;
  }

  module _ (db : Database) (pending : List Written) (stood : Stands g old db pending) (third : IsThird (tables_of db)) where
    -- what is true of each answer on such rows is true here
    pub rows_third : (P : Tables → List Row → Type 0) (params : Row) → ((a b : State) → IsThirdRegister a.now → (rows : List Row) → Shown text params a b rows → P (tables_of a.now) rows)
        → HasCleanDisk (state g new) → (rows : List Row) → Answered g text params old rows → P (tables_of db) rows
    rows_third P params listed clean rows answer =
        let was : HasCleanDisk (state g old) = omega (arith, survives.clean, clean) in
        let here = stood.shows was answer.was_open in
        let start : IsThirdRegister db = record { register = stood.sound; third = third } in
        subst (λ (x : Database). P (tables_of x) rows) here (listed (state g (record old { in_transaction = true })) (state g answer.after) (subst IsThirdRegister (sym here) start) rows answer.shown)

    pub answered_third : (params : Row) → ((schema : Schema) → HasReader schema → IsAnswered schema text params) → IsTrue (state g old).is_open → HasCleanDisk (state g new) → IsAnswered old.schema text params
    answered_third params answered live clean =
        let shown = stood.shows (omega (arith, survives.clean, clean)) live in
        subst (λ s. IsAnswered s text params) (sym (ap (λ (d : Database). d.schema) shown)) (answered db.schema (stood.sound.later third).reader)

-- ---- a statement that fails

module _ (old new : State) (start : IsTrue old.is_open → IsThirdRegister old.now) (text : List ℕ) (params : Row) where
  refused_at : Refuses old.step_limit old.now text params → IsHindered old new ⊎ IsStatementRefused text params (tables_of old.now)
  refused_at refuses = go old.is_open refl old.step_limit refl
    where
      go : (b : Bool) → old.is_open ≡ b → (limit : Option ℕ) → old.step_limit ≡ limit → IsHindered old new ⊎ IsStatementRefused text params (tables_of old.now)
      go false shut limit is = inl (inr (inl shut))
      go true live (Some n) is = inl (inr (inr (subst IsSome (sym is) refl)))
      go true live None is = inr (old.now, (start live).register, refl, subst (λ l. Refuses l old.now text params) is refuses)

  refused_so : (f : Fault) → HasCauseOr (Refuses old.step_limit old.now text params) old new f → HasCauseOr (IsStatementRefused text params (tables_of old.now)) old new f
  refused_so NoMemory h = tt
  refused_so (Store w) h = λ clean. elim (h clean) [ inl hindered ↦ inl hindered | inr refuses ↦ refused_at refuses ]

pub third_fails : (old new : State) (text : List ℕ) (params : Row) (r : Result ℕ Fault) → ((schema : Schema) → HasReader schema → IsWriting schema text params)
    → (IsTrue old.in_transaction → (IsTrue old.is_open → HasCleanDisk new → IsWriting old.now.schema text params) → IfErr r (HasCauseOr (Refuses old.step_limit old.now text params) old new)) → FailsOnThird (IsStatementRefused text params) old new r
third_fails old new text params (Ok count) writes cause inside start = tt
third_fails old new text params (Err f) writes cause inside start =
    refused_so old new start text params f (cause inside (λ live clean. let it = start live in writes old.now.schema (it.register.later it.third).reader))
