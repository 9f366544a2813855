-- Why a walk over rows ends by a fault.
use Rattle.std.proofs.Common.{◌≡◌, ◌↔◌, ◌⊎◌, List, [], Ok, Err, Result, IfErr, IsErrAnd, MatchResult, inl, inr, sym, subst, arith}
use Rattle.sqlite.specs.Order.{Row}
use Rattle.sqlite.specs.declared.error.Error.{Error}
use Rattle.sqlite.specs.declared.error.Error.TheVariants.{SqliteFailure}
use Rattle.sqlite.specs.declared.error.ErrorCode.TheVariants.{OutOfMemory}
use Rattle.sqlite.specs.Effect.{Database}
use Rattle.sqlite.specs.Given.{FailsToAdvance, HasGiven}
use Rattle.sqlite.specs.Held.{Held, state}
use Rattle.sqlite.specs.State.{State, FailsToQuery, HasCleanDisk, Survives}
use Rattle.sqlite.specs.Store.{Ghosts}
use Rattle.wgr_sql.specs.Causes.{HasCause, IsHindered}
use Rattle.wgr_sql.specs.Faults.{IsStore}
use Rattle.wgr_sql.specs.declared.fault.Fault.{Fault}
use Rattle.wgr_sql.specs.declared.fault.Fault.TheVariants.{NoMemory}
use Rattle.wgr_sql.proofs.CauseLemmas.{cause_after, cause_if, hindered_after, if_open, mapped_cause, query_hindered}
use Rattle.wgr_columns.specs.LaidOut.{IsLaidOut}
use Rattle.wgr_columns.specs.LaidOut.{Laid}
use Rattle.wgr_checks.specs.declared.table.Table.{Table}
use Rattle.wgr_checks.specs.TableRows.{text_of}
use Rattle.wgr_checks.specs.Walked.{IsStill}
use Rattle.wgr_checks.proofs.MemberQueries.{answered}
use Rattle.wgr_checks.proofs.StreamLemmas.{is_open}

abbrev Told : Fault → Error → Type 0
Told f e = (f ≡ NoMemory) ↔ (e ≡ SqliteFailure OutOfMemory)

-- the query of the table didn't begin
pub failed_cause : (t : Table) (old new : State) (e : Error) (f : Fault) → Told f e → (HasCleanDisk new → Laid old) → (HasCleanDisk new → FailsToQuery (text_of t) [] old new e) → HasCause old new f
failed_cause t old new e f told laid fails = cause_if ⊥ old new f (λ is clean. elim (if_open (text_of t) [] old new ⊥ e new (λ live. elim (query_hindered (text_of t) [] old new (answered t old.now.schema (laid clean live)) e (inl (fails clean))) [
  | inl memory ↦ inl memory
  | inr hindered ↦ inr (inl hindered)
])) [
  | inl memory ↦ absurd (subst IsStore (told.1 memory) is)
  | inr so ↦ so
])

-- The walk began at `start`, and is at `mid` when it goes on to the next row.
pub advance_cause : {S X : Type 0} (g : Ghosts S) (t : Table) (start : State) (mid new : Held S) → Survives start (state g mid) (λ _. ⊥) → (HasCleanDisk (state g mid) → IsStill start (state g mid)) → Survives (state g mid) (state g new) (λ _. ⊥)
    → (HasCleanDisk (state g new) → Laid start × ((given : List Row) × HasGiven g (text_of t) [] mid given)) → (r : Result X Error) (s : Result X Fault) → MatchResult r (λ x. s ≡ Ok x) (λ e. IsErrAnd s (λ f. Told f e))
    → (HasCleanDisk (state g new) → IfErr r (FailsToAdvance g mid new)) → IfErr s (HasCause start (state g new))
advance_cause {X = X} g t start mid new before still after known r s cases fails = mapped_cause ⊥ start (state g new) r s cases (each r fails)
  where
    each : (q : Result X Error) → (HasCleanDisk (state g new) → IfErr q (FailsToAdvance g mid new)) → IfErr q (λ e. HasCleanDisk (state g new) → (e ≡ SqliteFailure OutOfMemory) ⊎ (IsHindered start (state g new) ⊎ ⊥))
    each (Ok x) failed = tt
    each (Err e) failed = λ clean.
        let then : HasCleanDisk (state g mid) = omega (arith, after.clean, clean) in
        let it = known clean in
        let same = still then (is_open t [] g mid it.1.0 it.1.1) in
        let laid : IsLaidOut (state g mid).now.schema = subst (λ (d : Database). IsLaidOut d.schema) (sym same.1) (it.0 same.0) in
        elim (query_hindered (text_of t) [] (state g mid) (state g new) (answered t (state g mid).now.schema laid) e (inl (failed clean (text_of t) [] it.1.0 it.1.1))) [
          | inl memory ↦ inl memory
          | inr hindered ↦ inr (inl (hindered_after start (state g mid) (state g new) (λ _. ⊥) before then after.counts hindered))
        ]

pub walk_cause : {X : Type 0} (a b d : State) → Survives a b (λ _. ⊥) → Survives b d (λ _. ⊥) → (r : Result X Fault) → IfErr r (HasCause b d) → IfErr r (HasCause a d)
walk_cause a b d s t (Ok x) h = tt
walk_cause a b d s t (Err f) h = cause_after a b d ⊥ ⊥ (λ _. ⊥) (λ _. ⊥) s t (λ none. none) f h
