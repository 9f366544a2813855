-- Why a commit of a register's rows fails.
use Rattle.std.proofs.Common.{◌≡◌, ◌↔◌, ◌⊎◌, ℕ, List, [], Bool, true, false, Ok, Err, Result, IfErr, IsErrAnd, MatchResult, inl, inr, refl, sym, subst, arith}
use Rattle.sqlite.specs.Tree.{Trees}
use Rattle.sqlite.specs.Effect.{Database}
use Rattle.sqlite.specs.declared.error.Error.{Error}
use Rattle.sqlite.specs.declared.error.Error.TheVariants.{SqliteFailure}
use Rattle.sqlite.specs.declared.error.ErrorCode.TheVariants.{OutOfMemory}
use Rattle.sqlite.specs.State.{HasCleanDisk, Survives}
use Rattle.sqlite.specs.Steps.{FailsToCommit}
use Rattle.sqlite.specs.Store.{Ghosts}
use Rattle.sqlite.specs.Held.{Held, state}
use Rattle.wgr_model.specs.Rows.{Tables}
use Rattle.wgr_sql.specs.Causes.{HasCauseOr, IsHindered}
use Rattle.wgr_sql.specs.declared.fault.Fault.{Fault}
use Rattle.wgr_sql.specs.declared.fault.Fault.TheVariants.{NoMemory, Store}
use Rattle.wgr_sql.proofs.CauseLemmas.{commit_cause, hindered_after, hindered_before, mapped_cause}
use Rattle.wgr_columns.specs.Decode.{IsRegister, tables_of}
use Rattle.wgr_tables.specs.Standing.{Stands, StepsAs}
use Rattle.wgr_tables.specs.Stops.{FailsBy}
use Rattle.wgr_tables.specs.Writes.{Written}

-- The connection is `old` at the call, `mid` after the steps of the transaction, and `end` at the exit.
module _ {S : Type 0} (g : Ghosts S) (old mid end : Held S) (db : Database) (pending : List Written) (stood : Stands g old db pending) (stops : Tables → Type 0)
    (begun : Survives (state g (record old { in_transaction = true })) (state g mid) (λ _. ⊥)) where
  -- a step failed, and the transaction was rolled back
  pub undone_fails : (f : Fault) → Survives (state g mid) (state g end) (λ _. ⊥) → FailsBy {X = ℕ} stops (state g (record old { in_transaction = true })) (state g mid) (Err f) → HasCauseOr (stops (tables_of db)) (state g old) (state g end) f
  undone_fails NoMemory ended fails = tt
  undone_fails (Store w) ended fails = λ clean. go clean (state g old).is_open refl
    where
      go : HasCleanDisk (state g end) → (live : Bool) → (state g old).is_open ≡ live → IsHindered (state g old) (state g end) ⊎ stops (tables_of db)
      go clean false shut = inl (inr (inl shut))
      go clean true live =
          let before : HasCleanDisk (state g mid) = omega (arith, ended.clean, clean) in
          let shown = stood.shows (omega (arith, begun.clean, before)) live in
          elim (fails refl (λ _. subst IsRegister (sym shown) stood.sound) before) [
            | inl hindered ↦ inl (hindered_before (state g (record old { in_transaction = true })) (state g mid) (state g end) (λ _. ⊥) ended hindered)
            | inr stopped ↦ inr (subst (λ (d : Database). stops (tables_of d)) shown stopped)
          ]

  -- the steps were made, and their commit failed
  pub commit_fails : {X Y : Type 0} (tells : Tables → Written → Type 0) (x : X) → (HasCleanDisk (state g mid) → StepsAs {X = X} {E = Fault} tells (state g (record old { in_transaction = true })) (state g mid) (Ok x)) → (Q : Trees → Type 0) → Survives (state g mid) (state g end) Q
      → (r : Result Y Error) (s : Result Y Fault) → MatchResult r (λ y. s ≡ Ok y) (λ e. IsErrAnd s (λ f. (f ≡ NoMemory) ↔ (e ≡ SqliteFailure OutOfMemory))) → (HasCleanDisk (state g end) → IfErr r (FailsToCommit (state g mid) (state g end)))
      → IfErr s (HasCauseOr (stops (tables_of db)) (state g old) (state g end))
  commit_fails {Y = Y} tells x step Q ended r s cases fails = mapped_cause (stops (tables_of db)) (state g old) (state g end) r s cases (each r fails)
    where
      each : (q : Result Y Error) → (HasCleanDisk (state g end) → IfErr q (FailsToCommit (state g mid) (state g end))) → IfErr q (λ e. HasCleanDisk (state g end) → (e ≡ SqliteFailure OutOfMemory) ⊎ (IsHindered (state g old) (state g end) ⊎ stops (tables_of db)))
      each (Ok y) failed = tt
      each (Err e) failed = λ clean. go clean (state g old).is_open refl
        where
          go : HasCleanDisk (state g end) → (live : Bool) → (state g old).is_open ≡ live → (e ≡ SqliteFailure OutOfMemory) ⊎ (IsHindered (state g old) (state g end) ⊎ stops (tables_of db))
          go clean false shut = inr (inl (inr (inl shut)))
          go clean true live =
              let before : HasCleanDisk (state g mid) = omega (arith, ended.clean, clean) in
              let shown = stood.shows (omega (arith, begun.clean, before)) live in
              let inside = (step before refl (λ _. subst IsRegister (sym shown) stood.sound)).1.1.mode in
              elim (commit_cause [] [] (state g mid) (state g end) {X = Y} (Err e) failed (λ _ _. inside) clean) [
                | inl memory ↦ inl memory
                | inr (inl hindered) ↦ inr (inl (hindered_after (state g (record old { in_transaction = true })) (state g mid) (state g end) (λ _. ⊥) begun before ended.counts hindered))
                | inr (inr none) ↦ absurd none
              ]
