-- Why taking a register's tables to the third version fails.
use Rattle.std.proofs.Common.{◌≡◌, ◌↔◌, ◌⊎◌, ℕ, List, [], Bool, true, false, Option, Some, None, IsSome, Ok, Err, Result, IfErr, IsErrAnd, IsTrue, MatchResult, inl, inr, refl, sym, subst, arith}
use Rattle.sqlite.specs.Tree.{Trees}
use Rattle.sqlite.specs.Effect.{Database}
use Rattle.sqlite.specs.declared.error.Error.{Error}
use Rattle.sqlite.specs.declared.error.Error.TheVariants.{SqliteFailure}
use Rattle.sqlite.specs.declared.error.ErrorCode.TheVariants.{OutOfMemory}
use Rattle.sqlite.specs.State.{State, HasCleanDisk, Survives}
use Rattle.sqlite.specs.Steps.{FailsToCommit}
use Rattle.sqlite.specs.Store.{Ghosts}
use Rattle.sqlite.specs.Held.{Held, state}
use Rattle.sqlite_rules.specs.Lists.{Has}
use Rattle.wgr_sql.specs.Causes.{HasCauseOr, IsHindered, IsWriting, Refuses}
use Rattle.wgr_sql.specs.declared.fault.Fault.{Fault}
use Rattle.wgr_sql.specs.declared.fault.Fault.TheVariants.{NoMemory, Store}
use Rattle.wgr_sql.proofs.CauseLemmas.{commit_cause, hindered_after, hindered_before, mapped_cause}
use Rattle.wgr_schema.specs.Fresh.{Lays}
use Rattle.wgr_schema.specs.Upgrade.{HasRows, StopsFrom, StopsUpgrade, upgrade_texts}

-- what `execute` says of a statement that failed
abbrev pub Failed : List ℕ → State → State → Result ℕ Fault → Type 0
Failed text a b r = IsTrue a.in_transaction → (IsTrue a.is_open → HasCleanDisk b → IsWriting a.now.schema text []) → IfErr r (HasCauseOr (Refuses a.step_limit a.now text []) a b)

-- one of the statements failed
module _ (start : Database) (from : Database → Type 0) (text : List ℕ) (listed : Has upgrade_texts text) (a b : State) where
  refused_at : (IsTrue a.is_open → HasRows start a.now) → Refuses a.step_limit a.now text [] → IsHindered a b ⊎ StopsUpgrade start
  refused_at has refuses = go a.is_open refl a.step_limit refl
    where
      go : (live : Bool) → a.is_open ≡ live → (limit : Option ℕ) → a.step_limit ≡ limit → IsHindered a b ⊎ StopsUpgrade start
      go false shut limit is = inl (inr (inl shut))
      go true live (Some n) is = inl (inr (inr (subst IsSome (sym is) refl)))
      go true live None is = inr (text, listed, a.now, has live, subst (λ l. Refuses l a.now text []) is refuses)

  pub text_stops : (r : Result ℕ Fault) → ((db : Database) → from db → HasRows start db) → ((db : Database) → from db → IsWriting db.schema text []) → Failed text a b r → StopsFrom (StopsUpgrade start) from a b r
  text_stops (Ok count) has writes failed inside at = tt
  text_stops (Err NoMemory) has writes failed inside at = tt
  text_stops (Err (Store w)) has writes failed inside at = λ clean. elim (failed inside (λ live _. writes a.now (at live)) clean) [
    | inl hindered ↦ inl hindered
    | inr refuses ↦ refused_at (λ live. has a.now (at live)) refuses
  ]

-- ---- steps one after the other

-- a step that failed, and its fault is handed on
pub handed_lays : {Y : Type 0} (from to next : Database → Type 0) (a b : State) (r : Result Y Fault) (why : Fault) → IsErrAnd r (λ e. e ≡ why) → Lays {X = ℕ} from to a b (Err why) → Lays from next a b r
handed_lays from to next a b (Ok y) why is step inside at = absurd is
handed_lays from to next a b (Err e) why is step inside at = ((step inside at).0, tt)

module _ (P : Type 0) where
  pub handed_stops : {Y : Type 0} (from : Database → Type 0) (a b : State) (r : Result Y Fault) (why : Fault) → IsErrAnd r (λ e. e ≡ why) → StopsFrom {X = ℕ} P from a b (Err why) → StopsFrom P from a b r
  handed_stops from a b (Ok y) why is stops inside at = tt
  handed_stops from a b (Err e) why is stops inside at = subst (HasCauseOr P a b) (sym is) (stops inside at)

  -- the first was made, and the second failed
  pub next_stops : {Y : Type 0} (from to : Database → Type 0) (a b d : State) (x : ℕ) (r : Result Y Fault) → (HasCleanDisk b → Lays {E = Fault} from to a b (Ok x)) → Survives a b (λ _. ⊥) → Survives b d (λ _. ⊥) → StopsFrom P to b d r → StopsFrom P from a d r
  next_stops from to a b d x (Ok y) done s t stops inside at = tt
  next_stops from to a b d x (Err NoMemory) done s t stops inside at = tt
  next_stops from to a b d x (Err (Store w)) done s t stops inside at = λ clean.
      let before : HasCleanDisk b = omega (arith, t.clean, clean) in
      let it = (done before inside at).1 in
      elim (stops it.1.mode (λ _. it.0) clean) [
        | inl hindered ↦ inl (hindered_after a b d (λ _. ⊥) s before t.counts hindered)
        | inr so ↦ inr so
      ]

  -- ---- the whole transaction

  -- The connection is `old` at the call, `mid` after the steps, and `end` at the exit.
  module _ {S : Type 0} (g : Ghosts S) (old mid end : Held S) (from to : Database → Type 0) (at : HasCleanDisk (state g end) → IsTrue (state g old).is_open → from (state g old).now)
      (begun : Survives (state g (record old { in_transaction = true })) (state g mid) (λ _. ⊥)) where
    -- a step failed, and the transaction was rolled back
    pub undone_stops : (f : Fault) → Survives (state g mid) (state g end) (λ _. ⊥) → StopsFrom {X = ℕ} P from (state g (record old { in_transaction = true })) (state g mid) (Err f) → HasCauseOr P (state g old) (state g end) f
    undone_stops NoMemory ended stops = tt
    undone_stops (Store w) ended stops = λ clean.
        let before : HasCleanDisk (state g mid) = omega (arith, ended.clean, clean) in
        elim (stops refl (at clean) before) [
          | inl hindered ↦ inl (hindered_before (state g (record old { in_transaction = true })) (state g mid) (state g end) (λ _. ⊥) ended hindered)
          | inr so ↦ inr so
        ]

    -- the steps were made, and their commit failed
    pub commit_stops : {Y : Type 0} (x : ℕ) → (HasCleanDisk (state g mid) → Lays {E = Fault} from to (state g (record old { in_transaction = true })) (state g mid) (Ok x)) → (Q : Trees → Type 0) → Survives (state g mid) (state g end) Q
        → (r : Result Y Error) (s : Result Y Fault) → MatchResult r (λ y. s ≡ Ok y) (λ e. IsErrAnd s (λ f. (f ≡ NoMemory) ↔ (e ≡ SqliteFailure OutOfMemory))) → (HasCleanDisk (state g end) → IfErr r (FailsToCommit (state g mid) (state g end)))
        → IfErr s (HasCauseOr P (state g old) (state g end))
    commit_stops {Y = Y} x step Q ended r s cases fails = mapped_cause P (state g old) (state g end) r s cases (each r fails)
      where
        each : (q : Result Y Error) → (HasCleanDisk (state g end) → IfErr q (FailsToCommit (state g mid) (state g end))) → IfErr q (λ e. HasCleanDisk (state g end) → (e ≡ SqliteFailure OutOfMemory) ⊎ (IsHindered (state g old) (state g end) ⊎ P))
        each (Ok y) failed = tt
        each (Err e) failed = λ clean.
            let before : HasCleanDisk (state g mid) = omega (arith, ended.clean, clean) in
            let inside = (step before refl (at clean)).1.1.mode in
            elim (commit_cause [] [] (state g mid) (state g end) {X = Y} (Err e) failed (λ _ _. inside) clean) [
              | inl memory ↦ inl memory
              | inr (inl hindered) ↦ inr (inl (hindered_after (state g (record old { in_transaction = true })) (state g mid) (state g end) (λ _. ⊥) begun before ended.counts hindered))
              | inr (inr none) ↦ absurd none
            ]
