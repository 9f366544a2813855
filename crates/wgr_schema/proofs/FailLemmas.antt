-- Why the making of a register fails.
use Rattle.std.proofs.Common.{◌≡◌, ◌↔◌, ◌⊎◌, ℕ, List, [], Bool, true, false, IsSome, Ok, Err, Result, IfErr, IsErrAnd, IsTrue, MatchResult, inl, inr, refl, sym, subst, arith}
use Rattle.sqlite.specs.Tree.{Trees}
use Rattle.sqlite.specs.Schema.{Schema}
use Rattle.sqlite.specs.Table.{Table}
use Rattle.sqlite.specs.Command.TheVariants.{CreateTable}
use Rattle.sqlite.specs.Effect.{Database}
use Rattle.sqlite.specs.declared.error.Error.{Error}
use Rattle.sqlite.specs.declared.error.Error.TheVariants.{SqliteFailure}
use Rattle.sqlite.specs.declared.error.ErrorCode.TheVariants.{OutOfMemory}
use Rattle.sqlite.specs.State.{State, HasCleanDisk, Survives}
use Rattle.sqlite.specs.Steps.{FailsToCommit}
use Rattle.sqlite.specs.Store.{Ghosts}
use Rattle.sqlite.specs.Held.{Held, state}
use Rattle.wgr_sql.specs.Causes.{HasCause, HasCauseOr, IsHindered, IsWriting, Refuses}
use Rattle.wgr_sql.specs.declared.fault.Fault.{Fault}
use Rattle.wgr_sql.specs.declared.fault.Fault.TheVariants.{NoMemory, Store}
use Rattle.wgr_sql.proofs.CauseLemmas.{commit_cause, hindered_after, hindered_before, mapped_cause}
use Rattle.wgr_schema.specs.Fresh.{FailsFrom, HasBlank, Lays}
use Rattle.wgr_schema.proofs.Meanings.{Means}
use Rattle.wgr_schema.proofs.RefusalLemmas.{IsTableFor, table_is_made}

-- what `execute` says of a statement that failed
abbrev Failed : List ℕ → State → State → Result ℕ Fault → Type 0
Failed text a b r = IsTrue a.in_transaction → (IsTrue a.is_open → HasCleanDisk b → IsWriting a.now.schema text []) → IfErr r (HasCauseOr (Refuses a.step_limit a.now text []) a b)

-- a statement failed that nothing but a limit on steps refuses
pub statement_fails : (schema : Schema) (text : List ℕ) (a b : State) (r : Result ℕ Fault) → IsWriting schema text [] → (HasBlank schema a.now → Refuses a.step_limit a.now text [] → IsSome a.step_limit) → Failed text a b r → FailsFrom (HasBlank schema) a b r
statement_fails schema text a b (Ok count) writes refused cause inside from = tt
statement_fails schema text a b (Err NoMemory) writes refused cause inside from = tt
statement_fails schema text a b (Err (Store w)) writes refused cause inside from = λ clean. go clean a.is_open refl
  where
    go : HasCleanDisk b → (live : Bool) → a.is_open ≡ live → IsHindered a b ⊎ ⊥
    go clean false shut = inl (inr (inl shut))
    go clean true live = elim (cause inside (λ shown _. subst (λ s. IsWriting s text []) (sym (from shown).schema_is) writes) clean) [
      | inl hindered ↦ inl hindered
      | inr refuses ↦ inl (inr (inr (refused (from live) refuses)))
    ]

pub table_fails : (schema : Schema) (text : List ℕ) (table : Table) → IsTableFor schema text table → Means schema text CreateTable → IsWriting schema text [] → (a b : State) (r : Result ℕ Fault) → Failed text a b r → FailsFrom (HasBlank schema) a b r
table_fails schema text table served means writes a b r =
    statement_fails schema text a b r writes (λ was refuses. absurd (table_is_made schema text table served a.now was.schema_is means a.step_limit refuses))

-- ---- steps one after the other

pub handed_fails : {Y : Type 0} (from : Database → Type 0) (a b : State) (r : Result Y Fault) (why : Fault) → IsErrAnd r (λ e. e ≡ why) → FailsFrom {X = ℕ} from a b (Err why) → FailsFrom from a b r
handed_fails from a b (Ok y) why is fails inside start = tt
handed_fails from a b (Err e) why is fails inside start = subst (HasCause a b) (sym is) (fails inside start)

-- the first was made, and the second failed
pub next_fails : {Y : Type 0} (from to : Database → Type 0) (a b d : State) (x : ℕ) (r : Result Y Fault) → (HasCleanDisk b → Lays {E = Fault} from to a b (Ok x)) → Survives a b (λ _. ⊥) → Survives b d (λ _. ⊥) → FailsFrom to b d r → FailsFrom from a d r
next_fails from to a b d x (Ok y) done s t fails inside start = tt
next_fails from to a b d x (Err NoMemory) done s t fails inside start = tt
next_fails from to a b d x (Err (Store w)) done s t fails inside start = λ clean.
    let before : HasCleanDisk b = omega (arith, t.clean, clean) in
    let it = (done before inside start).1 in
    elim (fails it.1.mode (λ _. it.0) clean) [
      | inl hindered ↦ inl (hindered_after a b d (λ _. ⊥) s before t.counts hindered)
      | inr none ↦ absurd none
    ]

-- ---- the whole transaction

-- The connection is `old` at the call, `mid` after the steps, and `end` at the exit.
module _ {S : Type 0} (g : Ghosts S) (old mid end : Held S) (from to : Database → Type 0) (start : from (state g old).now)
    (begun : Survives (state g (record old { in_transaction = true })) (state g mid) (λ _. ⊥)) where
  -- a step failed, and the transaction was rolled back
  pub undone_fails : (f : Fault) → Survives (state g mid) (state g end) (λ _. ⊥) → FailsFrom {X = ℕ} from (state g (record old { in_transaction = true })) (state g mid) (Err f) → HasCause (state g old) (state g end) f
  undone_fails NoMemory ended fails = tt
  undone_fails (Store w) ended fails = λ clean.
      let before : HasCleanDisk (state g mid) = omega (arith, ended.clean, clean) in
      elim (fails refl (λ _. start) before) [
        | inl hindered ↦ inl (hindered_before (state g (record old { in_transaction = true })) (state g mid) (state g end) (λ _. ⊥) ended hindered)
        | inr none ↦ absurd none
      ]

  -- the steps were made, and their commit failed
  pub commit_fails : {Y : Type 0} (x : ℕ) → (HasCleanDisk (state g mid) → Lays {E = Fault} from to (state g (record old { in_transaction = true })) (state g mid) (Ok x)) → (Q : Trees → Type 0) → Survives (state g mid) (state g end) Q
      → (r : Result Y Error) (s : Result Y Fault) → MatchResult r (λ y. s ≡ Ok y) (λ e. IsErrAnd s (λ f. (f ≡ NoMemory) ↔ (e ≡ SqliteFailure OutOfMemory))) → (HasCleanDisk (state g end) → IfErr r (FailsToCommit (state g mid) (state g end)))
      → IfErr s (HasCause (state g old) (state g end))
  commit_fails {Y = Y} x step Q ended r s cases fails = mapped_cause ⊥ (state g old) (state g end) r s cases (each r fails)
    where
      each : (q : Result Y Error) → (HasCleanDisk (state g end) → IfErr q (FailsToCommit (state g mid) (state g end))) → IfErr q (λ e. HasCleanDisk (state g end) → (e ≡ SqliteFailure OutOfMemory) ⊎ (IsHindered (state g old) (state g end) ⊎ ⊥))
      each (Ok y) failed = tt
      each (Err e) failed = λ clean.
          let before : HasCleanDisk (state g mid) = omega (arith, ended.clean, clean) in
          let inside = (step before refl (λ _. start)).1.1.mode in
          elim (commit_cause [] [] (state g mid) (state g end) {X = Y} (Err e) failed (λ _ _. inside) clean) [
            | inl memory ↦ inl memory
            | inr (inl hindered) ↦ inr (inl (hindered_after (state g (record old { in_transaction = true })) (state g mid) (state g end) (λ _. ⊥) begun before ended.counts hindered))
            | inr (inr none) ↦ absurd none
          ]
