-- Why a reading of rows ends by a fault.
use Rattle.std.proofs.Common.{◌≡◌, List, ℕ, [], Ok, Err, Result, IfErr, sym, subst, arith}
use Rattle.sqlite.specs.Schema.{Schema}
use Rattle.sqlite.specs.Effect.{Database}
use Rattle.sqlite.specs.State.{State, HasCleanDisk, Survives}
use Rattle.wgr_sql.specs.Calls.{IsKept}
use Rattle.wgr_sql.specs.Causes.{HasCause, IsAnswered}
use Rattle.wgr_sql.specs.declared.fault.Fault.{Fault}
use Rattle.wgr_sql.specs.declared.fault.Fault.TheVariants.{NoMemory, Store}
use Rattle.wgr_sql.proofs.CauseLemmas.{cause_after}
use Rattle.wgr_columns.specs.Layout.{Others, schema_with}
use Rattle.wgr_columns.specs.LaidOut.{IsLaidOut}
use Rattle.wgr_columns.specs.LaidOut.{Laid}

pub is_answered : (text : List ℕ) → ((others : Others) → IsAnswered (schema_with others) text []) → (s : Schema) → IsLaidOut s → IsAnswered s text []
is_answered text answered s laid = subst (λ x. IsAnswered x text []) (sym laid.schema_is) (answered laid.others)

-- want of memory has no other cause
pub of_memory : (old new : State) (why : Fault) → why ≡ NoMemory → HasCause old new why
of_memory old new why is = subst (HasCause old new) (sym is) tt

pub all_of_memory : {X : Type 0} (old new : State) (r : Result X Fault) → IfErr r (λ why. why ≡ NoMemory) → IfErr r (HasCause old new)
all_of_memory old new (Ok x) h = tt
all_of_memory old new (Err why) h = of_memory old new why h

-- the second of two readings failed
module _ (a b d : State) (s : Survives a b (λ _. ⊥)) (t : Survives b d (λ _. ⊥)) (kept : (HasCleanDisk b → Laid a) → IsKept a b) (laid : HasCleanDisk d → Laid a) where
  pub next_cause : (why : Fault) → ((HasCleanDisk d → Laid b) → HasCause b d why) → HasCause a d why
  next_cause NoMemory cause = tt
  next_cause (Store w) cause = λ clean.
      let before : HasCleanDisk b = omega (arith, t.clean, clean) in
      let here : Laid b = λ live. let same = kept (λ _. laid clean) before live in subst (λ (x : Database). IsLaidOut x.schema) (sym same.1) (laid clean same.0) in
      cause_after a b d ⊥ ⊥ (λ _. ⊥) (λ _. ⊥) s t (λ none. none) (Store w) (cause (λ _. here)) clean

  pub next_causes : {X : Type 0} (r : Result X Fault) → ((HasCleanDisk d → Laid b) → IfErr r (HasCause b d)) → IfErr r (HasCause a d)
  next_causes (Ok x) cause = tt
  next_causes (Err why) cause = next_cause why cause
