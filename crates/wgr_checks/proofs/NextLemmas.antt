-- One reading of rows after another.
use Rattle.std.proofs.Common.{◌∙◌, Result, Ok, Err, IfErr, IsTrue, sym, subst, arith}
use Rattle.sqlite.specs.Effect.{Database}
use Rattle.sqlite.specs.State.{State, HasCleanDisk, Survives}
use Rattle.wgr_sql.specs.Calls.{IsKept}
use Rattle.wgr_sql.specs.Causes.{HasCause}
use Rattle.wgr_sql.specs.declared.fault.Fault.{Fault}
use Rattle.wgr_sql.specs.declared.fault.Fault.TheVariants.{NoMemory, Store}
use Rattle.wgr_sql.proofs.CauseLemmas.{cause_after}

-- The second asks for `Q` where the first has asked for `P`.
module _ (P Q : Database → Type 0) (leads : (db : Database) → P db → Q db) (a b d : State) (s : Survives a b (λ _. ⊥)) (t : Survives b d (λ _. ⊥)) (kept : (HasCleanDisk b → IsTrue a.is_open → P a.now) → IsKept a b)
    (first : HasCleanDisk d → IsTrue a.is_open → P a.now) where
  pub second_holds : HasCleanDisk d → IsTrue b.is_open → Q b.now
  second_holds clean live =
      let before : HasCleanDisk b = omega (arith, t.clean, clean) in
      let same = kept (λ _. first clean) before live in
      subst Q (sym same.1) (leads a.now (first clean same.0))

  pub second_fails : (why : Fault) → ((HasCleanDisk d → IsTrue b.is_open → Q b.now) → HasCause b d why) → HasCause a d why
  second_fails NoMemory cause = tt
  second_fails (Store w) cause = λ clean. cause_after a b d ⊥ ⊥ (λ _. ⊥) (λ _. ⊥) s t (λ none. none) (Store w) (cause (λ _. second_holds clean)) clean

  pub either_fails : {X : Type 0} (r : Result X Fault) → ((HasCleanDisk d → IsTrue b.is_open → Q b.now) → IfErr r (HasCause b d)) → IfErr r (HasCause a d)
  either_fails (Ok x) cause = tt
  either_fails (Err why) cause = second_fails why cause

  pub both_kept : ((HasCleanDisk d → IsTrue b.is_open → Q b.now) → IsKept b d) → IsKept a d
  both_kept keeps clean live =
      let before : HasCleanDisk b = omega (arith, t.clean, clean) in
      let then = keeps (λ _. second_holds clean) clean live in
      let back = kept (λ _. first clean) before then.0 in
      (back.0, then.1 ∙ back.1)
