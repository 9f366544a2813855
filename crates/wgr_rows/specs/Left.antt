-- What several calls of a reading leave.
use Rattle.std.specs.Prelude.{ℕ}
use Rattle.std.proofs.Common.{inl, inr, refl, sym, subst, ◌∙◌, arith}
use Rattle.sqlite.specs.Effect.{Database}
use Rattle.sqlite.specs.Store.{Ghosts}
use Rattle.sqlite.specs.Held.{Held, state}
use Rattle.sqlite.specs.State.{State, HasCleanDisk, Survives}
use Rattle.wgr_text.specs.Prefix.{PrefixValue}
use Rattle.wgr_sql.specs.Causes.{HasCause}
use Rattle.wgr_sql.specs.declared.fault.Fault.{Fault}
use Rattle.wgr_sql.specs.declared.fault.Fault.TheVariants.{NoMemory, Store}
use Rattle.wgr_sql.proofs.CauseLemmas.{cause_after, cause_before}
use Rattle.wgr_columns.specs.Decode.{IsRegister, tables_of}
use Rattle.wgr_rows.specs.Staying.{IsQuiet, IsStillOnClean, stays_itself, stays_on}
use Rattle.wgr_rows.specs.Stopping.{Blames, HavePool, IsSound, Leaves}
use Rattle.wgr_rows.specs.declared.progress.Progress.{Progress}

module _ (network : ℕ) (pool : PrefixValue) (a b c : State) (one : Survives a b (λ _. ⊥)) (two : Survives b c (λ _. ⊥)) (still : IsQuiet a → IsStillOnClean a b) where
  sound_next : HasCleanDisk b → IsSound network pool a → IsSound network pool b
  sound_next clean sound = (
    (λ live. let it = still sound.0 clean live in it.1 ∙ sound.0 it.0 ∙ sym it.2),
    (λ live. let it = still sound.0 clean live in subst (λ (d : Database). IsRegister d × HavePool (tables_of d) network pool) (sym it.1) (sound.1 it.0)),
  )

  cause_first : (f : Fault) → (HasCleanDisk c → IsSound network pool a) → ((HasCleanDisk b → IsSound network pool a) → HasCause a b f) → HasCause a c f
  cause_first NoMemory known cause = tt
  cause_first (Store w) known cause = λ clean. cause_before a b c ⊥ ⊥ (λ _. ⊥) two (λ none. none) (Store w) (cause (λ _. known clean)) clean

  cause_next : (f : Fault) → (HasCleanDisk c → IsSound network pool a) → ((HasCleanDisk c → IsSound network pool b) → HasCause b c f) → HasCause a c f
  cause_next f known cause = cause_after a b c ⊥ ⊥ (λ _. ⊥) (λ _. ⊥) one two (λ none. none) f (cause (λ clean. sound_next (omega (arith, two.clean, clean)) (known clean)))

  blames_on : (at mid end : Progress) → Blames network pool a at b mid → Blames network pool b mid c end → Blames network pool a at c end
  blames_on at mid end first next why is = elim (next why is) [
    | inl same ↦ elim (first why same) [ inl was ↦ inl was | inr cause ↦ inr (λ known. cause_first why known cause) ]
    | inr cause ↦ inr (λ known. cause_next why known cause)
  ]

pub leaves_itself : {S : Type 0} (g : Ghosts S) (h : Held S) (network : ℕ) (pool : PrefixValue) (at : Progress) → Leaves g h network pool at h network pool at
leaves_itself g h network pool at = (refl, refl, stays_itself g h, λ why is. inl is)

pub leaves_on : {S : Type 0} (g : Ghosts S) (a b c : Held S) (network : ℕ) (pool : PrefixValue) (at : Progress) (network' : ℕ) (pool' : PrefixValue) (at' : Progress) (network'' : ℕ) (pool'' : PrefixValue) (end : Progress)
    → Leaves g a network pool at b network' pool' at' → Leaves g b network' pool' at' c network'' pool'' end → Leaves g a network pool at c network'' pool'' end
leaves_on g a b c network pool at network' pool' at' network'' pool'' end one two = (
  two.0 ∙ one.0,
  two.1 ∙ one.1,
  stays_on g a b c one.2 two.2,
  blames_on network pool (state g a) (state g b) (state g c) one.2.1 two.2.1 one.2.2 at at' end one.3
      (subst (λ (n : ℕ). Blames n pool (state g b) at' (state g c) end) one.0 (subst (λ (p : PrefixValue). Blames network' p (state g b) at' (state g c) end) one.1 two.3)),
)
