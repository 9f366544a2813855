-- Causes of the faults of orders.
use Rattle.std.proofs.Common.{◌≡◌, ℕ, Ok, Err, Result, IsErrAnd, inl, inr, sym, subst, arith}
use Rattle.std.specs.Bool.{⊤}
use Rattle.sqlite.specs.State.{State, HasCleanDisk, Survives}
use Rattle.wgr_model.specs.Register.{Bytes, Register}
use Rattle.wgr_model.specs.Steps.{Settings}
use Rattle.wgr_sql.specs.Causes.{HasCause, HasCauseOr}
use Rattle.wgr_sql.specs.declared.fault.Fault.{Fault}
use Rattle.wgr_sql.specs.declared.fault.Fault.TheVariants.{NoMemory, Store}
use Rattle.wgr_sql.proofs.CauseLemmas.{cause_after, hindered_after}
use Rattle.wgr_register.specs.Causes.{IfOrderFault}
use Rattle.wgr_register.specs.Ends.{AdmitsNetwork}
use Rattle.wgr_register.specs.declared.fault.Done.{Done}
use Rattle.wgr_register.specs.declared.fault.OrderFault.{OrderFault}
use Rattle.wgr_register.specs.declared.fault.OrderFault.TheVariants as order_fault

-- a fault that is handed on
pub order_handed : (P : Fault → Type 0) (r : Result Done OrderFault) (why : Fault) → IsErrAnd r (λ e. e ≡ order_fault.Fault why) → P why → IfOrderFault P r
order_handed P (Ok done) why is h = tt
order_handed P (Err (order_fault.Refused other)) why is h = tt
order_handed P (Err (order_fault.Fault other)) why is h = let same : other ≡ why = cc in subst P (sym same) h

module _ (P : Type 0) (old mid new : State) (r : Result Done OrderFault) (why : Fault) (is : IsErrAnd r (λ e. e ≡ order_fault.Fault why)) (before : Survives old mid (λ _. ⊥)) where
  -- a reading failed, after others
  pub unread_stops : Survives mid new (λ _. ⊥) → HasCause mid new why → IfOrderFault (HasCauseOr P old new) r
  unread_stops then_ cause = order_handed (HasCauseOr P old new) r why is (cause_after old mid new ⊥ P (λ _. ⊥) (λ _. ⊥) before then_ (λ none. absurd none) why cause)

  -- a write failed, after the readings
  pub unwritten_stops : (Q : Type 0) → Survives mid new (λ _. ⊤) → (HasCleanDisk new → Q → P) → HasCauseOr Q mid new why → IfOrderFault (HasCauseOr P old new) r
  unwritten_stops Q then_ stops cause = order_handed (HasCauseOr P old new) r why is (each why cause)
    where
      each : (f : Fault) → HasCauseOr Q mid new f → HasCauseOr P old new f
      each NoMemory h = tt
      each (Store w) h = λ clean. elim (h clean) [
        | inl hindered ↦ inl (hindered_after old mid new (λ _. ⊥) before (omega (arith, then_.clean, clean)) then_.counts hindered)
        | inr so ↦ inr (stops clean so)
      ]

-- it isn't admitted: that is a refusal, or want of memory
pub admitted_stops : (P : Type 0) (old new : State) (r : Result Done OrderFault) (why : OrderFault) → IsErrAnd r (λ e. e ≡ why) → (register : Register) (tenant : ℕ) (name : Bytes) (settings : Settings)
    → AdmitsNetwork register tenant name settings (Err why) → IfOrderFault (HasCauseOr P old new) r
admitted_stops P old new r (order_fault.Fault why) is register tenant name settings admits = order_handed (HasCauseOr P old new) r why is (subst (HasCauseOr P old new) (sym admits) tt)
admitted_stops P old new (Ok done) (order_fault.Refused why) is register tenant name settings admits = tt
admitted_stops P old new (Err (order_fault.Refused other)) (order_fault.Refused why) is register tenant name settings admits = tt
admitted_stops P old new (Err (order_fault.Fault other)) (order_fault.Refused why) is register tenant name settings admits = absurd (let e = is in cc)
