-- Where a register stands after a call.
use Rattle.std.proofs.Common.{◌≡◌, ◌⊎◌, ℕ, Bool, true, false, List, [], ◌∷◌, Result, Ok, Err, refl, sym, ap, subst, ◌∙◌, inl, inr, true≢false}
use Rattle.std.specs.declared.vec.Vec.{Vec}
use Rattle.std.specs.declared.alloc.Global.{Global}
use Rattle.std.specs.Result.{IsErrAnd}
use Rattle.sqlite.specs.Effect.{Database}
use Rattle.sqlite.specs.State.{HasCleanDisk}
use Rattle.sqlite.specs.Store.{Ghosts}
use Rattle.sqlite.specs.Held.{Held, state}
use Rattle.sqlite_trees.specs.View.{doubt}
use Rattle.wgr_core.specs.declared.fault.ActFault.{ActFault}
use Rattle.wgr_core.specs.declared.fault.ActFault.TheVariants as act_fault
use Rattle.wgr_core.specs.declared.refusal.CommandRefusal.{CommandRefusal}
use Rattle.wgr_core.specs.declared.refusal.Refusal.{Refusal}
use Rattle.wgr_core.specs.Refusals.{of_command}
use Rattle.wgr_model.specs.Register.{Bytes}
use Rattle.wgr_model.specs.RowLaws.{AreConsistent, IsRowStep}
use Rattle.wgr_model.specs.Rows.{Tables}
use Rattle.wgr_model.specs.Steps.{Answer, Declined, Event, IsProper, NoSuchNetwork, ReadOnly, UnknownToken}
use Rattle.wgr_orders.specs.Orders.{refusal_of}
use Rattle.wgr_model.specs.Steps as answered
use Rattle.wgr_orders.specs.declared.refusal.OrderRefusal as refusal
use Rattle.wgr_model.proofs.RowRunLemmas.{no_rows_consistent, row_step}
use Rattle.wgr_schema.specs.Fresh.{IsFresh}
use Rattle.wgr_opening.specs.Good.{IsGood}
use Rattle.wgr_sql.specs.declared.fault.Fault.{Fault}
use Rattle.wgr_sql.specs.declared.fault.Fault.TheVariants.{NoMemory}
use Rattle.wgr_columns.specs.Decode.{IsRegister, tables_of}
use Rattle.wgr_tables.specs.Standing.{IsDone, Stands}
use Rattle.wgr_tables.specs.Writes.{Changes, Written}
use Rattle.wgr_rows.specs.declared.fault.RowFault.{RowFault}
use Rattle.wgr_rows.specs.declared.fault.RowFault.TheVariants as on_rows
use Rattle.wgr_register.specs.Ends.{AskEnds, StandsAfter, EndsStill, EndsWith, OrderEnds, ask_fault, is_change, row_fault}
use Rattle.wgr_register.specs.Given.{GivenValue}
use Rattle.wgr_register.specs.Standing.{AreSteps, StandsAt}
use Rattle.wgr_register.specs.declared.fault.AskFault.{AskFault}
use Rattle.wgr_register.specs.declared.fault.AskFault.TheVariants as fault
use Rattle.wgr_register.specs.declared.fault.Done.{Done}
use Rattle.wgr_register.specs.declared.fault.OrderFault.{OrderFault}
use Rattle.wgr_register.specs.declared.fault.OrderFault.TheVariants as order_fault

steps_more : (t : Tables) (pending : List Written) (late : List Event) (event : Event) → AreSteps t pending late → AreSteps t pending (event ∷ late)
steps_more t pending late event steps one here u made = let is = steps one here u made in (is.0, inr is.1, is.2, is.3, is.4)

pub steps_late : (t : Tables) (pending : List Written) (late : List Event) (event : Event) (one : Written) → IsProper event → ((u : Tables) → Changes one t u → (answer : Answer) × IsRowStep t event answer u) → AreSteps t pending late
    → AreSteps t (one ∷ pending) (event ∷ late)
steps_late t pending late event one proper is steps other (inl same) u made = let step = is u (subst (λ o. Changes o t u) same made) in (event, inl refl, proper, step.0, step.1)
steps_late t pending late event one proper is steps other (inr here) u made = steps_more t pending late event steps other here u made

module _ {S : Type 0} (g : Ghosts S) where
  -- on a disk that has failed, nothing more is said
  pub at_if : (conn : Held S) (db : Database) (late : List Event) → conn.in_transaction ≡ false → IsRegister db → AreConsistent (tables_of db) → (HasCleanDisk (state g conn) → StandsAt g conn db late) → StandsAt g conn db late
  unfolding doubt
  at_if conn db late idle good consistent stands = by_clean (state g conn).is_clean refl where
    by_clean : (b : Bool) → (state g conn).is_clean ≡ b → StandsAt g conn db late
    by_clean true is = stands (ap doubt is)
    by_clean false is = record {
      pending = [];
      stands = record {
        idle = idle;
        sound = good;
        shows = λ clean. let bad : ◌≡◌ {A = ℕ} 1 0 = sym (ap doubt is) ∙ clean in cc;
        leaves = λ clean. let bad : ◌≡◌ {A = ℕ} 1 0 = sym (ap doubt is) ∙ clean in cc;
      };
      consistent = consistent;
      steps = λ one here. absurd here;
    }

  -- a register that was just made
  pub at_fresh : (conn : Held S) (db : Database) → IsFresh db → Stands g conn db [] → StandsAt g conn db []
  at_fresh conn db is stands = record { pending = []; stands = stands; consistent = subst AreConsistent (sym is.rows) no_rows_consistent; steps = λ one here. absurd here }

  pub at_good : (conn : Held S) (db : Database) → IsGood db → Stands g conn db [] → StandsAt g conn db []
  at_good conn db is stands = record { pending = []; stands = stands; consistent = is.consistent; steps = λ one here. absurd here }

  -- a call that reads leaves it where it is
  pub at_read : (old new : Held S) (db : Database) (late : List Event) → ((pending : List Written) → Stands g old db pending → Stands g new db pending) → StandsAt g old db late → StandsAt g new db late
  at_read old new db late reads at = record { pending = at.pending; stands = reads at.pending at.stands; consistent = at.consistent; steps = at.steps }

  pub at_more : (conn : Held S) (db : Database) (late : List Event) (event : Event) → StandsAt g conn db late → StandsAt g conn db (event ∷ late)
  at_more conn db late event at = record { pending = at.pending; stands = at.stands; consistent = at.consistent; steps = steps_more (tables_of db) at.pending late event at.steps }

  still_at : (conn : Held S) (db : Database) (late : List Event) (b : Bool) → b ≡ false → StandsAt g conn db late → StandsAfter g conn b db late db
  still_at conn db late true is at = absurd (true≢false is)
  still_at conn db late false is at = (refl, at)

  -- a reading
  pub ends_still : (conn : Held S) (db : Database) (late : List Event) (event : Event) (P : Answer → Type 0) (answer : Answer) → is_change answer event ≡ false → StandsAt g conn db late → P answer → IsRowStep (tables_of db) event answer (tables_of db)
      → EndsWith g conn db late event P
  ends_still conn db late event P answer reads at holds step clean = (answer, holds, db, step, still_at conn db late (is_change answer event) reads at)

  -- a change
  pub changed_at : (conn : Held S) (db next : Database) (late : List Event) (b : Bool) → b ≡ true → StandsAt g conn next [] → StandsAfter g conn b db late next
  changed_at conn db next late true is at = at
  changed_at conn db next late false is at = absurd (true≢false (sym is))

  -- in one of two ways, whichever it was
  pub either_way : (conn : Held S) (db next : Database) (late : List Event) (b : Bool) → StandsAfter g conn b db late next → StandsAt g conn next [] ⊎ ((next ≡ db) × StandsAt g conn db late)
  either_way conn db next late true at = inl at
  either_way conn db next late false at = inr at

  still_if : (conn : Held S) (db : Database) (late : List Event) (event : Event) (answer : Answer) → conn.in_transaction ≡ false → IsRegister db → AreConsistent (tables_of db)
      → (HasCleanDisk (state g conn) → EndsStill g conn db late event answer) → EndsStill g conn db late event answer
  still_if conn db late event answer idle good consistent ends = (at_if conn db late idle good consistent (λ clean. (ends clean).0), λ clean. (ends clean).1 clean)

  pub ask_if : (shown : GivenValue → Bytes) (conn : Held S) (db : Database) (late : List Event) (event : Event) (now : ℕ) (r : Result (Vec ℕ Global) AskFault) → conn.in_transaction ≡ false → IsRegister db → AreConsistent (tables_of db)
      → (HasCleanDisk (state g conn) → AskEnds g shown conn db late event now r) → AskEnds g shown conn db late event now r
  ask_if shown conn db late event now (Ok text) idle good consistent ends = λ clean. ends clean clean
  ask_if shown conn db late event now (Err (fault.Refused why)) idle good consistent ends = still_if conn db late event (Declined why) idle good consistent ends
  ask_if shown conn db late event now (Err fault.UnknownToken) idle good consistent ends = still_if conn db late event UnknownToken idle good consistent ends
  ask_if shown conn db late event now (Err fault.ReadOnly) idle good consistent ends = still_if conn db late event ReadOnly idle good consistent ends
  ask_if shown conn db late event now (Err fault.NoSuchNetwork) idle good consistent ends = still_if conn db late event NoSuchNetwork idle good consistent ends
  ask_if shown conn db late event now (Err (fault.Fault why)) idle good consistent ends = at_if conn db (event ∷ late) idle good consistent ends

  -- by a fault, whatever it is
  pub late_ends : (shown : GivenValue → Bytes) (conn : Held S) (db : Database) (late : List Event) (event : Event) (now : ℕ) (r : Result (Vec ℕ Global) AskFault) (why : Fault) → IsErrAnd r (λ e. e ≡ fault.Fault why)
      → StandsAt g conn db (event ∷ late) → AskEnds g shown conn db late event now r
  late_ends shown conn db late event now (Ok text) why is at = absurd is
  late_ends shown conn db late event now (Err (fault.Refused other)) why is at = cc
  late_ends shown conn db late event now (Err fault.UnknownToken) why is at = cc
  late_ends shown conn db late event now (Err fault.ReadOnly) why is at = cc
  late_ends shown conn db late event now (Err fault.NoSuchNetwork) why is at = cc
  late_ends shown conn db late event now (Err (fault.Fault other)) why is at = at

  -- a reading of an ask fails
  pub ask_unread : (shown : GivenValue → Bytes) (old new : Held S) (db : Database) (late : List Event) (event : Event) (now : ℕ) (r : Result (Vec ℕ Global) AskFault) (why : Fault) → IsErrAnd r (λ e. e ≡ fault.Fault why)
      → ((pending : List Written) → Stands g old db pending → Stands g new db pending) → StandsAt g old db late → AskEnds g shown new db late event now r
  ask_unread shown old new db late event now r why is reads at = late_ends shown new db late event now r why is (at_more new db late event (at_read old new db late reads at))

  -- a command that isn't done
  pub undone_ends : (shown : GivenValue → Bytes) (conn : Held S) (db : Database) (late : List Event) (event : Event) (now : ℕ) (r : Result (Vec ℕ Global) AskFault) (why : ActFault) → IsErrAnd r (λ e. e ≡ ask_fault why)
      → StandsAt g conn db late → ((refusal : CommandRefusal) → why ≡ act_fault.Refused refusal → IsRowStep (tables_of db) event (Declined refusal) (tables_of db)) → AskEnds g shown conn db late event now r
  undone_ends shown conn db late event now r (act_fault.NoMemory) is at refuses = late_ends shown conn db late event now r NoMemory is (at_more conn db late event at)
  undone_ends shown conn db late event now (Ok text) (act_fault.Refused why) is at refuses = absurd is
  undone_ends shown conn db late event now (Err (fault.Refused other)) (act_fault.Refused why) is at refuses =
      let same : other ≡ why = cc in
      (at, λ clean. subst (λ x. IsRowStep (tables_of db) event (Declined x) (tables_of db)) (sym same) (refuses why refl))
  undone_ends shown conn db late event now (Err fault.UnknownToken) (act_fault.Refused why) is at refuses = cc
  undone_ends shown conn db late event now (Err fault.ReadOnly) (act_fault.Refused why) is at refuses = cc
  undone_ends shown conn db late event now (Err fault.NoSuchNetwork) (act_fault.Refused why) is at refuses = cc
  undone_ends shown conn db late event now (Err (fault.Fault other)) (act_fault.Refused why) is at refuses = cc

  -- a command on rows that isn't done
  pub rows_undone_ends : (shown : GivenValue → Bytes) (conn : Held S) (db : Database) (late : List Event) (event : Event) (now : ℕ) (r : Result (Vec ℕ Global) AskFault) (why : RowFault) → IsErrAnd r (λ e. e ≡ row_fault why)
      → StandsAt g conn db late → ((refusal : Refusal) → why ≡ on_rows.Refused refusal → IsRowStep (tables_of db) event (Declined (of_command refusal)) (tables_of db)) → AskEnds g shown conn db late event now r
  rows_undone_ends shown conn db late event now r (on_rows.Fault failed) is at refuses = late_ends shown conn db late event now r failed is (at_more conn db late event at)
  rows_undone_ends shown conn db late event now r (on_rows.Refused why) is at refuses = undone_ends shown conn db late event now r (act_fault.Refused (of_command why)) is at (λ refusal same. let e : of_command why ≡ refusal = cc in subst (λ x. IsRowStep (tables_of db) event (Declined x) (tables_of db)) e (refuses why refl))

  -- however a call ends, the register is at rest
  with_somewhere : (conn : Held S) (db : Database) (late : List Event) (event : Event) (P : Answer → Type 0) → EndsWith g conn db late event P → HasCleanDisk (state g conn) → (next : Database) × (others : List Event) × StandsAt g conn next others
  with_somewhere conn db late event P ends clean = let end = ends clean in elim (either_way conn db end.2 late (is_change end.0 event) end.4) [ inl at ↦ (end.2, [], at) | inr at ↦ (db, late, at.1) ]

  pub ask_somewhere : (shown : GivenValue → Bytes) (conn : Held S) (db : Database) (late : List Event) (event : Event) (now : ℕ) (r : Result (Vec ℕ Global) AskFault)
      → AskEnds g shown conn db late event now r → HasCleanDisk (state g conn) → (next : Database) × (others : List Event) × StandsAt g conn next others
  ask_somewhere shown conn db late event now (Ok text) ends = with_somewhere conn db late event _ ends
  ask_somewhere shown conn db late event now (Err (fault.Refused why)) ends = λ clean. (db, late, ends.0)
  ask_somewhere shown conn db late event now (Err fault.UnknownToken) ends = λ clean. (db, late, ends.0)
  ask_somewhere shown conn db late event now (Err fault.ReadOnly) ends = λ clean. (db, late, ends.0)
  ask_somewhere shown conn db late event now (Err fault.NoSuchNetwork) ends = λ clean. (db, late, ends.0)
  ask_somewhere shown conn db late event now (Err (fault.Fault why)) ends = λ clean. (db, event ∷ late, ends)

  -- ---- orders

  order_late : (conn : Held S) (db : Database) (late : List Event) (event : Event) (r : Result Done OrderFault) (why : Fault) → IsErrAnd r (λ e. e ≡ order_fault.Fault why) → StandsAt g conn db (event ∷ late) → OrderEnds g conn db late event r
  order_late conn db late event (Ok done) why is at = absurd is
  order_late conn db late event (Err (order_fault.Refused other)) why is at = cc
  order_late conn db late event (Err (order_fault.Fault other)) why is at = at

  -- a read of an order fails
  pub order_unread : (old new : Held S) (db : Database) (late : List Event) (event : Event) (r : Result Done OrderFault) (why : Fault) → IsErrAnd r (λ e. e ≡ order_fault.Fault why)
      → ((pending : List Written) → Stands g old db pending → Stands g new db pending) → StandsAt g old db late → OrderEnds g new db late event r
  order_unread old new db late event r why is reads at = order_late new db late event r why is (at_more new db late event (at_read old new db late reads at))

  -- it is refused, or memory is
  pub order_refused : (conn : Held S) (db : Database) (late : List Event) (event : Event) (r : Result Done OrderFault) (why : OrderFault) → IsErrAnd r (λ e. e ≡ why) → StandsAt g conn db late
      → ((refusal : refusal.OrderRefusal) → why ≡ order_fault.Refused refusal → HasCleanDisk (state g conn) → IsRowStep (tables_of db) event (answered.Refused (refusal_of refusal)) (tables_of db)) → OrderEnds g conn db late event r
  order_refused conn db late event r (order_fault.Fault why) is at refuses = order_late conn db late event r why is (at_more conn db late event at)
  order_refused conn db late event (Ok done) (order_fault.Refused why) is at refuses = absurd is
  order_refused conn db late event (Err (order_fault.Refused other)) (order_fault.Refused why) is at refuses =
      let same : other ≡ why = cc in
      (at, λ clean. subst (λ x. IsRowStep (tables_of db) event (answered.Refused (refusal_of x)) (tables_of db)) (sym same) (refuses why refl clean))
  order_refused conn db late event (Err (order_fault.Fault other)) (order_fault.Refused why) is at refuses = cc

  -- its commit fails
  pub order_unwritten : (old new : Held S) (db : Database) (late : List Event) (event : Event) → IsProper event → (r : Result Done OrderFault) (why : Fault) (one : Written) → IsErrAnd r (λ e. e ≡ order_fault.Fault why) → new.in_transaction ≡ false
      → (HasCleanDisk (state g new) → (u : Tables) → Changes one (tables_of db) u → IsRowStep (tables_of db) event answered.Done u)
      → (at : StandsAt g old db late) → Stands g new db (one ∷ at.pending) → OrderEnds g new db late event r
  order_unwritten old new db late event proper r why one is idle makes at stands = order_late new db late event r why is
      (at_if new db (event ∷ late) idle stands.sound at.consistent
      (λ clean. record { pending = one ∷ at.pending; stands = stands; consistent = at.consistent; steps = steps_late (tables_of db) at.pending late event one proper (λ u made. (answered.Done, makes clean u made)) at.steps }))

  -- it is done
  pub order_done : (new : Held S) (db : Database) (late : List Event) (event : Event) (one : Written) → IsProper event → AreConsistent (tables_of db)
      → ((u : Tables) → Changes one (tables_of db) u → IsRowStep (tables_of db) event answered.Done u) → IsDone g new db one → EndsWith g new db late event (λ answer. answer ≡ answered.Done)
  order_done new db late event one proper consistent makes done clean =
      let step = makes (tables_of done.0) done.1.made in
      (answered.Done, refl, done.0, step, record { pending = []; stands = done.2; consistent = (row_step (tables_of db) (tables_of done.0) event answered.Done consistent proper step).0; steps = λ one here. absurd here })

  -- or the register is at rest in any case
  pub order_somewhere : (conn : Held S) (db : Database) (late : List Event) (event : Event) (r : Result Done OrderFault) → OrderEnds g conn db late event r → HasCleanDisk (state g conn) → (next : Database) × (others : List Event) × StandsAt g conn next others
  order_somewhere conn db late event (Ok done) ends = with_somewhere conn db late event _ ends
  order_somewhere conn db late event (Err (order_fault.Refused why)) ends = λ clean. (db, late, ends.0)
  order_somewhere conn db late event (Err (order_fault.Fault why)) ends = λ clean. (db, event ∷ late, ends)
