-- What a call that writes in one commit leaves, where the register stood.
use Rattle.std.proofs.Common.{◌≡◌, ◌∷◌, List, true, false, IsTrue, Result, Ok, Err, sym, subst, arith}
use Rattle.sqlite.specs.Tree.{Trees}
use Rattle.sqlite.specs.Effect.{Database}
use Rattle.sqlite.specs.declared.error.Error.{Error}
use Rattle.sqlite.specs.State.{HasCleanDisk, State, Survives, Shows, IsRolledBack}
use Rattle.sqlite.specs.Steps.{FailsToCommit}
use Rattle.sqlite.specs.Store.{Ghosts}
use Rattle.sqlite.specs.Held.{Held, state}
use Rattle.wgr_model.specs.Rows.{Tables}
use Rattle.wgr_sql.specs.declared.fault.Fault.{Fault}
use Rattle.wgr_sql.proofs.CommitLemmas.{stands_undone, stands_done, stands_left, step_keeps}
use Rattle.wgr_sql.proofs.StandingLemmas.{stands_more}
use Rattle.wgr_columns.specs.Decode.{IsRegister, tables_of}
use Rattle.wgr_tables.specs.Writes.{Written, Writes, WritesAs, Changes}
use Rattle.wgr_tables.specs.Standing.{IsDone, Stands, StepsAs, StepsOn}

-- a step that makes the write which `writes` tells
pub steps_as : {X : Type 0} (P : Tables → Tables → Type 0) (writes : Tables → Written → Type 0) → ((t u : Tables) (one : Written) → P t u → writes t one → Changes one t u)
    → (a b : State) (r : Result X Fault) → StepsOn P a b r → StepsAs writes a b r
steps_as P writes does a b (Ok x) step inside register = let it = step inside register in (it.0, (λ one told. record { sound = it.1.0.sound; schema = it.1.0.schema; made = does _ _ one it.1.0.made told }, it.1.1))
steps_as P writes does a b (Err e) step inside register = ((step inside register).0, tt)

-- so where it is this write, whatever the rows are
pub steps_once : {X : Type 0} (one : Written) (a b : State) (r : Result X Fault) → StepsOn (Changes one) a b r → StepsAs (λ _ other. other ≡ one) a b r
steps_once one = steps_as (Changes one) (λ _ other. other ≡ one) (λ t u other made same. subst (λ w. Changes w t u) (sym same) made)

-- The connection is `old` at the call, `mid` after the steps of the transaction, and `end` at the exit.
module _ {S : Type 0} (g : Ghosts S) (old mid end : Held S) (db : Database) (pending : List Written) (stood : Stands g old db pending) (settled : IsTrue (state g old).is_open → (state g old).now ≡ (state g old).committed)
    (begun : Survives (state g (record old { in_transaction = true })) (state g mid) (λ _. ⊥)) (idle : end.in_transaction ≡ false) (tells : Tables → Written → Type 0) (one : Written) (told : tells (tables_of db) one) where
  -- the write that is told is this one
  told_one : {X : Type 0} (r : Result X Fault) → (HasCleanDisk (state g mid) → StepsAs tells (state g (record old { in_transaction = true })) (state g mid) r) → HasCleanDisk (state g mid) → StepsOn (Changes one) (state g (record old { in_transaction = true })) (state g mid) r
  told_one (Ok x) step clean inside register =
      let it = step clean inside register in
      (it.0, (it.1.0 one (subst (λ (d : Database). tells (tables_of d) one) (sym (stood.shows (omega (arith, begun.clean, clean)) it.1.1.was_open)) told), it.1.1))
  told_one (Err e) step clean inside register = ((step clean inside register).0, tt)

  -- a step failed
  pub undone : {X : Type 0} (r : Result X Fault) → (HasCleanDisk (state g mid) → StepsAs tells (state g (record old { in_transaction = true })) (state g mid) r)
      → (HasCleanDisk (state g end) → IsRolledBack (state g mid) (state g end)) → Survives (state g mid) (state g end) (λ _. ⊥) → Stands g end db (one ∷ pending)
  undone r step back ended =
      let keeps = step_keeps IsRegister Writes g old mid end db pending stood settled begun idle (WritesAs tells) r step in
      stands_more IsRegister Writes g end db pending one (stands_undone IsRegister Writes g old mid end db pending stood settled begun idle keeps back ended)

  module _ {X : Type 0} (x : X) (step : HasCleanDisk (state g mid) → StepsAs {E = Fault} tells (state g (record old { in_transaction = true })) (state g mid) (Ok x))
      (ended : Survives (state g mid) (state g end) (λ trees. trees ≡ (state g mid).now.trees)) where
    -- it was committed; the law of the store says what a stop leaves
    pub done : HasCleanDisk (state g end) → Shows (state g mid) (state g end) (state g mid).now (state g mid).now false
        → ((trees : Trees) → IsTrue (state g end).is_open → (state g end).may_leave trees → trees ≡ (state g end).committed.trees) → IsDone g end db one
    done clean shows law =
        stands_done IsRegister Writes g old mid end db pending stood settled begun idle Fault (Writes one) (λ d e h. h.sound) x (told_one (Ok x) step) ended clean shows law

    -- the commit failed
    pub left : (e : Error) → (HasCleanDisk (state g end) → FailsToCommit (state g mid) (state g end) e) → Stands g end db (one ∷ pending)
    left e fails = stands_left IsRegister Writes g old mid end db pending stood settled begun idle Fault (Writes one) (λ d e h. h.sound) x (told_one (Ok x) step) ended one (λ _ h. h) e fails
