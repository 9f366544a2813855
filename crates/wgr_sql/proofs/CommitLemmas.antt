-- Where a connection stands after a transaction.
use Rattle.std.proofs.Common.{◌≡◌, true, false, IsTrue, List, [], ◌∷◌, Result, Ok, inl, inr, refl, sym, ap, subst, ◌∙◌, arith, true≢false}
use Rattle.sqlite.specs.Tree.{Trees}
use Rattle.sqlite.specs.Effect.{Database}
use Rattle.sqlite.specs.declared.error.Error.{Error}
use Rattle.sqlite.specs.State.{HasCleanDisk, Survives, Shows, KeepsCommit, IsRolledBack}
use Rattle.sqlite.specs.Steps.{FailsToCommit}
use Rattle.sqlite.specs.Store.{Ghosts}
use Rattle.sqlite.specs.Held.{Held, state}
use Rattle.sqlite.proofs.StateLemmas.{survives_then}
use Rattle.sqlite.proofs.Callers.{survives_begin}
use Rattle.wgr_sql.specs.Steps.{StepsOn}
use Rattle.wgr_sql.specs.Standing.{Stands}
use Rattle.wgr_sql.proofs.StandingLemmas.{stands_kept, stands_doubted}

module _ {S W : Type 0} (good : Database → Type 0) (writes : W → Database → Database → Type 0) (g : Ghosts S) (old mid end : Held S) (db : Database) (pending : List W) (stood : Stands good writes g old db pending) where
  abbrev start : Held S
  start = record old { in_transaction = true }

  pub good_at : HasCleanDisk (state g old) → IsTrue (state g old).is_open → good (state g old).now
  good_at clean live = subst good (sym (stood.shows clean live)) stood.sound

  module _ (settled : IsTrue (state g old).is_open → (state g old).now ≡ (state g old).committed) (begun : Survives (state g start) (state g mid) (λ _. ⊥)) (idle : end.in_transaction ≡ false) where
    was_clean : HasCleanDisk (state g mid) → HasCleanDisk (state g old)
    was_clean clean = omega (arith, begun.clean, clean)

    pub step_keeps : {X E : Type 0} (P : Database → Database → Type 0) (r : Result X E) → (HasCleanDisk (state g mid) → StepsOn good P (state g start) (state g mid) r) → HasCleanDisk (state g mid) → KeepsCommit (state g start) (state g mid)
    step_keeps P r step clean = (step clean refl (good_at (was_clean clean))).0

    back_is : HasCleanDisk (state g end) → HasCleanDisk (state g mid) → KeepsCommit (state g start) (state g mid) → IsRolledBack (state g mid) (state g end) → IsTrue (state g end).is_open
        → IsTrue (state g old).is_open × ((state g end).now ≡ (state g old).now)
    back_is clean before keeps back live =
        let open_mid = back.was_open live in
        let open_old = keeps.was_open open_mid in
        (open_old, (back.undone live).0 ∙ keeps.committed open_mid ∙ sym (settled open_old))

    -- the transaction was rolled back
    pub stands_undone : (HasCleanDisk (state g mid) → KeepsCommit (state g start) (state g mid)) → (HasCleanDisk (state g end) → IsRolledBack (state g mid) (state g end)) → Survives (state g mid) (state g end) (λ _. ⊥)
        → Stands good writes g end db pending
    stands_undone keeps undone ended =
        stands_kept good writes g old end db pending stood
        (λ clean live. let before : HasCleanDisk (state g mid) = omega (arith, ended.clean, clean) in back_is clean before (keeps before) (undone clean) live) idle
        (survives_then (state g old) (state g mid) (state g end) (λ _. ⊥) (λ _. ⊥) (λ _. ⊥) (λ _ trees none. none) (λ _ trees none. none) (survives_begin g old (state g mid) (λ _. ⊥) begun) ended)

    module _ {X : Type 0} (E : Type 0) (P : Database → Database → Type 0) (sound : (d e : Database) → P d e → good e) (x : X) (step : HasCleanDisk (state g mid) → StepsOn {E = E} good P (state g start) (state g mid) (Ok x))
        (ended : Survives (state g mid) (state g end) (λ trees. trees ≡ (state g mid).now.trees)) where
      stepped : (clean : HasCleanDisk (state g mid)) → P (state g old).now (state g mid).now × Shows (state g start) (state g mid) (state g mid).now (state g start).committed true
      stepped clean = (step clean refl (good_at (was_clean clean))).1

      from_db : (clean : HasCleanDisk (state g mid)) → P db (state g mid).now
      from_db clean = let it = stepped clean in subst (λ d. P d (state g mid).now) (stood.shows (was_clean clean) it.1.was_open) it.0

      -- the change was committed: nothing else is left by a stop, since the store is open
      pub stands_done : HasCleanDisk (state g end) → Shows (state g mid) (state g end) (state g mid).now (state g mid).now false
          → ((trees : Trees) → IsTrue (state g end).is_open → (state g end).may_leave trees → trees ≡ (state g end).committed.trees)
          → (next : Database) × P db next × Stands good writes g end next []
      stands_done clean shows law =
          let before : HasCleanDisk (state g mid) = omega (arith, ended.clean, clean) in
          let made = from_db before in (
            (state g mid).now,
            made,
            record {
              idle = idle;
              sound = sound _ _ made;
              shows = λ _ live. shows.now_is;
              leaves = λ _ trees may. inl (law trees shows.is_open may ∙ ap (λ (d : Database). d.trees) shows.committed_is);
            },
          )

      -- the commit failed
      pub stands_left : (one : W) → ((e : Database) → P db e → writes one db e) → (e : Error) → (HasCleanDisk (state g end) → FailsToCommit (state g mid) (state g end) e) → Stands good writes g end db (one ∷ pending)
      stands_left one adds e fails =
          stands_doubted good writes g old end db pending one stood
          (λ clean live. let before : HasCleanDisk (state g mid) = omega (arith, ended.clean, clean) in
          back_is clean before (step_keeps {X = X} {E = E} P (Ok x) step before) (rolled (fails clean) (stepped before).1.mode) live) idle
          (survives_then (state g old) (state g mid) (state g end) (λ _. ⊥) (λ trees. trees ≡ (state g mid).now.trees) _ (λ _ trees none. absurd none)
          (λ clean trees is. λ _. let before : HasCleanDisk (state g mid) = omega (arith, ended.clean, clean) in ((state g mid).now, adds _ (from_db before), is))
          (survives_begin g old (state g mid) (λ _. ⊥) begun) ended)
        where
          rolled : FailsToCommit (state g mid) (state g end) e → (state g mid).in_transaction ≡ true → IsRolledBack (state g mid) (state g end)
          rolled (inl failed) inside = failed.3
          rolled (inr late) inside = absurd (true≢false (sym inside ∙ late.1))
