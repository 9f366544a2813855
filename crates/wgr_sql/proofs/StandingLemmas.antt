-- A connection stands where it stood.
use Rattle.std.proofs.Common.{◌≡◌, false, IsTrue, ℕ, List, [], ◌∷◌, inl, inr, refl, sym, ap, subst, ◌∙◌, arith}
use Rattle.sqlite.specs.Tree.{Trees}
use Rattle.sqlite.specs.Schema.{Schema}
use Rattle.sqlite.specs.Effect.{Database}
use Rattle.sqlite.specs.State.{HasCleanDisk, Survives}
use Rattle.sqlite.specs.Store.{Ghosts}
use Rattle.sqlite.specs.Held.{Held, state}
use Rattle.sqlite.specs.Listing.{understood}
use Rattle.sqlite.proofs.Callers.{IsPlain}
use Rattle.wgr_sql.specs.Calls.{IsKept}
use Rattle.wgr_sql.specs.Standing.{Stands, IsOneOf}

module _ {S W : Type 0} (good : Database → Type 0) (writes : W → Database → Database → Type 0) (g : Ghosts S) where
  -- a call that commits nothing leaves the connection where it stood
  pub stands_kept : (old new : Held S) (db : Database) (pending : List W) → Stands good writes g old db pending → IsKept (state g old) (state g new) → new.in_transaction ≡ false
      → Survives (state g old) (state g new) (λ _. ⊥) → Stands good writes g new db pending
  stands_kept old new db pending stood kept idle survives = record {
    idle = idle;
    sound = stood.sound;
    shows = λ clean live. let same = kept clean live in same.1 ∙ stood.shows (omega (arith, survives.clean, clean)) same.0;
    leaves = λ clean trees may. elim (survives.crash clean trees may) [ inl before ↦ stood.leaves (omega (arith, survives.clean, clean)) trees before | inr none ↦ absurd none ];
  }

  one_more : (db : Database) (one : W) (pending : List W) (trees : Trees) → IsOneOf writes db pending trees → IsOneOf writes db (one ∷ pending) trees
  one_more db one pending trees h = (h.0, inr h.1, h.2, h.3, h.4)

  -- a call whose commit failed leaves the connection where it stood, but a stop may leave the change
  pub stands_doubted : (old new : Held S) (db : Database) (pending : List W) (one : W) → Stands good writes g old db pending → IsKept (state g old) (state g new) → new.in_transaction ≡ false
      → Survives (state g old) (state g new) (λ trees. HasCleanDisk (state g new) → (next : Database) × writes one db next × (trees ≡ next.trees)) → Stands good writes g new db (one ∷ pending)
  stands_doubted old new db pending one stood kept idle survives = record {
    idle = idle;
    sound = stood.sound;
    shows = λ clean live. let same = kept clean live in same.1 ∙ stood.shows (omega (arith, survives.clean, clean)) same.0;
    leaves = λ clean trees may. elim (survives.crash clean trees may) [
      | inl before ↦ elim (stood.leaves (omega (arith, survives.clean, clean)) trees before) [ inl same ↦ inl same | inr it ↦ inr (one_more db one pending trees it) ]
      | inr made ↦ let it = made clean in inr (one, inl refl, it.0, it.1, it.2)
    ];
  }

  -- what a text means where the connection stands
  pub plain_at : (old : Held S) (db : Database) (pending : List W) (schema : Schema) (text : List ℕ) → db.schema ≡ schema → Stands good writes g old db pending → HasCleanDisk (state g old) → IsTrue (state g old).is_open
      → IsPlain (understood schema text) → IsPlain (understood old.schema text)
  plain_at old db pending schema text is stood clean live plain = subst (λ s. IsPlain (understood s text)) (sym (ap (λ (x : Database). x.schema) (stood.shows clean live) ∙ is)) plain

  pub stands_more : (conn : Held S) (db : Database) (pending : List W) (one : W) → Stands good writes g conn db pending → Stands good writes g conn db (one ∷ pending)
  stands_more conn db pending one stood = record {
    idle = stood.idle;
    sound = stood.sound;
    shows = stood.shows;
    leaves = λ clean trees may. elim (stood.leaves clean trees may) [ inl same ↦ inl same | inr it ↦ inr (one_more db one pending trees it) ];
  }

  -- a good database that was found in an open connection stands at what it shows
  pub stands_open : (conn : Held S) → conn.in_transaction ≡ false → IsTrue (state g conn).is_open → good (state g conn).now
      → (IsTrue (state g conn).is_open → (state g conn).now ≡ (state g conn).committed)
      → ((trees : Trees) → IsTrue (state g conn).is_open → (state g conn).may_leave trees → trees ≡ (state g conn).committed.trees) → Stands good writes g conn (state g conn).now []
  stands_open conn idle live is settled law = record {
    idle = idle;
    sound = is;
    shows = λ _ _. refl;
    leaves = λ _ trees may. inl (law trees live may ∙ ap (λ (d : Database). d.trees) (sym (settled live)));
  }
