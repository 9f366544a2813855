-- What a query leaves, and what it shows, where the register stands.
use Rattle.std.proofs.Common.{◌≡◌, ℕ, List, true, false, IsTrue, sym, subst, arith}
use Rattle.sqlite.specs.Order.{Row}
use Rattle.sqlite.specs.Effect.{Database}
use Rattle.sqlite.specs.Held.{Held, state}
use Rattle.sqlite.specs.Listing.{understood}
use Rattle.sqlite.specs.State.{State, HasCleanDisk, Shown, Survives}
use Rattle.sqlite.specs.Store.{Ghosts}
use Rattle.sqlite.proofs.Callers.{IsPlain}
use Rattle.wgr_model.specs.Rows.{Tables}
use Rattle.wgr_sql.specs.Calls.{Answered, IsKept}
use Rattle.wgr_sql.proofs.StandingLemmas.{stands_kept, plain_at}
use Rattle.wgr_sql.proofs.SurvivesLemmas.{survives_next, survives_still}
use Rattle.wgr_columns.specs.Layout.{Others, schema_with}
use Rattle.wgr_columns.specs.Decode.{IsRegister, tables_of}
use Rattle.wgr_tables.specs.Writes.{Written, Writes}
use Rattle.wgr_tables.specs.Standing.{OnlyReads, Stands}

module _ {S : Type 0} (g : Ghosts S) (old new : Held S) (db : Database) (pending : List Written) (stood : Stands g old db pending) (text : List ℕ) (survives : Survives (state g old) (state g new) (λ _. ⊥)) where
  pub stands_read : ((others : Others) → IsPlain (understood (schema_with others) text)) → ((IsTrue (state g old).is_open → HasCleanDisk (state g new) → IsPlain (understood old.schema text)) → IsKept (state g old) (state g new))
      → new.in_transaction ≡ false → Stands g new db pending
  stands_read plain kept idle =
      let others = stood.sound.others in
      stands_kept IsRegister Writes g old new db pending stood
      (kept (λ live clean. plain_at IsRegister Writes g old db pending (schema_with others) text stood.sound.schema_is stood (omega (arith, survives.clean, clean)) live (plain others))) idle survives

  -- what is true of each answer to the text on a register's rows is true here
  pub rows_read : (P : Tables → List Row → Type 0) (params : Row) → ((a b : State) → IsRegister a.now → (rows : List Row) → Shown text params a b rows → P (tables_of a.now) rows)
      → HasCleanDisk (state g new) → (rows : List Row) → Answered g text params old rows → P (tables_of db) rows
  rows_read P params listed clean rows answer =
      let was : HasCleanDisk (state g old) = omega (arith, survives.clean, clean) in
      let here = stood.shows was answer.was_open in
      subst (λ (x : Database). P (tables_of x) rows) here (listed (state g (record old { in_transaction = true })) (state g answer.after) (subst IsRegister (sym here) stood.sound) rows answer.shown)

-- a query that means something on every register only reads
module _ {S : Type 0} (g : Ghosts S) (old new : Held S) (text : List ℕ) (survives : Survives (state g old) (state g new) (λ _. ⊥)) where
  pub reads_query : ((others : Others) → IsPlain (understood (schema_with others) text)) → ((IsTrue (state g old).is_open → HasCleanDisk (state g new) → IsPlain (understood old.schema text)) → IsKept (state g old) (state g new))
      → new.in_transaction ≡ false → OnlyReads g old new
  reads_query plain kept idle = record {
    idle = idle;
    clean = λ clean. omega (arith, survives.clean, clean);
    stands = λ db pending stood. stands_read g old new db pending stood text survives plain kept idle;
    survives = survives;
  }

-- no call reads
pub reads_still : {S : Type 0} (g : Ghosts S) (conn : Held S) → conn.in_transaction ≡ false → OnlyReads g conn conn
reads_still g conn idle = record { idle = idle; clean = λ clean. clean; stands = λ db pending stood. stood; survives = survives_still (state g conn) }

-- one read after another
pub reads_next : {S : Type 0} {g : Ghosts S} {old mid new : Held S} → OnlyReads g old mid → OnlyReads g mid new → OnlyReads g old new
reads_next {g = g} {old = old} {mid = mid} {new = new} first next = record {
  idle = next.idle;
  clean = λ clean. first.clean (next.clean clean);
  stands = λ db pending stood. next.stands db pending (first.stands db pending stood);
  survives = survives_next (state g old) (state g mid) (state g new) first.survives next.survives;
}
