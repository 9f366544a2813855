use Rattle.std.proofs.Common.{◌≡◌, ℕ, ◌∷◌, List, OnErr, OnOk, Result, refl}
use Rattle.sqlite.specs.Effect.{Database}
use Rattle.sqlite.specs.Held.{Held, state}
use Rattle.sqlite.specs.State.{HasCleanDisk}
use Rattle.sqlite.specs.Store.{Ghosts}
use Rattle.wgr_core.specs.Change.{applied}
use Rattle.wgr_core.specs.declared.change.Change.{Change}
use Rattle.wgr_model.specs.Laws.{Has}
use Rattle.wgr_model.specs.RowLaws.{AreConsistent}
use Rattle.wgr_model.specs.Rows.{NetworkRow, Tables, network_entry_of}
use Rattle.wgr_sql.specs.declared.fault.Fault.{Fault}
use Rattle.wgr_columns.specs.Decode.{tables_of}
use Rattle.wgr_tables.specs.Standing.{Commits, IsDone, Stands}
use Rattle.wgr_tables.specs.Writes.{IsReplacement, Replaced, Written}
use Rattle.wgr_register.proofs.CauseLemmas.{writes_nothing}
use Rattle.wgr_register.proofs.ask.commit_if.Goals as goal

module _ {S X : Type 0} {g : Ghosts S} {network : ℕ} {change : Change} {stops : Tables → Type 0} {old new : Held S} {r : Result X Fault} (commits : Commits g (IsReplacement network change) stops old new r)
    (db : Database) (pending : List Written) (w : NetworkRow) (stood : Stands g old db pending) (good : AreConsistent (tables_of db)) (here : Has (tables_of db).networks w) (is : w.id ≡ network) where
  abbrev one : Written
  one = Replaced network (applied change (network_entry_of (tables_of db) w).network)

  replacing : IsReplacement network change (tables_of db) one
  replacing = record { consistent = good; row = w; there = here; id_is = is; replaced = refl }

  replaced_done : HasCleanDisk (state g new) → OnOk r (IsDone g new db one)
  replaced_done = commits.done db pending one stood replacing

  replaced_fault : OnErr r (Stands g new db (one ∷ pending))
  replaced_fault = commits.fault db pending one stood replacing

pub returns-in-Some-clause-done : goal.returns-in-Some-clause-done
returns-in-Some-clause-done g c db pending w stood good here is clean = rw c.in-Some.is (replaced_done c.commit.ensures.commits db pending w stood good here is clean)

pub returns-in-Some-clause-fault : goal.returns-in-Some-clause-fault
returns-in-Some-clause-fault g c db pending w stood good here is = rw c.in-Some.is (replaced_fault c.commit.ensures.commits db pending w stood good here is)

pub returns-in-Some-clause-cause : goal.returns-in-Some-clause-cause
returns-in-Some-clause-cause g c db pending stood = rw c.in-Some.is (c.commit.ensures.commits.cause db pending stood)

pub returns-in-None-clause-keeps : goal.returns-in-None-clause-keeps
returns-in-None-clause-keeps g c = writes_nothing g.S.Store c.args.conn.now c.requires.idle
