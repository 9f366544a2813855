-- How the words end that answer requests.
use Rattle.std.proofs.Common.{◌≡◌, ℕ, Bool, true, List, [], Option, Result, Ok, Err, subst, sym, inr}
use Rattle.std.specs.Prelude.{flat_map}
use Rattle.std.specs.Io.KnownBytes.{Appends}
use Rattle.std.specs.List.{list_all}
use Rattle.sqlite.specs.Files.{file_state, over_files}
use Rattle.sqlite.specs.Held.{Held}
use Rattle.sqlite.specs.Recovery.{Image}
use Rattle.sqlite.specs.State.{HasCleanDisk}
use Rattle.sqlite_disk.specs.declared.Disk as disk
use Rattle.sqlite_disk.specs.declared.Files.{Files}
use Rattle.sqlite_store.specs.declared.store.FileStore.{FileStore}
use Rattle.wgr_file.specs.OnFiles.{IsClosedTo, IsOpen}
use Rattle.wgr_file.proofs.FileLemmas.{stays_open}
use Rattle.wgr_office.specs.declared.answer.Answer as given
use Rattle.wgr_office.specs.declared.run.Event as event
use Rattle.wgr_office.specs.Serving.{is_available, written_reply}
use Rattle.wgr_io.specs.Device.{IsCut}
use Rattle.wgr_service.specs.Batch.{IsBatch}
use Rattle.wgr_service.specs.Network.{Log}
use Rattle.wgr_service.specs.declared.connections.Ending.{Ending}
use Rattle.wgr_service.specs.declared.connections.Ending.TheVariants as ending
use Rattle.wgr_prog.specs.declared.register_words.Failure.{Failure}
use Rattle.wgr_prog.specs.declared.register_words.Failure.TheVariants as failure
use Rattle.wgr_prog.specs.declared.request_words.Serving.{Serving}
use Rattle.wgr_prog.specs.Answering.{AnswersRequests, AreAskedByText, EndsBatch, EndsServe, HasAnswered, HasBrokenOff, HasReplied, HasServedFiles, IsServing, Listens, Output, ServesAll, ServesFrom}

module _ {D : Type 0} (g : disk.Ghosts D) (start : Image) (closed : Option (Files D)) where
  -- the office is its register
  pub same_office : (register office : Held (FileStore D g)) → office ≡ register → IsOpen start register → IsOpen start office
  same_office register office same is_open = subst (IsOpen start) (sym same) is_open

  -- ---- requests in files

  module _ (asked : List event.Event) (register left : Held (FileStore D g)) (is_open : IsOpen start register) (clean : HasCleanDisk (file_state left) → HasCleanDisk (file_state register))
      (closed_to : IsClosedTo g closed left) (old new : Output) where
    -- a list of requests on a register that is open
    answered : (answers : List given.Answer) → IsBatch over_files register left asked answers → HasAnswered g start closed asked answers
    answered answers batch = record {
      each = batch.0;
      register = register;
      opened = is_open;
      left = left;
      closed_to = closed_to;
      run = λ is. let o = is_open (clean is) in (o.0, o.1, batch.1 o.0 [] o.2 is);
    }

    pub replied : (whole : Bool) → (answers : List given.Answer) × IsBatch over_files register left asked answers × Appends old.written new.written (flat_map written_reply answers) × (whole ≡ list_all is_available answers)
        → new.failed ≡ old.failed → HasReplied g start closed asked old new whole
    replied whole told sound = record { answers = told.0; answered = answered told.0 told.1; written = told.2; sound = sound; available = told.3 }

    pub broken_off : (new.failed ≡ true) × ((answers : List given.Answer) × IsBatch over_files register left asked answers × IsCut old.written new.written (flat_map written_reply answers)) → HasBrokenOff g start closed asked old new
    broken_off told = record { answers = told.1.0; answered = answered told.1.0 told.1.1; cut = told.1.2; failed = told.0 }

  -- those that the words spell
  pub ends_batch : (now : List ℕ) (files : List (List ℕ)) (requests asked : List event.Event) → asked ≡ requests → AreAskedByText now files requests → (old new : Output) (r : Result Bool Failure)
      → AnswersRequests g start closed asked old new r → EndsBatch g start closed now files old new r
  ends_batch now files requests asked same spelled old new (Ok whole) answers = (asked, subst (AreAskedByText now files) (sym same) spelled, answers)
  ends_batch now files requests asked same spelled old new (Err (failure.Field field)) answers = absurd answers
  ends_batch now files requests asked same spelled old new (Err (failure.Refused why)) answers = absurd answers
  ends_batch now files requests asked same spelled old new (Err (failure.Register why)) answers = (answers.0, answers.1, inr (asked, subst (AreAskedByText now files) (sym same) spelled))
  ends_batch now files requests asked same spelled old new (Err failure.Device) answers = inr (asked, subst (AreAskedByText now files) (sym same) spelled, answers)
  ends_batch now files requests asked same spelled old new (Err failure.Shut) answers = absurd answers

  -- ---- connections

  module _ (register left : Held (FileStore D g)) (s : Serving) (before after : Log) (old new errors errors' : Output) (is_open : IsOpen start register) (closed_to : IsClosedTo g closed left) where
    served_from : (ended : Ending) → ServesFrom register left s ended before after errors errors' → HasServedFiles g start closed s ended before after errors errors'
    served_from ended from =
        record { register = register; opened = is_open; left = left; closed_to = closed_to; clean = from.0; outcomes = from.1.0; served = from.1.1; listened = from.1.2; told = from.1.3 }

    pub serves_all : (r : Result (Unit {0}) Failure) → Listens register left s before after old new errors errors' r → ServesAll g start closed s before after old new errors errors' r
    serves_all (Ok done) listens = (served_from ending.Served listens.0, listens.1)
    serves_all (Err failure.Shut) listens = (served_from ending.Shut listens.0, listens.1)
    serves_all (Err (failure.Field f)) listens = absurd listens
    serves_all (Err (failure.Refused why)) listens = absurd listens
    serves_all (Err (failure.Register why)) listens = absurd listens
    serves_all (Err failure.Device) listens = (listens.1, stays_open register left start closed is_open listens.0 closed_to)

  -- where the words spell what to serve
  pub ends_serve : (place count : List ℕ) (now orders : Option (List ℕ)) (s : Serving) → IsServing place count now orders s → (before after : Log) (old new errors errors' : Output) (r : Result (Unit {0}) Failure) → ServesAll g start closed s before after old new errors errors' r
      → EndsServe g start closed place count now orders before after old new errors errors' r
  ends_serve place count now orders s spelled before after old new errors errors' (Ok done) serves = (s, spelled, serves)
  ends_serve place count now orders s spelled before after old new errors errors' (Err (failure.Field f)) serves = absurd serves
  ends_serve place count now orders s spelled before after old new errors errors' (Err (failure.Refused why)) serves = absurd serves
  ends_serve place count now orders s spelled before after old new errors errors' (Err (failure.Register why)) serves = (serves.0, serves.1, serves.2, inr (s, spelled))
  ends_serve place count now orders s spelled before after old new errors errors' (Err failure.Device) serves = (s, spelled, serves)
  ends_serve place count now orders s spelled before after old new errors errors' (Err failure.Shut) serves = (s, spelled, serves)
