-- Orders in the lines of a text.
use Rattle.std.specs.Prelude.{ℕ, ◌≡◌, ◌⊎◌, ◌++◌, true, List, Option, Some, None, Result, Ok, Err, flat_map}
use Rattle.std.specs.Io.KnownBytes.{Appends}
use Rattle.sqlite.specs.Files.{file_state, over_files}
use Rattle.sqlite.specs.Held.{Held}
use Rattle.sqlite.specs.Recovery.{Image}
use Rattle.sqlite.specs.State.{HasCleanDisk}
use Rattle.sqlite_disk.specs.declared.Disk as disk
use Rattle.sqlite_disk.specs.declared.Files.{Files}
use Rattle.sqlite_store.specs.declared.store.FileStore.{FileStore}
use Rattle.wgr_file.specs.OnFiles.{IsClosedTo, IsOpen, FilesStay}
use Rattle.wgr_service.specs.Lines.{end_text}
use Rattle.wgr_service.specs.Texts.{HasCarriedOut, IsCutAtLast, greatest, lines_in}
use Rattle.wgr_service.specs.declared.lines.LineEnd.{LineEnd}
use Rattle.wgr_schema.specs.declared.fault.RegisterFault.TheVariants as register_fault
use Rattle.wgr_words.specs.Order.{Input, TakesInput}
use Rattle.wgr_words.specs.declared.field.WordFault.{WordFault}
use Rattle.wgr_words.specs.declared.field.WordFault.TheVariants as word_fault
use Rattle.wgr_prog.specs.Answering.{Output}
use Rattle.wgr_prog.specs.Failures.{failure_status}
use Rattle.wgr_prog.specs.declared.register_words.Failure.{Failure}
use Rattle.wgr_prog.specs.declared.register_words.Failure.TheVariants as failure

-- all of standard input, or the text of a file, of which std says nothing
abbrev pub IsOrderText : Option (List ℕ) → Input → Input → List ℕ → Type 0
IsOrderText None old new text = TakesInput old new text
IsOrderText (Some file) old new text = new ≡ old

-- the input failed, or memory was refused; of a file nothing is known
abbrev pub IsTextFault : Option (List ℕ) → Input → Input → WordFault → Type 0
IsTextFault file old new (word_fault.Field field) = ⊥
IsTextFault None old new word_fault.NoMemory = new.failed ≡ old.failed
IsTextFault None old new word_fault.Device = new.failed ≡ true
IsTextFault (Some file) old new why = new ≡ old

-- these lines were carried out on the register that was in the files, and nothing else
pub record HasCarried {D : Type 0} (g : disk.Ghosts D) (start : Image) (closed : Option (Files D)) (lines : List (Option (List ℕ))) (ends : List LineEnd) : Type 0 where
  pub register : Held (FileStore D g)
  pub opened : IsOpen start register
  pub left : Held (FileStore D g)
  pub closed_to : IsClosedTo g closed left
  pub clean : HasCleanDisk (file_state left) → HasCleanDisk (file_state register)
  pub carried : HasCarriedOut over_files register left lines ends

-- all lines were carried out, and how each ended was written
pub record HasReported {D : Type 0} (g : disk.Ghosts D) (start : Image) (closed : Option (Files D)) (text : List ℕ) (old new : Output) (status : ℕ) : Type 0 where
  pub ends : List LineEnd
  pub carried : HasCarried g start closed (lines_in text) ends
  pub written : Appends old.written new.written (flat_map end_text ends)
  pub status_is : status ≡ greatest ends
  pub sound : new.failed ≡ old.failed

-- the first lines were carried out, until a write failed
pub record HasStopped {D : Type 0} (g : disk.Ghosts D) (start : Image) (closed : Option (Files D)) (text : List ℕ) (old new : Output) : Type 0 where
  pub taken : List (Option (List ℕ))
  pub rest : List (Option (List ℕ))
  pub ends : List LineEnd
  pub parted : lines_in text ≡ taken ++ rest
  pub carried : HasCarried g start closed taken ends
  pub cut : IsCutAtLast old.written new.written ends
  pub failed : new.failed ≡ true

-- the lines are carried out, or the register isn't opened
abbrev pub CarriesOutText : {D : Type 0} → disk.Ghosts D → Image → Option (Files D) → List ℕ → Output → Output → Result ℕ Failure → Type 0
CarriesOutText g start closed text old new (Ok status) = HasReported g start closed text old new status
CarriesOutText g start closed text old new (Err (failure.Register why)) = (new ≡ old) × FilesStay g start closed
CarriesOutText g start closed text old new (Err failure.Device) = HasStopped g start closed text old new
CarriesOutText g start closed text old new (Err other) = ⊥

-- and those of the text that was read, or why none was
abbrev pub EndsOrders : {D : Type 0} → disk.Ghosts D → Image → Option (Files D) → Option (List ℕ) → Input → Input → Output → Output → Result ℕ Failure → Type 0
EndsOrders g start closed file was is old new (Ok status) = (text : List ℕ) × IsOrderText file was is text × HasReported g start closed text old new status
EndsOrders g start closed file was is old new (Err (failure.Register why)) =
    (new ≡ old) × FilesStay g start closed × (((why ≡ register_fault.NoMemory) × IsTextFault file was is word_fault.NoMemory) ⊎ ((text : List ℕ) × IsOrderText file was is text))
EndsOrders g start closed file was is old new (Err failure.Device) = ((new ≡ old) × FilesStay g start closed × IsTextFault file was is word_fault.Device) ⊎ ((text : List ℕ) × IsOrderText file was is text × HasStopped g start closed text old new)
EndsOrders g start closed file was is old new (Err other) = ⊥

abbrev pub orders_status : Result ℕ Failure → ℕ
orders_status (Ok status) = status
orders_status (Err why) = failure_status why
