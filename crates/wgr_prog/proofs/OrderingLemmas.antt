-- How the orders of a text end.
use Rattle.std.proofs.Common.{◌≡◌, ℕ, List, Option, None, Result, Ok, Err, inl, inr, refl, subst, sym}
use Rattle.sqlite.specs.Files.{file_state, over_files}
use Rattle.sqlite.specs.Held.{Held}
use Rattle.sqlite.specs.Recovery.{Image}
use Rattle.sqlite.specs.State.{HasCleanDisk}
use Rattle.sqlite_disk.specs.declared.Disk as disk
use Rattle.sqlite_disk.specs.declared.Files.{Files}
use Rattle.sqlite_store.specs.declared.store.FileStore.{FileStore}
use Rattle.wgr_file.specs.OnFiles.{IsClosedTo, IsOpen}
use Rattle.wgr_service.specs.Texts.{HasCarriedOut}
use Rattle.wgr_service.specs.declared.lines.LineEnd.{LineEnd}
use Rattle.wgr_words.specs.Order.{Input}
use Rattle.wgr_words.specs.declared.field.WordFault.{WordFault}
use Rattle.wgr_words.specs.declared.field.WordFault.TheVariants as word_fault
use Rattle.wgr_prog.specs.Answering.{Output}
use Rattle.wgr_prog.specs.OnRegister.{of_words}
use Rattle.wgr_prog.specs.Ordering.{CarriesOutText, EndsOrders, HasCarried, IsOrderText, IsTextFault}
use Rattle.wgr_prog.specs.declared.register_words.Failure.{Failure}
use Rattle.wgr_prog.specs.declared.register_words.Failure.TheVariants as failure

-- on the register that was opened, and closed after it
pub has_carried : {D : Type 0} (g : disk.Ghosts D) (start : Image) (closed : Option (Files D)) (register left : Held (FileStore D g)) (lines : List (Option (List ℕ))) (ends : List LineEnd) → IsOpen start register → IsClosedTo g closed left
    → (HasCleanDisk (file_state left) → HasCleanDisk (file_state register)) → HasCarriedOut over_files register left lines ends → HasCarried g start closed lines ends
has_carried g start closed register left lines ends opened closed_to clean carried = record { register = register; opened = opened; left = left; closed_to = closed_to; clean = clean; carried = carried }

-- those of the text that was read
pub ends_orders : {D : Type 0} (g : disk.Ghosts D) (start : Image) (closed : Option (Files D)) (file : Option (List ℕ)) (was is : Input) (text : List ℕ) (old new : Output) (r : Result ℕ Failure) → IsOrderText file was is text → CarriesOutText g start closed text old new r
    → EndsOrders g start closed file was is old new r
ends_orders g start closed file was is text old new (Ok status) read carries = (text, read, carries)
ends_orders g start closed file was is text old new (Err (failure.Field f)) read carries = absurd carries
ends_orders g start closed file was is text old new (Err (failure.Refused why)) read carries = absurd carries
ends_orders g start closed file was is text old new (Err (failure.Register why)) read carries = (carries.0, carries.1, inr (text, read))
ends_orders g start closed file was is text old new (Err failure.Device) read carries = inr (text, read, carries)
ends_orders g start closed file was is text old new (Err failure.Shut) read carries = absurd carries

-- no text was read, and no register opened
pub unread : {D : Type 0} (g : disk.Ghosts D) (start : Image) (file : Option (List ℕ)) (was is : Input) (old : Output) (why : WordFault) (failed : Failure) → failed ≡ of_words why → IsTextFault file was is why
    → EndsOrders g start None file was is old old (Err failed)
unread g start file was is old why failed same fault = subst (λ (f : Failure). EndsOrders g start None file was is old old (Err f)) (sym same) (by_fault why fault)
  where
    by_fault : (why : WordFault) → IsTextFault file was is why → EndsOrders g start None file was is old old (Err (of_words why))
    by_fault (word_fault.Field field) fault = absurd fault
    by_fault word_fault.NoMemory fault = (refl, tt, inl (refl, fault))
    by_fault word_fault.Device fault = inl (refl, tt, fault)
