-- The results of the commands on a register.
use Rattle.std.specs.Prelude.{ℕ, ◌≡◌, ◌⊎◌, true, List, Option, Result, Ok, Err}
use Rattle.sqlite.specs.Recovery.{Image}
use Rattle.sqlite_disk.specs.declared.Disk as disk
use Rattle.sqlite_disk.specs.declared.Files.{Files}
use Rattle.wgr_words.specs.Asked.{OrderAsked}
use Rattle.wgr_file.specs.OnFiles.{HasEnded, FilesStay}
use Rattle.wgr_orders.specs.declared.order.Order.{Order}
use Rattle.wgr_register.specs.declared.fault.Done.{Done}
use Rattle.wgr_register.specs.declared.fault.OrderFault.{OrderFault}
use Rattle.wgr_register.specs.declared.fault.OrderFault.TheVariants as order_fault
use Rattle.wgr_sql.specs.declared.fault.Fault.{Fault}
use Rattle.wgr_schema.specs.Faults.{as_register_fault}
use Rattle.wgr_schema.specs.declared.fault.RegisterFault.TheVariants as register_fault
use Rattle.wgr_words.specs.declared.field.WordFault.{WordFault}
use Rattle.wgr_words.specs.declared.field.WordFault.TheVariants as word_fault
use Rattle.wgr_prog.specs.declared.register_words.Failure.{Failure}
use Rattle.wgr_prog.specs.declared.register_words.Failure.TheVariants as failure
use Rattle.wgr_words.specs.Order.{Input, MakesOrder, TakesToken, ReportsField}
use Rattle.wgr_prog.specs.Answering.{OnceRead}

-- ---- faults as failures

abbrev pub of_words : WordFault → Failure
of_words (word_fault.Field field) = failure.Field field
of_words word_fault.NoMemory = failure.Register register_fault.NoMemory
of_words word_fault.Device = failure.Device

abbrev pub of_order : OrderFault → Failure
of_order (order_fault.Refused why) = failure.Refused why
of_order (order_fault.Fault why) = failure.Register (as_register_fault why)

abbrev pub as_ended : Result Done OrderFault → Result Done Failure
as_ended (Ok done) = Ok done
as_ended (Err why) = Err (of_order why)

-- ---- orders on the register in two files

-- The order is done, or refused, on the register that was in the files; or it isn't opened, or a fault leaves its rows.
abbrev pub EndsAs : {D : Type 0} → disk.Ghosts D → Image → Option (Files D) → Order → Result Done Failure → Type 0
EndsAs g start closed order (Ok done) = HasEnded g start closed order (Ok done)
EndsAs g start closed order (Err (failure.Refused why)) = HasEnded g start closed order (Err (order_fault.Refused why))
EndsAs g start closed order (Err (failure.Register why)) = FilesStay g start closed ⊎ ((fault : Fault) × (why ≡ as_register_fault fault) × HasEnded g start closed order (Err (order_fault.Fault fault)))
EndsAs g start closed order (Err other) = ⊥

-- the order that the words and the input spell had this result
abbrev pub HasOrderedInFiles : {D : Type 0} → disk.Ghosts D → Image → Option (Files D) → OrderAsked → Input → Input → Result Done OrderFault → Type 0
HasOrderedInFiles g start closed asked old new ended = (token : List ℕ) × (order : Order) × TakesToken asked old new token × MakesOrder asked token order × HasEnded g start closed order ended

-- the words and the input spell an order
abbrev pub SpellOrder : OrderAsked → Input → Input → Type 0
SpellOrder asked old new = (token : List ℕ) × (order : Order) × TakesToken asked old new token × MakesOrder asked token order

-- The order that the words and the input spell is done or refused on the register; or a field is malformed. A fault of
-- the input is reported as such; after any other the input has not failed, and the rows are unchanged. The register
-- is opened only for an order that was read.
abbrev pub CarriesOut : {D : Type 0} → disk.Ghosts D → Image → Option (Files D) → OrderAsked → Input → Input → Result Done Failure → Type 0
CarriesOut g start closed asked old new (Ok done) = HasOrderedInFiles g start closed asked old new (Ok done)
CarriesOut g start closed asked old new (Err (failure.Refused why)) = HasOrderedInFiles g start closed asked old new (Err (order_fault.Refused why))
CarriesOut g start closed asked old new (Err (failure.Field field)) = FilesStay g start closed × ReportsField asked old new field
CarriesOut g start closed asked old new (Err (failure.Register why)) =
    (new.failed ≡ old.failed) × ((FilesStay g start closed × OnceRead why (SpellOrder asked old new)) ⊎ ((fault : Fault) × (why ≡ as_register_fault fault) × HasOrderedInFiles g start closed asked old new (Err (order_fault.Fault fault))))
CarriesOut g start closed asked old new (Err failure.Device) = FilesStay g start closed × (new.failed ≡ true)
CarriesOut g start closed asked old new (Err failure.Shut) = ⊥
