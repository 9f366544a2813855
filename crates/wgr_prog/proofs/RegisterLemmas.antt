-- How a word on a register ends.
use Rattle.std.proofs.Common.{◌≡◌, ℕ, Bool, true, false, List, Option, Result, Ok, Err, MatchBool, ap, inl, inr, refl}
use Rattle.sqlite.specs.Recovery.{Image}
use Rattle.sqlite_disk.specs.declared.Disk as disk
use Rattle.sqlite_disk.specs.declared.Files.{Files}
use Rattle.wgr_words.specs.Asked.{OrderAsked}
use Rattle.wgr_file.specs.OnFiles.{HasEnded}
use Rattle.wgr_orders.specs.declared.order.Order.{Order}
use Rattle.wgr_register.specs.declared.fault.Done.{Done}
use Rattle.wgr_register.specs.declared.fault.OrderFault.{OrderFault}
use Rattle.wgr_register.specs.declared.fault.OrderFault.TheVariants as order_fault
use Rattle.wgr_prog.specs.declared.register_words.Failure.{Failure}
use Rattle.wgr_prog.specs.declared.register_words.Failure.TheVariants as failure
use Rattle.wgr_prog.specs.OnRegister.{CarriesOut, EndsAs, as_ended, of_order}
use Rattle.wgr_words.specs.Order.{Input, TakesInput, OrdersBy}

module _ {D : Type 0} (g : disk.Ghosts D) (start : Image) (closed : Option (Files D)) where
  -- an order that wasn't done, as a failure
  failed : (order : Order) (why : OrderFault) → HasEnded g start closed order (Err why) → EndsAs g start closed order (Err (of_order why))
  failed order (order_fault.Refused refusal) ended = ended
  failed order (order_fault.Fault fault) ended = inr (fault, refl, ended)

  pub ends_as : (order : Order) (r : Result Done OrderFault) → HasEnded g start closed order r → EndsAs g start closed order (as_ended r)
  ends_as order (Ok done) ended = ended
  ends_as order (Err why) ended = failed order why ended

  sound : (wants : Bool) (old new : Input) (token : List ℕ) → MatchBool wants (TakesInput old new token) (new ≡ old) → new.failed ≡ old.failed
  sound true old new token took = took.sound
  sound false old new token kept = ap (λ (input : Input). input.failed) kept

  -- the order that was made ends so
  pub carried : (asked : OrderAsked) (old new : Input) (order : Order) (r : Result Done Failure) → OrdersBy asked old new (Ok order) → EndsAs g start closed order r → CarriesOut g start closed asked old new r
  carried asked old new order (Ok done) made ended = (made.0, order, made.1, made.2, ended)
  carried asked old new order (Err (failure.Refused why)) made ended = (made.0, order, made.1, made.2, ended)
  carried asked old new order (Err (failure.Field field)) made ended = absurd ended
  carried asked old new order (Err (failure.Register why)) made (inl stays) = (sound _ old new made.0 made.1, inl (stays, inr (made.0, order, made.1, made.2)))
  carried asked old new order (Err (failure.Register why)) made (inr ended) = (sound _ old new made.0 made.1, inr (ended.0, ended.1, (made.0, order, made.1, made.2, ended.2)))
  carried asked old new order (Err failure.Device) made ended = absurd ended
  carried asked old new order (Err failure.Shut) made ended = absurd ended
