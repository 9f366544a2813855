-- A register in two files: what they held, and what they hold once they are closed.
use Rattle.std.proofs.Common.{◌≡◌, ◌∙◌, [], ◌∷◌, List, Bool, not, Option, Some, None, Result, Ok, Err, IfSome, IsTrue, false, sym, ap, subst, inl, inr, arith}
use Rattle.std.proofs.Math.Logic.{∥∥₁_elim, ∥∥₁_map}
use Rattle.sqlite_trees.specs.Props.{Trees-set}
use Rattle.sqlite_disk.specs.declared.Disk as disk
use Rattle.sqlite_disk.specs.declared.Files.{Files}
use Rattle.sqlite_store.specs.FileStore.{faults, files, is_shielded, recovers, view}
use Rattle.sqlite_store.specs.declared.store.FileStore.{FileStore}
use Rattle.sqlite_pool.proofs.StateLemmas.{clean_is, may_leave_is}
use Rattle.sqlite_trees.proofs.Doubt.{no_doubt}
use Rattle.sqlite_trees.specs.View.{IsClean, IsQuiet}
use Rattle.sqlite.proofs.Theorems.{opens_again}
use Rattle.sqlite.specs.Closing.{HoldsAlone, IsCopied}
use Rattle.sqlite.specs.Effect.{Database, IsDatabase}
use Rattle.sqlite.specs.Files.{HoldsDatabase, IsOpened, file_state, over_files}
use Rattle.sqlite.specs.Held.{AreDatabases, Held}
use Rattle.sqlite.specs.Recovery.{Image}
use Rattle.sqlite.specs.Start.{FindsIn}
use Rattle.sqlite.specs.State.{HasCleanDisk}
use Rattle.sqlite.specs.WalFiles.{outcomes}
use Rattle.sqlite.specs.WalReads.{AreClean}
use Rattle.wgr_orders.specs.Orders.{order_event}
use Rattle.wgr_model.specs.RowLaws.{IsRowStep}
use Rattle.wgr_model.specs.Steps.{Answer, Event}
use Rattle.wgr_model.specs.Stops.{IsLeft}
use Rattle.wgr_orders.specs.declared.order.Order.{Order}
use Rattle.wgr_register.specs.Causes.{IfOrderFault, OrderStops}
use Rattle.wgr_register.specs.Ends.{StandsAfter, OrderEnds, is_change}
use Rattle.wgr_register.specs.Standing.{StandsAt}
use Rattle.wgr_register.specs.declared.fault.Done as done
use Rattle.wgr_register.specs.declared.fault.OrderFault.{OrderFault}
use Rattle.wgr_register.specs.declared.fault.OrderFault.TheVariants as order_fault
use Rattle.wgr_register.proofs.LeftLemmas.{one_database, stop_leaves}
use Rattle.wgr_sql.specs.Calls.{IsKept}
use Rattle.wgr_sql.specs.Causes.{HasCauseOr}
use Rattle.wgr_schema.specs.Fresh.{IsFresh, no_schema}
use Rattle.wgr_columns.specs.Decode.{tables_of}
use Rattle.wgr_opening.specs.Good.{IsGood}
use Rattle.wgr_opening.specs.Migrated.{IsMigrated}
use Rattle.wgr_file.specs.Laws.{KilledIsFound}
use Rattle.wgr_file.specs.OnFiles.{AreThoseOf, EndsIn, HasEnded, IsClosedIn, IsClosedTo, IsMadeInFiles, IsOpen, StandIn, FilesStay, StoodIn, WasMigrated}

-- files that hold a good register are found to hold it
held_is : (left db : Database) (next : Image) → IsGood left → ∥ HoldsDatabase next left.trees ∥₁ → StoodIn next db → db ≡ left
held_is left db next good held stood =
    one_database db left stood.good.register.sound good.register.sound (∥∥₁_elim held (Trees-set db.trees left.trees) (stood.found.0 left.trees))

module _ {D : Type 0} {g : disk.Ghosts D} where
  -- ---- what a new connection shows

  pub those_of : (conn : Held (FileStore D g)) (start : Image) → (HasCleanDisk (file_state conn) → IsOpened conn) → (HasCleanDisk (file_state conn) → FindsIn start (file_state conn))
      → HasCleanDisk (file_state conn) → AreThoseOf start (file_state conn).now.trees
  those_of conn start opened found clean =
      let finds = found clean in
      subst (AreThoseOf start) (sym (ap (λ (d : Database). d.trees) (opened clean).0.clean)) (finds.holds, finds.reads)

  pub sound_of : (conn : Held (FileStore D g)) → (HasCleanDisk (file_state conn) → IsOpened conn) → HasCleanDisk (file_state conn) → IsDatabase (file_state conn).now
  sound_of conn opened clean = let is = opened clean in (is.1 is.0.is_open).0

  pub open_in : (conn register : Held (FileStore D g)) (start : Image) → (HasCleanDisk (file_state conn) → AreThoseOf start (file_state conn).now.trees)
      → (HasCleanDisk (file_state register) → HasCleanDisk (file_state conn)) → (HasCleanDisk (file_state register) → IsGood (file_state conn).now × StandsAt over_files register (file_state conn).now [])
      → IsOpen start register
  open_in conn register start those clean good now =
      let is = good now in ((file_state conn).now, record { found = those (clean now); good = is.0 }, is.1)

  -- ---- what both files hold once the connection is closed

  pub closed_in : (conn : Held (FileStore D g)) (files : Files D) (settled : Bool) → settled ≡ not (file_state conn).in_transaction → conn.in_transaction ≡ false
      → (IsTrue settled → IsTrue (file_state conn).is_open → (file_state conn).now ≡ (file_state conn).committed) → (AreClean g files.log files.db → IsCopied conn files) → AreClean g files.log files.db → IsClosedIn g files conn
  closed_in conn files settled value idle same copied honest =
      let is = copied honest in
      let alike = same (value ∙ ap not idle) is.was_open in
      record { clean = is.was_clean; live = is.was_open; holds = λ image may. subst (λ (d : Database). HoldsAlone image d.trees) (sym alike) (is.left image may) }

  pub closed_as : (conn register : Held (FileStore D g)) (closed : Option (Files D)) → conn ≡ register → IsClosedTo g closed conn → IsClosedTo g closed register
  closed_as conn register closed same is = subst (IsClosedTo g closed) same is

  pub stays : (conn left : Held (FileStore D g)) (start : Image) (closed : Option (Files D)) → (HasCleanDisk (file_state conn) → AreThoseOf start (file_state conn).now.trees)
      → (HasCleanDisk (file_state left) → HasCleanDisk (file_state conn)) → IsKept (file_state conn) (file_state left) → IsClosedTo g closed left → FilesStay g start closed
  stays conn left start None those clean kept is = tt
  stays conn left start (Some files) those clean kept is = λ honest.
      let c = is honest in
      let same = kept c.clean c.live in
      ((file_state left).now.trees, subst (λ (d : Database). AreThoseOf start d.trees) (sym same.1) (those (clean c.clean)), c.holds)

  -- what the database that was found is, as the connection is left
  pub found_as : (conn left : Held (FileStore D g)) (start : Image) (closed : Option (Files D)) (P : Database → Type 0) → (HasCleanDisk (file_state conn) → AreThoseOf start (file_state conn).now.trees)
      → (HasCleanDisk (file_state left) → HasCleanDisk (file_state conn)) → (HasCleanDisk (file_state left) → P (file_state conn).now) → IsClosedTo g closed left
      → IfSome closed (λ files. AreClean g files.log files.db → (db : Database) × AreThoseOf start db.trees × P db)
  found_as conn left start None P those clean is closed = tt
  found_as conn left start (Some files) P those clean is closed = λ honest. let now = (closed honest).clean in ((file_state conn).now, those (clean now), is now)

  -- a register that was opened and closed as it was
  pub stays_open : (register left : Held (FileStore D g)) (start : Image) (closed : Option (Files D)) → IsOpen start register → left ≡ register → IsClosedTo g closed left → FilesStay g start closed
  stays_open register left start None opened same is = tt
  stays_open register left start (Some files) opened same is = λ honest.
      let c = subst (IsClosedIn g files) same (is honest) in
      let o = opened c.clean in
      ((file_state register).now.trees, subst (λ (d : Database). AreThoseOf start d.trees) (sym (o.2.stands.shows c.clean c.live)) o.1.found, c.holds)

  -- ---- words

  pub made : (conn register : Held (FileStore D g)) (start : Image) (closed : Option (Files D)) → (HasCleanDisk (file_state conn) → IsDatabase (file_state conn).now)
      → (HasCleanDisk (file_state conn) → AreThoseOf start (file_state conn).now.trees) → (HasCleanDisk (file_state register) → HasCleanDisk (file_state conn)) → (file_state conn).now.schema ≡ no_schema
      → (HasCleanDisk (file_state register) → (db : Database) × IsFresh db × StandsAt over_files register db []) → IsClosedTo g closed register → IsMadeInFiles g start closed
  made conn register start closed sound those clean blank fresh is = record {
    made = register;
    closed_to = is;
    blank = λ now. ((file_state conn).now, record { found = those (clean now); sound = sound (clean now); blank = blank });
    fresh = fresh;
  }

  pub migrated : (conn register : Held (FileStore D g)) (start : Image) (closed : Option (Files D)) → (HasCleanDisk (file_state conn) → AreThoseOf start (file_state conn).now.trees)
      → (HasCleanDisk (file_state register) → HasCleanDisk (file_state conn)) → (HasCleanDisk (file_state register) → (db : Database) × IsMigrated (file_state conn).now db × StandsAt over_files register db []) → IsClosedTo g closed register
      → WasMigrated g start closed
  migrated conn register start closed those clean done is = record {
    left = register;
    closed_to = is;
    migrated = λ now. let it = done now in ((file_state conn).now, it.0, those (clean now), it.1, it.2);
  }

  pub ended : (register left : Held (FileStore D g)) (start : Image) (closed : Option (Files D)) (order : Order) (r : Result done.Done OrderFault) → IsOpen start register
      → (HasCleanDisk (file_state left) → HasCleanDisk (file_state register))
      → ((db : Database) (late : List Event) → StandsAt over_files register db late → OrderEnds over_files left db late (order_event order) r)
      → ((db : Database) (late : List Event) → StandsAt over_files register db late → IfOrderFault (HasCauseOr (OrderStops (tables_of db) (order_event order)) (file_state register) (file_state left)) r)
      → IsClosedTo g closed left → HasEnded g start closed order r
  ended register left start closed order r opened clean ends stops is = record {
    opened = register;
    left = left;
    closed_to = is;
    ends = λ now. let o = opened (clean now) in (o.0, o.1, ends o.0 [] o.2);
    cause = λ now. let o = opened now in (o.0, o.1, stops o.0 [] o.2);
  }

  -- ---- laws

  pub stand_in : (left : Held (FileStore D g)) (files : Files D) (db : Database) (late : List Event) → IsClosedIn g files left → StandsAt over_files left db late → StandIn g files db
  stand_in left files db late is at = record {
    good = record { register = at.stands.sound; consistent = at.consistent };
    holds = λ image may. subst (λ (d : Database). HoldsAlone image d.trees) (at.stands.shows is.clean is.live) (is.holds image may);
  }

  pub ends_in : (files : Files D) (start : Image) (order : Order) (r : Result done.Done OrderFault) → HasEnded g start (Some files) order r → AreClean g files.log files.db → EndsIn g start files order r
  ends_in files start order (Ok done) has honest =
      let is = has.closed_to honest in
      let o = has.ends is.clean in
      let end = o.2 is.clean in
      let step = subst (λ (a : Answer). IsRowStep (tables_of o.0) (order_event order) a (tables_of end.2)) end.1 end.3 in
      let at = subst (λ (a : Answer). StandsAfter over_files has.left (is_change a (order_event order)) o.0 [] end.2) end.1 end.4 in
      (o.0, o.1, end.2, step, stand_in has.left files end.2 [] is at)
  ends_in files start order (Err (order_fault.Refused why)) has honest =
      let is = has.closed_to honest in
      let o = has.ends is.clean in
      (o.0, o.1, o.2.1 is.clean, stand_in has.left files o.0 [] is o.2.0)
  ends_in files start order (Err (order_fault.Fault why)) has honest =
      let is = has.closed_to honest in
      let o = has.ends is.clean in
      (o.0, o.1, stand_in has.left files o.0 (order_event order ∷ []) is o.2)

  pub made_in : (files : Files D) (start : Image) → IsMadeInFiles g start (Some files) → AreClean g files.log files.db → (db : Database) × StandIn g files db
  made_in files start has honest =
      let is = has.closed_to honest in
      let fresh = has.fresh is.clean in
      (fresh.0, stand_in has.made files fresh.0 [] is fresh.2)

  pub migrated_in : (files : Files D) (start : Image) → WasMigrated g start (Some files) → AreClean g files.log files.db → (old new : Database) × AreThoseOf start old.trees × IsMigrated old new × StandIn g files new
  migrated_in files start has honest =
      let is = has.closed_to honest in
      let it = has.migrated is.clean in
      (it.0, it.1, it.2, it.3, stand_in has.left files it.1 [] is it.4)

  -- the next word finds what the last one left
  pub next_is : (files : Files D) (left db : Database) (next : Image) → StandIn g files left → outcomes g files.log files.db next → StoodIn next db → db ≡ left
  next_is files left db next stands may stood = held_is left db next stands.good (stands.holds next may).both stood

  pub copy_is : (files : Files D) (left db : Database) (next : Image) → StandIn g files left → outcomes g files.log files.db next → StoodIn (record next { log = [] }) db → db ≡ left
  copy_is files left db next stands may stood = held_is left db (record next { log = [] }) stands.good (stands.holds next may).alone stood

  -- nor does it matter that the process of the last one was killed: the acknowledged rows are there
  pub killed_left : (register : Held (FileStore D g)) (it : FileStore D g) (closed : Files D) → (IsClean (view it) → IsTrue (view it).is_numbered) → (IsClean (view it) → AreDatabases (recovers it))
      → IsQuiet view faults recovers is_shielded register.store it → (closed.log, closed.db) ≡ files it → KilledIsFound g register closed
  killed_left register it closed numbered sound quiet same db again late next at clean may stood =
      let sure = subst (λ (p : D × D). AreClean g p.0 p.1) same clean in
      let none : IsClean (view it) = no_doubt _ (clean_is it.pool ∙ sure) in
      let left = may_leave_is it.pool next sure (subst (λ (p : D × D). outcomes g p.0 p.1 next) same may) in
      let was : HasCleanDisk (file_state register) = omega (arith, quiet.clean) in
      ∥∥₁_map (opens_again it (numbered none) (sound none) next left) (λ found.
      let is = stop_leaves over_files register db late at was found.0 (quiet.outcomes found.0 found.1) in
      let one = one_database again is.0 stood.good.register.sound is.1.register.sound (stood.found.0 found.0 found.2 ∙ is.3) in
      subst (λ (d : Database). IsLeft (tables_of db) late (tables_of d)) (sym one) is.2)

-- the good register that the files held is the one that is found
pub found_is : (start : Image) (db held : Database) → StoodIn start db → IsGood held → HoldsDatabase start held.trees → db ≡ held
found_is start db held stood good holds = one_database db held stood.good.register.sound good.register.sound (stood.found.0 held.trees holds)
