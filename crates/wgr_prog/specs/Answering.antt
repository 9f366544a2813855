-- The effects of the commands that answer tenants' requests.
use Rattle.std.specs.Prelude.{ℕ, ◌≡◌, ◌⊎◌, Bool, true, List, [], ◌∷◌, ◌++◌, length, codes, Option, Some, None, IsSome, option_map, Result, Ok, Err, All, flat_map}
use Rattle.std.specs.Io.KnownBytes.{Appends}
use Rattle.std.specs.List.{list_all}
use Rattle.sqlite.specs.Effect.{Database}
use Rattle.sqlite.specs.Files.{file_state, over_files}
use Rattle.sqlite.specs.Held.{Held}
use Rattle.sqlite.specs.Recovery.{Image}
use Rattle.sqlite.specs.State.{HasCleanDisk}
use Rattle.sqlite_disk.specs.declared.Disk as disk
use Rattle.sqlite_disk.specs.declared.Files.{Files}
use Rattle.sqlite_store.specs.declared.store.FileStore.{FileStore}
use Rattle.wgr_file.specs.OnFiles.{IsClosedTo, IsOpen, FilesStay, StoodIn}
use Rattle.wgr_office.specs.Between.{HasPassed}
use Rattle.wgr_office.specs.Serving.{is_available, written_reply}
use Rattle.wgr_office.specs.declared.answer.Answer as given
use Rattle.wgr_office.specs.declared.run.Event as event
use Rattle.wgr_office.specs.declared.run.Event.TheVariants as events
use Rattle.wgr_io.specs.Device.{IsCut}
use Rattle.wgr_service.specs.Connections.{AreConnectionsServed, ConnectionEnd, contacts_of, IsAppended, line_of}
use Rattle.wgr_service.specs.Network.{Contact, Log, Logs, bound, bound_orders}
use Rattle.wgr_service.specs.declared.connections.Ending.{Ending}
use Rattle.wgr_service.specs.declared.connections.Ending.TheVariants as ending
use Rattle.wgr_schema.specs.declared.fault.RegisterFault.{RegisterFault}
use Rattle.wgr_schema.specs.declared.fault.RegisterFault.TheVariants as register_fault
use Rattle.wgr_words.specs.declared.field.WordField.{WordField}
use Rattle.wgr_words.specs.declared.field.WordField.TheVariants as of
use Rattle.wgr_words.specs.declared.field.WordFault.{WordFault}
use Rattle.wgr_words.specs.declared.field.WordFault.TheVariants as word_fault
use Rattle.wgr_prog.specs.declared.register_words.Failure.{Failure}
use Rattle.wgr_prog.specs.declared.register_words.Failure.TheVariants as failure
use Rattle.wgr_words.specs.Order.{IsFirstFault}
use Rattle.wgr_words.specs.Words.{IsRead, SpellsEndpoint, SpellsWhole}
use Rattle.wgr_prog.specs.declared.request_words.Serving.{Serving}

-- what was written to a writer, and whether a write has failed
pub record Output : Type 0 where
  pub written : Option (List ℕ)
  pub failed : Bool

abbrev pub output_of : {W : Type 0} → (W → Option (List ℕ)) → (W → Bool) → W → Output
output_of contents failed out = record { written = contents out; failed = failed out }

-- ---- requests in files

-- memory or a file
abbrev pub IsNoField : WordFault → Type 0
IsNoField (word_fault.Field field) = ⊥
IsNoField word_fault.NoMemory = Unit {0}
IsNoField word_fault.Device = Unit {0}

abbrev pub IsAskedAt : ℕ → event.Event → Type 0
IsAskedAt now (events.Ask moment bytes) = moment ≡ now
IsAskedAt now (events.Order order) = ⊥

-- this many requests, each at this moment
abbrev pub AreAskedAt : ℕ → ℕ → List event.Event → Type 0
AreAskedAt now count asked = (length asked ≡ count) × All (IsAskedAt now) asked

-- the requests in these files at the moment that the text spells
abbrev pub AreAskedByText : List ℕ → List (List ℕ) → List event.Event → Type 0
AreAskedByText now files asked = (moment : ℕ) × SpellsWhole now moment × AreAskedAt moment (length files) asked

-- the moment is malformed; or it was read, and a file failed; or memory was refused
abbrev pub IsBatchFault : List ℕ → WordFault → Type 0
IsBatchFault now (word_fault.Field field) = IsFirstFault field ((of.Now, now) ∷ [])
IsBatchFault now word_fault.NoMemory = Unit {0}
IsBatchFault now word_fault.Device = (moment : ℕ) × SpellsWhole now moment

-- These requests were run, with these answers, on the register that was in the files, and nothing else; and between any
-- two of them it was at some rows.
pub record HasAnswered {D : Type 0} (g : disk.Ghosts D) (start : Image) (closed : Option (Files D)) (asked : List event.Event) (answers : List given.Answer) : Type 0 where
  pub each : length answers ≡ length asked
  pub register : Held (FileStore D g)
  pub opened : IsOpen start register
  pub left : Held (FileStore D g)
  pub closed_to : IsClosedTo g closed left
  pub run : HasCleanDisk (file_state left) → (db : Database) × StoodIn start db × HasPassed over_files register left db [] asked answers

-- They were answered, and their replies written. `whole` says whether none was answered Unavailable.
pub record HasReplied {D : Type 0} (g : disk.Ghosts D) (start : Image) (closed : Option (Files D)) (asked : List event.Event) (old new : Output) (whole : Bool) : Type 0 where
  pub answers : List given.Answer
  pub answered : HasAnswered g start closed asked answers
  pub written : Appends old.written new.written (flat_map written_reply answers)
  pub sound : new.failed ≡ old.failed
  pub available : whole ≡ list_all is_available answers

-- They were answered, but a write of the replies failed partway.
pub record HasBrokenOff {D : Type 0} (g : disk.Ghosts D) (start : Image) (closed : Option (Files D)) (asked : List event.Event) (old new : Output) : Type 0 where
  pub answers : List given.Answer
  pub answered : HasAnswered g start closed asked answers
  pub cut : IsCut old.written new.written (flat_map written_reply answers)
  pub failed : new.failed ≡ true

-- the requests are answered, or the register isn't opened, or there is no memory
abbrev pub AnswersRequests : {D : Type 0} → disk.Ghosts D → Image → Option (Files D) → List event.Event → Output → Output → Result Bool Failure → Type 0
AnswersRequests g start closed asked old new (Ok whole) = HasReplied g start closed asked old new whole
AnswersRequests g start closed asked old new (Err (failure.Register why)) = (new ≡ old) × FilesStay g start closed
AnswersRequests g start closed asked old new (Err failure.Device) = HasBrokenOff g start closed asked old new
AnswersRequests g start closed asked old new (Err other) = ⊥

-- The words were read before the register was asked for; or there was no memory.
abbrev pub OnceRead : RegisterFault → Type 0 → Type 0
OnceRead why read = (why ≡ register_fault.NoMemory) ⊎ read

-- How the requests in these files end: on an error, nothing is written, or only the first bytes of the replies.
abbrev pub EndsBatch : {D : Type 0} → disk.Ghosts D → Image → Option (Files D) → List ℕ → List (List ℕ) → Output → Output → Result Bool Failure → Type 0
EndsBatch g start closed now files old new (Ok whole) = (asked : List event.Event) × AreAskedByText now files asked × HasReplied g start closed asked old new whole
EndsBatch g start closed now files old new (Err (failure.Field field)) = (new ≡ old) × FilesStay g start closed × IsFirstFault field ((of.Now, now) ∷ [])
EndsBatch g start closed now files old new (Err (failure.Refused why)) = ⊥
EndsBatch g start closed now files old new (Err failure.Shut) = ⊥
EndsBatch g start closed now files old new (Err (failure.Register why)) = (new ≡ old) × FilesStay g start closed × OnceRead why ((asked : List event.Event) × AreAskedByText now files asked)
EndsBatch g start closed now files old new (Err failure.Device) = ((new ≡ old) × FilesStay g start closed × ((moment : ℕ) × SpellsWhole now moment)) ⊎ ((asked : List event.Event) × AreAskedByText now files asked × HasBrokenOff g start closed asked old new)

-- ---- connections

-- the moment of all requests, where one is given
abbrev pub SpellsMoment : Option (List ℕ) → Option ℕ → Type 0
SpellsMoment None moment = moment ≡ None
SpellsMoment (Some text) moment = (n : ℕ) × SpellsWhole text n × (moment ≡ Some n)

-- it is read, or the error says why not
abbrev pub IsChoice : Option (List ℕ) → Result (Option ℕ) WordFault → Type 0
IsChoice None result = result ≡ Ok None
IsChoice (Some text) (Ok moment) = SpellsMoment (Some text) moment
IsChoice (Some text) (Err why) = IsRead (SpellsWhole text) of.Now (Err why)

-- the words in their order
abbrev pub choice_fields : Option (List ℕ) → List (WordField × List ℕ)
choice_fields None = []
choice_fields (Some now) = (of.Now, now) ∷ []

abbrev pub serve_fields : List ℕ → List ℕ → Option (List ℕ) → List (WordField × List ℕ)
serve_fields place count now = (of.HostPort, place) ∷ (of.Count, count) ∷ choice_fields now

-- where orders are taken
abbrev pub orders_of : Serving → Option (List ℕ)
orders_of s = option_map (λ path. path.now) s.orders

-- what the words ask to serve
pub record IsServing (place count : List ℕ) (now orders : Option (List ℕ)) (s : Serving) : Type 0 where
  pub endpoint : SpellsEndpoint place s.endpoint
  pub count_is : SpellsWhole count s.count
  pub moment : SpellsMoment now s.moment
  pub orders_at : orders_of s ≡ orders

-- the address that is bound, and the socket for orders
abbrev pub bound_address : Serving → List Contact
bound_address s = bound s.endpoint.0 s.endpoint.1 ∷ []

abbrev pub socket_of : Option (List ℕ) → List Contact
socket_of None = []
socket_of (Some path) = bound_orders path ∷ []

abbrev pub places_of : Serving → List Contact
places_of s = bound_address s ++ socket_of (orders_of s)

-- they were bound, and the connections with these outcomes were accepted
abbrev pub HasListened : Serving → Log → Log → List ConnectionEnd → Type 0
HasListened s before after outcomes = Logs before after (places_of s ++ flat_map contacts_of outcomes)

-- The address can't be bound, or it was bound and the socket for orders can't be, and nothing is written; or all were
-- bound, and a write failed before any connection came.
abbrev pub IsUnserved : Serving → Log → Log → Output → Output → Type 0
IsUnserved s before after old new =
    ((after ≡ before) × (new ≡ old)) ⊎ (Logs before after (bound_address s) × IsSome s.orders × (new ≡ old)) ⊎ (HasListened s before after [] × (new.failed ≡ true))

-- Connections were served, at this address, by the register that was in the files: as many as asked for, or fewer where
-- the store failed for good. Those that failed were told on standard error, if that didn't fail.
pub record HasServedFiles {D : Type 0} (g : disk.Ghosts D) (start : Image) (closed : Option (Files D)) (s : Serving) (ended : Ending) (before after : Log) (errors errors' : Output) : Type 0 where
  pub register : Held (FileStore D g)
  pub opened : IsOpen start register
  pub left : Held (FileStore D g)
  pub closed_to : IsClosedTo g closed left
  pub clean : HasCleanDisk (file_state left) → HasCleanDisk (file_state register)
  pub outcomes : List ConnectionEnd
  pub served : AreConnectionsServed over_files register left s.moment s.count ended outcomes
  pub listened : HasListened s before after outcomes
  pub told : IsAppended errors'.failed errors.written errors'.written (flat_map line_of outcomes)

-- `listening` is written, and connections are served
abbrev pub HasBegun : Output → Output → Type 0
HasBegun old new = Appends old.written new.written (codes "listening\n") × (new.failed ≡ old.failed)

-- the outcomes of the connections that were served
abbrev pub ServesFrom : {D : Type 0} {g : disk.Ghosts D} → Held (FileStore D g) → Held (FileStore D g) → Serving → Ending → Log → Log → Output → Output → Type 0
ServesFrom register left s ended before after errors errors' =
    (HasCleanDisk (file_state left) → HasCleanDisk (file_state register))
    × ((outcomes : List ConnectionEnd) × AreConnectionsServed over_files register left s.moment s.count ended outcomes × HasListened s before after outcomes
    × IsAppended errors'.failed errors.written errors'.written (flat_map line_of outcomes))

-- `listening` is written and connections are served; or none is served
abbrev pub Listens : {D : Type 0} {g : disk.Ghosts D} → Held (FileStore D g) → Held (FileStore D g) → Serving → Log → Log → Output → Output → Output → Output → Result (Unit {0}) Failure → Type 0
Listens register left s before after old new errors errors' (Ok done) = ServesFrom register left s ending.Served before after errors errors' × HasBegun old new
Listens register left s before after old new errors errors' (Err failure.Shut) = ServesFrom register left s ending.Shut before after errors errors' × HasBegun old new
Listens register left s before after old new errors errors' (Err failure.Device) = (left ≡ register) × IsUnserved s before after old new
Listens register left s before after old new errors errors' (Err other) = ⊥

-- `listening` is written and connections are served; or the register isn't opened, or none is served
abbrev pub ServesAll : {D : Type 0} → disk.Ghosts D → Image → Option (Files D) → Serving → Log → Log → Output → Output → Output → Output → Result (Unit {0}) Failure → Type 0
ServesAll g start closed s before after old new errors errors' (Ok done) = HasServedFiles g start closed s ending.Served before after errors errors' × HasBegun old new
ServesAll g start closed s before after old new errors errors' (Err failure.Shut) = HasServedFiles g start closed s ending.Shut before after errors errors' × HasBegun old new
ServesAll g start closed s before after old new errors errors' (Err (failure.Register why)) = (after ≡ before) × (new ≡ old) × FilesStay g start closed
ServesAll g start closed s before after old new errors errors' (Err failure.Device) = IsUnserved s before after old new × FilesStay g start closed
ServesAll g start closed s before after old new errors errors' (Err other) = ⊥

-- How serving ends: at the places that the words spell, `listening` is written and connections are served; or none is
-- served.
abbrev pub EndsServe : {D : Type 0} → disk.Ghosts D → Image → Option (Files D) → List ℕ → List ℕ → Option (List ℕ) → Option (List ℕ) → Log → Log → Output → Output → Output → Output → Result (Unit {0}) Failure → Type 0
EndsServe g start closed place count now orders before after old new errors errors' (Err (failure.Field field)) = (after ≡ before) × (new ≡ old) × FilesStay g start closed × IsFirstFault field (serve_fields place count now)
EndsServe g start closed place count now orders before after old new errors errors' (Err (failure.Refused why)) = ⊥
EndsServe g start closed place count now orders before after old new errors errors' (Err (failure.Register why)) =
    (after ≡ before) × (new ≡ old) × FilesStay g start closed × OnceRead why ((s : Serving) × IsServing place count now orders s)
EndsServe g start closed place count now orders before after old new errors errors' ended = (s : Serving) × IsServing place count now orders s × ServesAll g start closed s before after old new errors errors' ended
