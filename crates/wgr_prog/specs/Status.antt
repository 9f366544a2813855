-- The effects of a run of `wgr`, and its exit status.
use Rattle.std.specs.Prelude.{ℕ, ◌≡◌, ◌≢◌, ◌⊎◌, true, false, Bool, List, Option, Result, Ok, Err, IfErr, IfNone, IfOk, IfSome}
use Rattle.std.specs.declared.io.ErrorKind as io
use Rattle.std.specs.declared.io.ErrorKind.TheVariants.{InvalidData}
use Rattle.clap.specs.Words.{IsAmong, Kinds, Text}
use Rattle.clap.specs.declared.error.kind.ErrorKind.{ErrorKind}
use Rattle.clap.specs.declared.error.kind.ErrorKind.TheVariants.{DisplayHelp, DisplayVersion, OutOfMemory}
use Rattle.sqlite.specs.Recovery.{Image}
use Rattle.sqlite_disk.specs.declared.Disk as disk
use Rattle.sqlite_disk.specs.declared.Files.{Files}
use Rattle.wgr_command_line.specs.Words.{Asked, Batch, Init, Migrate, Operate, Orders, Plan, Send, Serve, Show, asked_by, wrong_with}
use Rattle.wgr_register.specs.declared.fault.Done.{Done}
use Rattle.wgr_text.specs.Prefix.{PrefixValue}
use Rattle.wgr_text.specs.PrefixText.{Spells}
use Rattle.wgr_pool.specs.Pool.{IsPool}
use Rattle.wgr_plan.specs.declared.planner.PlanFault.{PlanFault}
use Rattle.wgr_plan.specs.declared.planner.PlanFault.TheVariants.{Refused, NoMemory, Read, Write}
use Rattle.wgr_prog.specs.declared.messages.TheConstants.{DONE, FAULT, REFUSED}
use Rattle.wgr_plan.specs.PlanFault.{HasPlanned, Streams}
use Rattle.wgr_service.specs.Network.{Log}
use Rattle.wgr_prog.specs.Answering.{EndsBatch, EndsServe, Output}
use Rattle.wgr_file.specs.OnFiles.{FilesStay, IsMadeInFiles, WasMigrated}
use Rattle.wgr_prog.specs.Failures.{failure_status}
use Rattle.wgr_prog.specs.Messages.{ReportsDone, ReportsText}
use Rattle.wgr_prog.specs.OnRegister.{CarriesOut}
use Rattle.wgr_prog.specs.Ordering.{EndsOrders, orders_status}
use Rattle.wgr_prog.specs.Sending.{Sends, ReportsSent}
use Rattle.wgr_prog.specs.Showing.{ShowsFiles}
use Rattle.wgr_words.specs.Asked.{OrderAsked}
use Rattle.wgr_words.specs.Order.{Input, wants_token}
use Rattle.std.specs.declared.vec.Vec.{Vec}
use Rattle.std.specs.declared.alloc.Global.{Global}
use Rattle.wgr_prog.specs.declared.send.SendFault.{SendFault}
use Rattle.wgr_prog.specs.declared.register_words.Failure.{Failure}

-- the streams of a reader and a writer
abbrev pub streams : {R W : Type 0} → (R → Option (List ℕ)) → (R → Bool) → (W → Option (List ℕ)) → (W → Bool) → R → W → Streams
streams remaining read_failed contents write_failed input out = record { input = remaining input; read_failed = read_failed input; written = contents out; write_failed = write_failed out }

-- the text spells a prefix that may be a pool
abbrev pub SpellsPool : Text → PrefixValue → Type 0
SpellsPool text pool = Spells text pool.address pool.length × IsPool pool

abbrev pub plan_fault_status : PlanFault → ℕ
plan_fault_status (Refused line why) = REFUSED
plan_fault_status NoMemory = FAULT
plan_fault_status Read = FAULT
plan_fault_status (Write sent) = FAULT

abbrev pub plan_status : Result (Unit {0}) PlanFault → ℕ
plan_status (Ok done) = DONE
plan_status (Err fault) = plan_fault_status fault

-- the text is no pool: it is refused, and nothing is read or printed
pub record RefusesPool (text : Text) (old new : Streams) (status : ℕ) : Type 0 where
  pub no_pool : (pool : PrefixValue) → ¬ (SpellsPool text pool)
  pub kept : new ≡ old
  pub refused : status ≡ REFUSED

-- the text is a pool: the status is that of its plan
pub record PrintsPlan (text : Text) (old new : Streams) (status : ℕ) : Type 0 where
  pub pool : PrefixValue
  pub answer : Result (Unit {0}) PlanFault
  pub spelled : SpellsPool text pool
  pub answers : HasPlanned pool old new answer
  pub reported : status ≡ plan_status answer

abbrev pub RunsPlan : Text → Streams → Streams → ℕ → Type 0
RunsPlan text old new status = RefusesPool text old new status ⊎ PrintsPlan text old new status

-- ---- a register

-- nothing is read
abbrev pub ReadsNothing : Streams → Streams → Type 0
ReadsNothing old new = (new.input ≡ old.input) × (new.read_failed ≡ old.read_failed)

-- the result is reported; if nothing is done, nothing is printed
abbrev pub ReportsEnd : Option (List ℕ) → Option (List ℕ) → Bool → Bool → Result Done Failure → ℕ → Type 0
ReportsEnd written written' failed failed' (Ok done) status = ReportsDone written written' failed failed' status
ReportsEnd written written' failed failed' (Err why) status = (status ≡ failure_status why) × (written' ≡ written) × (failed' ≡ failed)

abbrev pub ReportsStatus : Streams → Streams → Result Done Failure → ℕ → Type 0
ReportsStatus old new answer status = ReportsEnd old.written new.written old.write_failed new.write_failed answer status

-- a register is made, or a fault is reported; nothing is read
pub record RunsInit {D : Type 0} (g : disk.Ghosts D) (start : Image) (closed : Option (Files D)) (old new : Streams) (status : ℕ) : Type 0 where
  pub answer : Result Done Failure
  pub made : IfOk answer (λ done. IsMadeInFiles g start closed)
  pub kept : IfErr answer (λ why. FilesStay g start closed)
  pub fault : IfErr answer (λ why. failure_status why ≡ FAULT)
  pub reported : ReportsStatus old new answer status
  pub unread : ReadsNothing old new

-- the register in the files is taken to the third version, or a fault is reported; nothing is read
pub record RunsMigrate {D : Type 0} (g : disk.Ghosts D) (start : Image) (closed : Option (Files D)) (old new : Streams) (status : ℕ) : Type 0 where
  pub answer : Result Done Failure
  pub migrated : IfOk answer (λ done. WasMigrated g start closed)
  pub kept : IfErr answer (λ why. FilesStay g start closed)
  pub fault : IfErr answer (λ why. failure_status why ≡ FAULT)
  pub reported : ReportsStatus old new answer status
  pub unread : ReadsNothing old new

abbrev pub input_in : Streams → Input
input_in s = record { remaining = s.input; failed = s.read_failed }

-- the order that the words and the token spell is carried out; nothing is read where there is no token
pub record RunsOrder {D : Type 0} (g : disk.Ghosts D) (start : Image) (closed : Option (Files D)) (asked : OrderAsked) (old new : Streams) (status : ℕ) : Type 0 where
  pub answer : Result Done Failure
  pub carried : CarriesOut g start closed asked (input_in old) (input_in new) answer
  pub reported : ReportsStatus old new answer status
  pub unread : wants_token asked ≡ false → ReadsNothing old new

abbrev pub output_in : Streams → Output
output_in s = record { written = s.written; failed = s.write_failed }

-- all replies are those of the register, or one of them is Unavailable, which is a fault
abbrev pub batch_status : Result Bool Failure → ℕ
batch_status (Ok true) = DONE
batch_status (Ok false) = FAULT
batch_status (Err why) = failure_status why

-- the requests in the files are answered
pub record RunsBatch {D : Type 0} (g : disk.Ghosts D) (start : Image) (closed : Option (Files D)) (now : Text) (files : List Text) (old new : Streams) (status : ℕ) : Type 0 where
  pub answer : Result Bool Failure
  pub ends : EndsBatch g start closed now files (output_in old) (output_in new) answer
  pub reported : status ≡ batch_status answer
  pub unread : ReadsNothing old new

abbrev pub serve_status : Result (Unit {0}) Failure → ℕ
serve_status (Ok done) = DONE
serve_status (Err why) = failure_status why

-- connections are served, and those that fail are told on standard error; then a fault is, if there is one
pub record RunsServe {D : Type 0} (g : disk.Ghosts D) (start : Image) (closed : Option (Files D)) (place count : Text) (now orders : Option Text) (before after : Log) (old new : Streams) (errors errors' : Output) (status : ℕ) : Type 0 where
  pub answer : Result (Unit {0}) Failure
  pub told : Output
  pub ends : EndsServe g start closed place count now orders before after (output_in old) (output_in new) errors told answer
  pub quiet : IfOk answer (λ done. errors' ≡ told)
  pub reported : status ≡ serve_status answer
  pub unread : ReadsNothing old new

-- the orders in the lines of a text are carried out
pub record RunsOrders {D : Type 0} (g : disk.Ghosts D) (start : Image) (closed : Option (Files D)) (file : Option Text) (old new : Streams) (status : ℕ) : Type 0 where
  pub answer : Result ℕ Failure
  pub ends : EndsOrders g start closed file (input_in old) (input_in new) (output_in old) (output_in new) answer
  pub reported : status ≡ orders_status answer

-- the text is printed; if there is none, nothing is
abbrev pub ReportsShown : Option (List ℕ) → Option (List ℕ) → Bool → Bool → Result (Vec ℕ Global) Failure → ℕ → Type 0
ReportsShown written written' failed failed' (Ok text) status = ReportsText written written' failed failed' text.items status
ReportsShown written written' failed failed' (Err why) status = (status ≡ failure_status why) × (written' ≡ written) × (failed' ≡ failed)

-- what the register in the files has is shown, and they hold what they held
pub record RunsShow {D : Type 0} (g : disk.Ghosts D) (start : Image) (closed : Option (Files D)) (tenant : Option Text) (is_json : Bool) (old new : Streams) (status : ℕ) : Type 0 where
  pub answer : Result (Vec ℕ Global) Failure
  pub kept : FilesStay g start closed
  pub shows : ShowsFiles g start closed tenant is_json answer
  pub reported : ReportsShown old.written new.written old.write_failed new.write_failed answer status
  pub unread : ReadsNothing old new

-- ---- an order or a reading to a running service

-- what the service answers is printed
pub record RunsSend (path : Text) (words : List Text) (digest : Option Text) (is_json : Bool) (before after : Log) (old new : Streams) (status : ℕ) : Type 0 where
  pub answer : Result (Vec ℕ Global) SendFault
  pub sends : Sends path words digest is_json before after (input_in old) (input_in new) answer
  pub reported : ReportsSent old.written new.written old.write_failed new.write_failed answer status

-- ---- the command line

-- there is no memory; nothing is read or printed
abbrev pub LacksMemory : Streams → Streams → ℕ → Type 0
LacksMemory old new status = (new ≡ old) × (status ≡ FAULT)

abbrev pub Runs : {D : Type 0} → disk.Ghosts D → Image → Option (Files D) → Asked → Log → Log → Streams → Streams → Output → Output → ℕ → Type 0
Runs g start closed (Plan pool) before after old new errors errors' status = (after ≡ before) × FilesStay g start closed × RunsPlan pool old new status
Runs g start closed (Init db) before after old new errors errors' status = (after ≡ before) × RunsInit g start closed old new status
Runs g start closed (Migrate db) before after old new errors errors' status = (after ≡ before) × RunsMigrate g start closed old new status
Runs g start closed (Operate db order) before after old new errors errors' status = (after ≡ before) × RunsOrder g start closed order old new status
Runs g start closed (Batch db now files) before after old new errors errors' status = (after ≡ before) × RunsBatch g start closed now files old new status
Runs g start closed (Serve db place count now orders) before after old new errors errors' status = RunsServe g start closed place count now orders before after old new errors errors' status
Runs g start closed (Send path words digest is_json) before after old new errors errors' status = FilesStay g start closed × RunsSend path words digest is_json before after old new status
Runs g start closed (Orders db file) before after old new errors errors' status = (after ≡ before) × RunsOrders g start closed file old new status
Runs g start closed (Show db tenant is_json) before after old new errors errors' status = (after ≡ before) × RunsShow g start closed tenant is_json old new status

-- The words ask for something: it is run, or there is no memory and the files stay as they are.
abbrev pub ServesAsked : {D : Type 0} → disk.Ghosts D → Image → Option (Files D) → Asked → Log → Log → Streams → Streams → Output → Output → ℕ → Type 0
ServesAsked g start closed asked before after old new errors errors' status = ((after ≡ before) × FilesStay g start closed × LacksMemory old new status) ⊎ Runs g start closed asked before after old new errors errors' status

-- asking for help or the version is not a mistake
abbrev pub kind_status : ErrorKind → ℕ
kind_status DisplayHelp = DONE
kind_status DisplayVersion = DONE
kind_status OutOfMemory = FAULT
kind_status mistake = REFUSED

-- the text of help or of the version can't be written
abbrev pub FailsToWrite : Streams → Streams → ℕ → Type 0
FailsToWrite old new status = ReadsNothing old new × (new.write_failed ≡ true) × (status ≡ FAULT)

-- an error of one of the kinds is reported, without a failure of the writer; nothing is printed on a mistake
pub record ReportsKind (kinds : Kinds) (old new : Streams) (status : ℕ) : Type 0 where
  pub kind : ErrorKind
  pub among : IsAmong kind kinds
  pub reported : status ≡ kind_status kind
  pub unread : ReadsNothing old new
  pub sound : new.write_failed ≡ old.write_failed
  pub kept : kind_status kind ≢ DONE → new ≡ old

-- the words ask for nothing
abbrev pub ReportsError : Kinds → Streams → Streams → ℕ → Type 0
ReportsError kinds old new status = LacksMemory old new status ⊎ FailsToWrite old new status ⊎ ReportsKind kinds old new status

-- The words ask for something, or for nothing. Only `serve` and `send` use the network. Of standard error, only the
-- lines of `serve` are told.
pub record ServesWords {D : Type 0} (g : disk.Ghosts D) (start : Image) (closed : Option (Files D)) (words : List Text) (before after : Log) (old new : Streams) (errors errors' : Output) (status : ℕ) : Type 0 where
  pub served : IfSome (asked_by words) (λ asked. ServesAsked g start closed asked before after old new errors errors' status)
  pub reported : IfNone (asked_by words) ((after ≡ before) × FilesStay g start closed × ReportsError (wrong_with words) old new status)

-- the arguments are not available: they aren't UTF-8, or there is no memory; nothing is read or printed
pub record LacksWords (why : io.ErrorKind) (old new : Streams) (status : ℕ) : Type 0 where
  pub kept : new ≡ old
  pub not_utf8 : why ≡ InvalidData → status ≡ REFUSED
  pub fault : why ≢ InvalidData → status ≡ FAULT
