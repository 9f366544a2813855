-- An order or a reading that is sent to a running service.
use Rattle.std.specs.Prelude.{ℕ, ◌≡◌, ◌⊎◌, ◌++◌, ◌||◌, Bool, true, false, List, [], ◌∷◌, Option, Some, None, IfSome, IsUtf8, MatchBool, Result, Ok, Err}
use Rattle.std.specs.declared.vec.Vec.{Vec}
use Rattle.std.specs.declared.alloc.Global.{Global}
use Rattle.std.specs.Io.KnownBytes.{Appends}
use Rattle.wgr_io.specs.Device.{IsCut}
use Rattle.wgr_service.specs.Network.{Contact, Log, Logs, called, ended}
use Rattle.wgr_words.specs.Line.{is_line, line_text}
use Rattle.wgr_words.specs.Order.{Input, TakesInput}
use Rattle.wgr_words.specs.Sent.{asks_token, line_words, may_be_sent, option_words}
use Rattle.wgr_words.specs.Words.{without_newline}
use Rattle.wgr_prog.specs.Messages.{ReportsDone, ReportsText}
use Rattle.wgr_prog.specs.Reply.{Reply, Done, Shown, Undone, reply_in}
use Rattle.wgr_prog.specs.declared.messages.TheConstants.{FAULT, REFUSED}
use Rattle.wgr_prog.specs.declared.send.SendFault.{SendFault}
use Rattle.wgr_prog.specs.declared.send.SendFault.TheVariants as fault

-- ---- the token

-- the text makes no word of a line
abbrev pub IsNoWord : List ℕ → Type 0
IsNoWord text = (¬ (IsUtf8 text)) ⊎ (is_line (text ∷ []) ≡ false)

-- ---- the connection

-- What was to be read from it and what had been written to it as it was made, what had been written as it was ended, and
-- whether a read and a write had failed by then. Bytes are given where known.
pub record Call : Type 0 where
  pub input : Option (List ℕ)
  pub before : Option (List ℕ)
  pub after : Option (List ℕ)
  pub read_failed : Bool
  pub write_failed : Bool

abbrev pub met_in : List ℕ → Call → List Contact
met_in path c = called path c.input c.before ∷ ended c.after c.read_failed c.write_failed ∷ []

-- whether a read or a write had failed
abbrev pub has_failed : Call → Bool
has_failed call = call.read_failed || call.write_failed

-- the line was written to the service at the path, and its reply is all that came back
pub record IsSentBack (path : List ℕ) (line : List (List ℕ)) (before after : Log) (reply : List ℕ) : Type 0 where
  pub call : Call
  pub logged : Logs before after (met_in path call)
  pub whole : is_line line ≡ true
  pub written : Appends call.before call.after (line_text line)
  pub read : IfSome call.input (λ all. reply ≡ all)
  pub sound : has_failed call ≡ false

-- No connection was made; or one was, nothing but a first part of the line was written, which may be none or all, and
-- whether an order was done isn't known. `failed` says whether a read or a write of it had failed.
abbrev pub IsUnanswered : List ℕ → List (List ℕ) → Log → Log → Bool → Type 0
IsUnanswered path line before after failed =
    (after ≡ before) ⊎ ((call : Call) × Logs before after (met_in path call) × IsCut call.before call.after (line_text line) × (has_failed call ≡ failed))

-- how an exchange may break off, and whether a read or a write has failed by then
abbrev pub MayBreak : SendFault → Bool → Type 0
MayBreak fault.NoMemory failed = failed ≡ false
MayBreak fault.Device failed = failed ≡ true
MayBreak other failed = ⊥

-- the words are no line; or they are one, and the connection failed; or memory was refused
abbrev pub SendsLine : List ℕ → List (List ℕ) → Log → Log → Result (Vec ℕ Global) SendFault → Type 0
SendsLine path line before after (Ok reply) = IsSentBack path line before after reply.items
SendsLine path line before after (Err fault.BadOrder) = (after ≡ before) × (is_line line ≡ false)
SendsLine path line before after (Err fault.BadToken) = ⊥
SendsLine path line before after (Err fault.Device) = (is_line line ≡ true) × IsUnanswered path line before after true
SendsLine path line before after (Err fault.NoMemory) = IsUnanswered path line before after false

-- all of the input is the token, a word, which comes after the words
abbrev pub SendsTaken : List ℕ → List (List ℕ) → Bool → Log → Log → Input → Input → Result (Vec ℕ Global) SendFault → Type 0
SendsTaken path words is_json before after old new answer =
    (text : List ℕ) × TakesInput old new text × (is_line (without_newline text ∷ []) ≡ true) × SendsLine path (words ++ without_newline text ∷ option_words is_json) before after answer

-- so it is; or it is no word; or it wasn't read, since the input failed or memory was refused
abbrev pub SendsToken : List ℕ → List (List ℕ) → Bool → Log → Log → Input → Input → Result (Vec ℕ Global) SendFault → Type 0
SendsToken path words is_json before after old new (Err fault.BadToken) = (after ≡ before) × ((text : List ℕ) × TakesInput old new text × IsNoWord (without_newline text))
SendsToken path words is_json before after old new (Err fault.Device) = ((after ≡ before) × (new.failed ≡ true)) ⊎ SendsTaken path words is_json before after old new (Err fault.Device)
SendsToken path words is_json before after old new (Err fault.NoMemory) = ((after ≡ before) × (new.failed ≡ old.failed)) ⊎ SendsTaken path words is_json before after old new (Err fault.NoMemory)
SendsToken path words is_json before after old new answer = SendsTaken path words is_json before after old new answer

-- the words are sent with the token that they ask for, or as they are
abbrev pub SendsWhole : List ℕ → List (List ℕ) → Option (List ℕ) → Bool → Log → Log → Input → Input → Result (Vec ℕ Global) SendFault → Type 0
SendsWhole path words digest is_json before after old new answer =
    MatchBool (asks_token words digest) (SendsToken path words is_json before after old new answer) ((new ≡ old) × SendsLine path (line_words words digest is_json) before after answer)

-- so they are if they ask for an order or a reading; else no connection is made, and nothing is read
abbrev pub Sends : List ℕ → List (List ℕ) → Option (List ℕ) → Bool → Log → Log → Input → Input → Result (Vec ℕ Global) SendFault → Type 0
Sends path words digest is_json before after old new answer =
    MatchBool (may_be_sent words digest is_json) (SendsWhole path words digest is_json before after old new answer) ((answer ≡ Err fault.BadOrder) × (after ≡ before) × (new ≡ old))

-- ---- what is printed

abbrev pub send_status : SendFault → ℕ
send_status fault.BadOrder = REFUSED
send_status fault.BadToken = REFUSED
send_status fault.NoMemory = FAULT
send_status fault.Device = FAULT

-- `done` or the text is printed, if that is the reply; else nothing is
abbrev pub ReportsReply : Option (List ℕ) → Option (List ℕ) → Bool → Bool → Reply → ℕ → Type 0
ReportsReply written written' failed failed' Done status = ReportsDone written written' failed failed' status
ReportsReply written written' failed failed' (Shown text) status = ReportsText written written' failed failed' text status
ReportsReply written written' failed failed' (Undone code) status = (status ≡ code) × (written' ≡ written) × (failed' ≡ failed)

abbrev pub ReportsSent : Option (List ℕ) → Option (List ℕ) → Bool → Bool → Result (Vec ℕ Global) SendFault → ℕ → Type 0
ReportsSent written written' failed failed' (Ok reply) status = ReportsReply written written' failed failed' (reply_in reply.items) status
ReportsSent written written' failed failed' (Err why) status = (status ≡ send_status why) × (written' ≡ written) × (failed' ≡ failed)
