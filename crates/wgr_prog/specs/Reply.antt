-- What a running service answers to an order or a reading.
use Rattle.std.specs.Prelude.{ℕ, ◌==◌, ◌++◌, List, [], ◌∷◌, codes, decimal, if◌then◌else◌, length, take}
use Rattle.std.specs.Option.{option_map_or}
use Rattle.std.specs.Str.{bytes_eq}
use Rattle.wgr_words.specs.Line.{before_newline}
use Rattle.wgr_prog.specs.declared.messages.TheConstants.{FAULT, REFUSED}
use Rattle.wgr_prog.specs.declared.reply.Reply as read
use Rattle.wgr_prog.specs.declared.reply.Reply.TheVariants as code

-- it is done, or a text is shown, or neither, with the exit status
pub data Reply : Type 0 where
  Done : Reply
  Shown : (text : List ℕ) → Reply
  Undone : (status : ℕ) → Reply

-- the same, in the program's type
abbrev pub meant_reply : read.Reply → Reply
meant_reply code.Done = Done
meant_reply (code.Shown text) = Shown text.now
meant_reply (code.Refused text) = Undone REFUSED
meant_reply (code.Failed text) = Undone FAULT
meant_reply code.Broken = Undone FAULT

-- what stands behind the first newline
abbrev pub behind_newline : List ℕ → List ℕ
behind_newline [] = []
behind_newline (byte ∷ text) = if byte == 10 then text else behind_newline text

-- a reply of one line
abbrev pub alone : List ℕ → Reply
alone line =
    if bytes_eq line (codes "0 done") then Done
    else (if bytes_eq (take 2 line) (codes "2 ") then Undone REFUSED
    else Undone FAULT)

-- the first line and what follows it, which is all of a text if the line has its length, as decimal digits
abbrev pub reply_of : List ℕ → List ℕ → Reply
reply_of line rest =
    if bytes_eq line (codes "0 " ++ decimal (length rest)) then Shown rest
    else (if length rest == 0 then alone line
    else Undone FAULT)

-- all bytes of a reply: one that is cut short, or goes on, is a fault
abbrev pub reply_in : List ℕ → Reply
reply_in all = option_map_or (λ line. reply_of line (behind_newline all)) (before_newline all) (Undone FAULT)
