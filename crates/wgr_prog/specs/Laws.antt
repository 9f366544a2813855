-- Laws of replies.
use Rattle.std.specs.Prelude.{ℕ, ◌≡◌, ◌==◌, ◌<◌, ◌^◌, ◌++◌, List, Err, codes, decimal, if◌then◌else◌, length, string_bytes, true}
use Rattle.wgr_orders.specs.declared.refusal.OrderRefusal.TheVariants as refusal
use Rattle.wgr_peers.specs.Name.{is_name}
use Rattle.wgr_register.specs.declared.fault.OrderFault.TheVariants as order_fault
use Rattle.wgr_service.specs.Lines.{end_status, end_text}
use Rattle.wgr_service.specs.Readings.{reading_text}
use Rattle.wgr_service.specs.declared.lines.LineEnd.{LineEnd}
use Rattle.wgr_service.specs.declared.lines.LineEnd.TheVariants as line_end
use Rattle.wgr_service.specs.declared.readings.ReadingEnd.{ReadingEnd}
use Rattle.wgr_service.specs.declared.readings.ReadingEnd.TheVariants as reading_end
use Rattle.wgr_prog.specs.Reply.{Reply, Done, Shown, Undone, reply_in}
use Rattle.wgr_prog.specs.declared.messages.TheConstants.{FAULT, REFUSED}

-- ---- a text

-- a line with the length of a text, and the text
abbrev pub with_length : List ℕ → List ℕ
with_length text = codes "0 " ++ decimal (length text) ++ codes "\n" ++ text

-- a text with its length is read as this text, whatever its bytes
abbrev pub TextsAreRead : Type 0
TextsAreRead = (text : List ℕ) → length text < 2 ^ 64 → reply_in (with_length text) ≡ Shown text

-- a text is shown only if it has come with its length, and all of it
abbrev pub ShownTextsAreWhole : Type 0
ShownTextsAreWhole = (all text : List ℕ) → reply_in all ≡ Shown text → all ≡ with_length text

-- ---- the replies to orders

-- what the exit status of an order means
abbrev pub told_by : ℕ → Reply
told_by status = if status == 0 then Done else Undone status

-- the tenant and the network whose pool overlaps have names, so no newline is in them
abbrev pub HasNames : LineEnd → Type 0
HasNames (line_end.Ended (Err (order_fault.Refused (refusal.PoolOverlaps tenant network)))) = (is_name (string_bytes tenant) ≡ true) × (is_name (string_bytes network) ≡ true)
HasNames ended = Unit {0}

-- a reply to an order is read as its exit status
abbrev pub OrdersAreRead : Type 0
OrdersAreRead = (ended : LineEnd) → HasNames ended → reply_in (end_text ended) ≡ told_by (end_status ended)

-- ---- the replies to readings

-- the length of a text that is shown has 64 bits
abbrev pub HasLength : ReadingEnd → Type 0
HasLength (reading_end.Shown text) = length text.items < 2 ^ 64
HasLength ended = Unit {0}

-- what the same reading prints as a command, or its exit status
abbrev pub told_of : ReadingEnd → Reply
told_of (reading_end.Shown text) = Shown text.items
told_of reading_end.Copied = Done
told_of reading_end.BadTenant = Undone REFUSED
told_of reading_end.NoSuchTenant = Undone REFUSED
told_of reading_end.BadFile = Undone REFUSED
told_of reading_end.FileExists = Undone REFUSED
told_of reading_end.Device = Undone FAULT
told_of (reading_end.Fault why) = Undone FAULT

-- so is a reply to a reading read
abbrev pub ReadingsAreRead : Type 0
ReadingsAreRead = (ended : ReadingEnd) → HasLength ended → reply_in (reading_text ended) ≡ told_of ended
