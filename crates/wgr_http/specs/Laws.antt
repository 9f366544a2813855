-- What follows from the definition of a message.
use Rattle.std.specs.Prelude.{◌≡◌, ℕ, ◌<◌, ◌≤◌, ◌++◌, List, length, Result, Ok}
use Rattle.httparse.specs.Grammar.{RequestHead}
use Rattle.wgr_http.specs.Extent.{extent}
use Rattle.wgr_http.specs.Head.{HasHead, HasNoHead, IsRefused, MayBecomeHead}
use Rattle.wgr_http.specs.Message.{Answers, MessageView}
use Rattle.wgr_http.specs.Reading.{IsDecided}
use Rattle.wgr_http.specs.declared.message.MessageFault.{MessageFault}

-- bytes have one answer at most
abbrev pub OneAnswer : Type 0
OneAnswer = (bytes : List ℕ) (r s : Result MessageView MessageFault) → Answers bytes r → Answers bytes s → r ≡ s

-- bytes that are a message stay this message, whatever comes after them
abbrev pub MessagesEnd : Type 0
MessagesEnd = (bytes more : List ℕ) (m : MessageView) → Answers bytes (Ok m) → Answers (bytes ++ more) (Ok m)

-- a head and the bytes that it wants decide the answer
abbrev pub HeadsDecide : Type 0
HeadsDecide = (bytes : List ℕ) (h : RequestHead) (rest : List ℕ) → HasHead bytes h rest → extent h ≤ length bytes → IsDecided bytes

-- and so do bytes that no others can make a head
abbrev pub RefusedHeadsDecide : Type 0
RefusedHeadsDecide = (bytes : List ℕ) → IsRefused bytes → IsDecided bytes

-- and 8,193 bytes without a head
abbrev pub LongHeadsDecide : Type 0
LongHeadsDecide = (bytes : List ℕ) → HasNoHead bytes → 8193 ≤ length bytes → IsDecided bytes

-- one of the bytes that a head wants is missing: the answer is open
abbrev pub ShortBodiesAreOpen : Type 0
ShortBodiesAreOpen = (bytes : List ℕ) (h : RequestHead) (rest : List ℕ) → HasHead bytes h rest → length bytes < extent h → ¬ (IsDecided bytes)

-- and so it is after 8,192 bytes at most without a head that may still become one
abbrev pub UnfinishedHeadsAreOpen : Type 0
UnfinishedHeadsAreOpen = (bytes : List ℕ) → HasNoHead bytes → MayBecomeHead bytes → length bytes ≤ 8192 → ¬ (IsDecided bytes)
