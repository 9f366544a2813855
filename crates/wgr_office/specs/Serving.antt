-- How a connection is served.
use Rattle.std.specs.Prelude.{◌≡◌, ◌<◌, ℕ, Bool, true, false, List, [], length, take, Option, IfSome, ◌++◌, Some, None}
use Rattle.std.specs.declared.vec.Vec.{Vec}
use Rattle.std.specs.declared.alloc.Global.{Global}
use Rattle.std.specs.Io.KnownBytes.{Appends, Consumes}
use Rattle.sqlite.specs.Effect.{Database}
use Rattle.sqlite.specs.Store.{Ghosts}
use Rattle.sqlite.specs.Held.{Held}
use Rattle.wgr_http.specs.Reading.{IsNoMore, IsReadInTime}
use Rattle.wgr_http.specs.declared.status_code.StatusCode.{StatusCode}
use Rattle.wgr_model.specs.Register.{Bytes}
use Rattle.wgr_model.specs.Steps.{Event}
use Rattle.wgr_office.specs.Pages.{IsAnsweredAs}
use Rattle.wgr_reply.specs.Response.{shown_bytes, unavailable_shown}
use Rattle.wgr_office.specs.declared.answer.Answer as given
use Rattle.wgr_office.specs.declared.answer.Answer.TheVariants as givens
use Rattle.wgr_office.specs.declared.serve.ServeFault.{ServeFault}
use Rattle.wgr_office.specs.declared.serve.ServeFault.TheVariants as fault
use Rattle.wgr_register.specs.Standing.{StandsAt}
use Rattle.wgr_request.specs.Laws.{RequestsAs}

-- the bytes written for an answer; none for an order
abbrev pub written_reply : given.Answer → Bytes
written_reply (givens.Reply reply) = reply.bytes.items
written_reply givens.Unavailable = shown_bytes unavailable_shown
written_reply (givens.Order done) = []

-- the status of these; none for an order
abbrev pub status_of : given.Answer → Option StatusCode
status_of (givens.Reply reply) = Some reply.status
status_of givens.Unavailable = Some unavailable_shown.status
status_of (givens.Order done) = None

abbrev pub is_available : given.Answer → Bool
is_available givens.Unavailable = false
is_available given = true

-- a message was answered at this moment, whatever the rows of the register were
abbrev pub IsAnsweredAt : {S : Type 0} → Ghosts S → Held S → Held S → ℕ → Bytes → given.Answer → Type 0
IsAnsweredAt g old new now message answer = (db : Database) (late : List Event) → StandsAt g old db late → IsAnsweredAs g new db late now message answer

-- the message is what all bytes of the reader begin with, where they are known
abbrev pub IsFront : Bytes → Option Bytes → Type 0
IsFront message None = Unit {0}
IsFront message (Some all) = (rest : Bytes) × (all ≡ message ++ rest)

-- A message is what all bytes of the reader begin with, where they are known; and it asks what they ask, unless it is
-- answered Unavailable: memory may have been refused before all of it was read.
abbrev pub AsksAll : Bytes → Option Bytes → given.Answer → Type 0
AsksAll message input (givens.Reply reply) = IsFront message input × RequestsAs message input
AsksAll message input (givens.Order done) = IsFront message input × RequestsAs message input
AsksAll message input givens.Unavailable = IsFront message input

-- A message held in memory was answered; and the answer is also one to all bytes of the reader, where they are
-- known.
pub record TakesMessage {S : Type 0} (g : Ghosts S) (old new : Held S) (now : ℕ) (input : Option Bytes) (answer : given.Answer) : Type 0 where
  pub message : Vec ℕ Global
  pub held : IsAnsweredAt g old new now message.items answer
  pub all : IfSome input (λ bytes. IsAnsweredAt g old new now bytes answer)
  pub asks : AsksAll message.items input answer

-- The message was read from a reader, and is no longer than decides its answer. No read was made after that,
-- so a client that keeps its side open is answered. `was` and `now` are what the reader's calls returned.
pub record IsTaken (before after : Option Bytes) (was now : Option (List Bytes)) (message : Bytes) : Type 0 where
  pub taken : Consumes before after message
  pub no_more : IsNoMore message
  pub in_time : IsReadInTime was now message

-- the message was answered, and the reply written
abbrev pub IsReplied : {S : Type 0} → Ghosts S → Held S → Held S → ℕ → Bytes → Option Bytes → Option Bytes → Type 0
IsReplied g old new now message before after = (answer : given.Answer) × IsAnsweredAt g old new now message answer × Appends before after (written_reply answer)

-- the states of a reader and a writer
pub record Ends : Type 0 where
  pub input : Option Bytes
  pub read_failed : Bool
  pub written : Option Bytes
  pub write_failed : Bool

-- A read failed, and nothing was done or written; or a write failed after the first bytes of the reply
-- to what was answered.
abbrev pub IsServeFault : {S : Type 0} → Ghosts S → Held S → Held S → ℕ → Ends → Ends → ServeFault → Type 0
IsServeFault g old new now before after fault.Read = (after.read_failed ≡ true) × (new ≡ old) × (after.written ≡ before.written) × (after.write_failed ≡ before.write_failed)
IsServeFault g old new now before after (fault.Write sent) =
    (after.write_failed ≡ true) × (after.read_failed ≡ before.read_failed) × ((answer : given.Answer) × TakesMessage g old new now before.input answer × (sent < length (written_reply answer)) × Appends before.written after.written (take sent (written_reply answer)))
