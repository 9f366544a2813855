-- From a message to all bytes of a reader.
use Rattle.std.proofs.Common.{ℕ, List, Option, Some, None, inl, inr}
use Rattle.std.specs.declared.vec.Vec.{Vec}
use Rattle.std.specs.declared.alloc.Global.{Global}
use Rattle.std.specs.Io.KnownBytes.{Consumes}
use Rattle.sqlite.specs.Effect.{Database}
use Rattle.sqlite.specs.Store.{Ghosts}
use Rattle.sqlite.specs.Held.{Held}
use Rattle.wgr_model.specs.Register.{Bytes}
use Rattle.wgr_model.specs.Steps.{Event}
use Rattle.wgr_office.specs.Pages.{IsAnsweredAs}
use Rattle.wgr_office.specs.Serving.{AsksAll, IsAnsweredAt, IsFront, TakesMessage}
use Rattle.wgr_office.specs.declared.answer.Answer as given
use Rattle.wgr_office.specs.declared.answer.Answer.TheVariants as givens
use Rattle.wgr_request.specs.Laws.{RequestsAs}

-- what was read of a reader is what its bytes began with
pub front_of : (old new : Option Bytes) (message : Bytes) → Consumes old new message → IsFront message old
front_of None new message consumed = tt
front_of (Some all) None message consumed = absurd consumed
front_of (Some all) (Some rest) message consumed = (rest, consumed)

asks_all : (message : Bytes) (input : Option Bytes) (answer : given.Answer) → IsFront message input → RequestsAs message input → AsksAll message input answer
asks_all message input (givens.Reply reply) front alike = (front, alike)
asks_all message input (givens.Order done) front alike = (front, alike)
asks_all message input givens.Unavailable front alike = front

module _ {S : Type 0} (g : Ghosts S) (now : ℕ) where
  all_answered : (conn : Held S) (db : Database) (late : List Event) (message all : Bytes) (answer : given.Answer) → RequestsAs message (Some all) → IsAnsweredAs g conn db late now message answer → IsAnsweredAs g conn db late now all answer
  all_answered conn db late message all (givens.Reply reply) alike (r, read, ends) = (r, record { asks = alike r read.asks; proper = read.proper }, ends)
  all_answered conn db late message all givens.Unavailable alike (inl at) = inl at
  all_answered conn db late message all givens.Unavailable alike (inr (r, read, at)) = inr (r, record { asks = alike r read.asks; proper = read.proper }, at)
  all_answered conn db late message all (givens.Order done) alike bad = absurd bad

  pub taken : (old new : Held S) (message : Vec ℕ Global) (input : Option Bytes) (answer : given.Answer) → IsFront message.items input → RequestsAs message.items input → IsAnsweredAt g old new now message.items answer → TakesMessage g old new now input answer
  taken old new message None answer front alike is = record { message = message; held = is; all = tt; asks = asks_all message.items None answer front alike }
  taken old new message (Some all) answer front alike is = record { message = message; held = is; all = λ db late at. all_answered new db late message.items all answer alike (is db late at); asks = asks_all message.items (Some all) answer front alike }

  -- for want of memory nothing is asked, and the register is at the same rows
  pub untaken : (conn : Held S) (message : Vec ℕ Global) (input : Option Bytes) → IsFront message.items input → TakesMessage g conn conn now input givens.Unavailable
  untaken conn message None front = record { message = message; held = λ db late at. inl at; all = tt; asks = front }
  untaken conn message (Some all) front = record { message = message; held = λ db late at. inl at; all = λ db late at. inl at; asks = front }
