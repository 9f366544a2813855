-- From how an ask ends to what is answered.
use Rattle.std.proofs.Common.{◌≡◌, ℕ, List, Option, Some, None, Result, Ok, Err, option_map, refl, sym, subst, inr}
use Rattle.std.specs.Prelude.{IfOk}
use Rattle.std.specs.declared.vec.Vec.{Vec}
use Rattle.std.specs.declared.alloc.Global.{Global}
use Rattle.std.specs.declared.alloc.AllocError.{AllocError}
use Rattle.sqlite.specs.Effect.{Database}
use Rattle.sqlite.specs.Store.{Ghosts}
use Rattle.sqlite.specs.Held.{Held}
use Rattle.wgr_core.specs.declared.reply.Reply.TheVariants as reply
use Rattle.wgr_http.specs.declared.status_code.StatusCode.TheVariants as status
use Rattle.wgr_model.specs.Register.{Bytes}
use Rattle.wgr_model.specs.Rows.{register_of}
use Rattle.wgr_model.specs.Steps.{Answer, Decided, Declined, Done, Event, Listed, NoSuchNetwork, Plain, ReadOnly, Refused, Replied, UnknownToken}
use Rattle.wgr_model.proofs.CallLemmas.{quiet}
use Rattle.wgr_office.specs.Pages.{IsAnsweredAs, IsEnd, IsPageMade, IsReadAs, Responds, answer_bytes, event_of, fault_page, given_shown, page, page_if}
use Rattle.wgr_office.specs.declared.answer.Answer as given
use Rattle.wgr_office.specs.declared.answer.Answer.TheVariants as givens
use Rattle.wgr_register.specs.Ends.{AskEnds}
use Rattle.wgr_register.specs.Given.{GivenValue, OfFile, OfNetworks, OfReply, ShowsAnswer, given_of}
use Rattle.wgr_register.specs.Standing.{StandsAt}
use Rattle.wgr_register.specs.declared.fault.AskFault.{AskFault}
use Rattle.wgr_register.specs.declared.fault.AskFault.TheVariants as ask_fault
use Rattle.wgr_register.proofs.AskLemmas.{still}
use Rattle.wgr_register.proofs.StandLemmas.{at_more}
use Rattle.wgr_reply.specs.StatusLine.{IsOfStatus, IsReply}
use Rattle.wgr_reply.specs.declared.response.HttpReply.{HttpReply}
use Rattle.wgr_reply.proofs.StatusLemmas.{of_shown}
use Rattle.wgr_request.specs.Request.{RequestView, refused}
use Rattle.wgr_request.specs.declared.fault.RequestFault.{RequestFault}
use Rattle.wgr_columns.specs.Decode.{tables_of}

page_of : (o : Option GivenValue) (text : Bytes) → option_map page o ≡ Some text → text ≡ page_if o
page_of None text is = cc
page_of (Some given) text is = let same : page given ≡ text = cc in sym same

shown_as : (now : ℕ) (answer : Answer) (text : Bytes) → ShowsAnswer page now text answer → text ≡ answer_bytes now answer
shown_as now (Plain bytes) text is = cc
shown_as now (Replied reply network) text is = page_of (given_of now (Replied reply network)) text is
shown_as now (Declined why) text is = cc
shown_as now (Listed networks) text is = page_of (given_of now (Listed networks)) text is
shown_as now UnknownToken text is = cc
shown_as now ReadOnly text is = cc
shown_as now NoSuchNetwork text is = cc
shown_as now Done text is = cc
shown_as now (Refused why) text is = cc

-- what an answer gives is accepted
accepted : (given : GivenValue) → (given_shown given).status ≡ status.Done
accepted (OfReply (reply.Peer peer)) = refl
accepted (OfReply (reply.Revoked number)) = refl
accepted (OfReply (reply.List peers)) = refl
accepted (OfReply (reply.Owner number)) = refl
accepted (OfReply (reply.Adopted added known)) = refl
accepted (OfReply (reply.Server form)) = refl
accepted (OfReply (reply.File number form)) = refl
accepted (OfFile file) = refl
accepted (OfNetworks listed) = refl

page_status : (o : Option GivenValue) (text : Bytes) → option_map page o ≡ Some text → IsOfStatus status.Done text
page_status None text is = cc
page_status (Some given) text is =
    let same : page given ≡ text = cc in
    subst (IsOfStatus status.Done) same (subst (λ code. IsOfStatus code (page given)) (accepted given) (of_shown (given_shown given)))

-- a text that shows an answer is a reply to it
replies : (now : ℕ) (answer : Answer) (bytes : Vec ℕ Global) → ShowsAnswer page now bytes.items answer → IsReply (record { status = status.Done; bytes = bytes }) (answer_bytes now answer)
replies now answer bytes is = record { bytes = shown_as now answer bytes.items is; status = page_status (given_of now answer) bytes.items is }

module _ {S : Type 0} (g : Ghosts S) (conn : Held S) (db : Database) (late : List Event) (now : ℕ) where
  pub responds : (r : RequestView) (end : Result (Vec ℕ Global) AskFault) (answer : given.Answer) → IsEnd end answer → AskEnds g page conn db late (event_of now r) now end → Responds g conn db late now r answer
  responds r (Ok bytes) answer is ends = subst (Responds g conn db late now r) (sym is) (λ clean. let e = ends clean in (e.0, replies now e.0 bytes e.1, e.2, e.3, e.4))
  responds r (Err (ask_fault.Refused why)) (givens.Reply reply) is ends = λ clean. (Declined why, is, db, ends.1 clean, (refl, ends.0))
  responds r (Err (ask_fault.Refused why)) givens.Unavailable is ends = at_more g conn db late (event_of now r) ends.0
  responds r (Err (ask_fault.Refused why)) (givens.Order done) is ends = absurd is
  responds r (Err ask_fault.UnknownToken) (givens.Reply reply) is ends = λ clean. (UnknownToken, is, db, ends.1 clean, (refl, ends.0))
  responds r (Err ask_fault.UnknownToken) givens.Unavailable is ends = at_more g conn db late (event_of now r) ends.0
  responds r (Err ask_fault.UnknownToken) (givens.Order done) is ends = absurd is
  responds r (Err ask_fault.ReadOnly) (givens.Reply reply) is ends = λ clean. (ReadOnly, is, db, ends.1 clean, (refl, ends.0))
  responds r (Err ask_fault.ReadOnly) givens.Unavailable is ends = at_more g conn db late (event_of now r) ends.0
  responds r (Err ask_fault.ReadOnly) (givens.Order done) is ends = absurd is
  responds r (Err ask_fault.NoSuchNetwork) (givens.Reply reply) is ends = λ clean. (NoSuchNetwork, is, db, ends.1 clean, (refl, ends.0))
  responds r (Err ask_fault.NoSuchNetwork) givens.Unavailable is ends = at_more g conn db late (event_of now r) ends.0
  responds r (Err ask_fault.NoSuchNetwork) (givens.Order done) is ends = absurd is
  responds r (Err (ask_fault.Fault why)) answer is ends = subst (Responds g conn db late now r) (sym is) ends

  -- a request that its bytes decide
  pub decides : (why : RequestFault) (digest : Option Bytes) (reply : Result HttpReply AllocError) (answer : given.Answer) → IsPageMade reply answer → IfOk reply (λ made. IsReply made (fault_page why)) → StandsAt g conn db late
      → Responds g conn db late now (refused why digest) answer
  decides why digest (Ok reply) answer is made at =
      let event = Decided digest (fault_page why) in
      subst (Responds g conn db late now (refused why digest)) (sym is)
      (λ clean. (Plain (fault_page why), made, db, still (tables_of db) event (Plain (fault_page why)) at.consistent (quiet (register_of (tables_of db)) event (Plain (fault_page why)) refl refl), (refl, at)))
  decides why digest (Err e) answer is made at = subst (Responds g conn db late now (refused why digest)) (sym is) (at_more g conn db late (Decided digest (fault_page why)) at)

  pub answered : (message : Bytes) (r : RequestView) (answer : given.Answer) → IsReadAs now message r → Responds g conn db late now r answer → IsAnsweredAs g conn db late now message answer
  answered message r (givens.Reply reply) asks ends = (r, asks, ends)
  answered message r givens.Unavailable asks at = inr (r, asks, at)
  answered message r (givens.Order done) asks ends = absurd ends
