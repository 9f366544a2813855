-- The reply to an accepted request, and the result of a request.
use Rattle.std.specs.Prelude.{◌≡◌, ◌⊎◌, ℕ, List, [], ◌∷◌, codes, Option, Some, None, Result, Ok, Err}
use Rattle.std.specs.declared.vec.Vec.{Vec}
use Rattle.std.specs.declared.alloc.Global.{Global}
use Rattle.std.specs.declared.alloc.AllocError.{AllocError}
use Rattle.sqlite.specs.Effect.{Database}
use Rattle.sqlite.specs.Store.{Ghosts}
use Rattle.sqlite.specs.Held.{Held}
use Rattle.wgr_core.specs.declared.refusal.CommandRefusal.{CommandRefusal}
use Rattle.wgr_core.specs.declared.reply.Reply.TheVariants as reply
use Rattle.wgr_reply.specs.Bodies.{adopted_data, networks_data, owner_data, peers_data, revoked_data}
use Rattle.wgr_reply.specs.Shown.{peer_data}
use Rattle.wgr_model.specs.Register.{Bytes}
use Rattle.wgr_model.specs.Steps.{Answer, Ask, Decided, Declined, Event, NoSuchNetwork, Networks, Plain, ReadOnly, UnknownToken, IsProper}
use Rattle.wgr_core.specs.RefusalNames.{refusal_name}
use Rattle.wgr_reply.specs.Refused.{refusal_facts, refusal_status}
use Rattle.wgr_reply.specs.Response.{Shown, done, fault_shown, json, plain, problem, shown_bytes, text}
use Rattle.wgr_reply.specs.StatusLine.{IsReply}
use Rattle.wgr_reply.specs.declared.response.HttpReply.{HttpReply}
use Rattle.wgr_http.specs.declared.status_code.StatusCode.TheVariants as status
use Rattle.wgr_office.specs.declared.answer.Answer as given
use Rattle.wgr_office.specs.declared.answer.Answer.TheVariants as givens
use Rattle.wgr_register.specs.Ends.{EndsWith}
use Rattle.wgr_register.specs.Given.{GivenValue, OfFile, OfNetworks, OfReply, given_of}
use Rattle.wgr_register.specs.Standing.{StandsAt}
use Rattle.wgr_register.specs.declared.fault.AskFault.{AskFault}
use Rattle.wgr_register.specs.declared.fault.AskFault.TheVariants as ask_fault
use Rattle.wgr_request.specs.Request.{RequestView, Requests, ask, networks, refused}
use Rattle.wgr_request.specs.declared.fault.RequestFault.{RequestFault}
use Rattle.wgr_request.specs.declared.fault.RequestFault.TheVariants as fault

-- the answer, as a reply; if a reply allows a file, the file is returned
abbrev pub given_shown : GivenValue → Shown
given_shown (OfReply (reply.Peer peer)) = done (json (peer_data peer))
given_shown (OfReply (reply.Revoked number)) = done (json (revoked_data number))
given_shown (OfReply (reply.List peers)) = done (json (peers_data peers))
given_shown (OfReply (reply.Owner number)) = done (json (owner_data number))
given_shown (OfReply (reply.Adopted added known)) = done (json (adopted_data added known))
given_shown (OfReply (reply.Server form)) = done (text [])
given_shown (OfReply (reply.File number form)) = done (text [])
given_shown (OfFile file) = done (text file)
given_shown (OfNetworks listed) = done (json (networks_data listed))

abbrev pub page : GivenValue → Bytes
page given = shown_bytes (given_shown given)

abbrev pub fault_page : RequestFault → Bytes
fault_page why = shown_bytes (fault_shown why)

-- ---- the event of a request, and the bytes of its answer

-- a request whose bytes alone decide the reply has that reply
abbrev pub event_of : ℕ → RequestView → Event
event_of now (refused why digest) = Decided digest (fault_page why)
event_of now (networks digest) = Networks digest
event_of now (ask digest name command) = Ask digest name now command

abbrev pub page_if : Option GivenValue → Bytes
page_if None = []
page_if (Some given) = page given

abbrev pub refusal_page : CommandRefusal → Bytes
refusal_page why = shown_bytes (problem (refusal_status why) [] (refusal_name why.why) (refusal_facts why))

abbrev pub read_only_page : Bytes
read_only_page = shown_bytes (plain status.Forbidden (codes "read_only"))

abbrev pub nowhere_page : Bytes
nowhere_page = shown_bytes (plain status.NotFound (codes "no_such_network"))

-- an order's answer has no bytes
abbrev pub answer_bytes : ℕ → Answer → Bytes
answer_bytes now (Plain bytes) = bytes
answer_bytes now (Declined why) = refusal_page why
answer_bytes now UnknownToken = fault_page fault.UnknownToken
answer_bytes now ReadOnly = read_only_page
answer_bytes now NoSuchNetwork = nowhere_page
answer_bytes now answer = page_if (given_of now answer)

-- the message is this request, and its fields have the forms that their types require
pub record IsReadAs (now : ℕ) (message : Bytes) (r : RequestView) : Type 0 where
  pub asks : Requests message r
  pub proper : IsProper (event_of now r)

-- The bytes are those of the answer of a step for the request in the message; or the request is
-- answered Unavailable, the rows are unchanged, and a stop may leave it done.
abbrev pub IsAnsweredAs : {S : Type 0} → Ghosts S → Held S → Database → List Event → ℕ → Bytes → given.Answer → Type 0
IsAnsweredAs g conn db late now message (givens.Reply given) = (r : RequestView) × IsReadAs now message r × EndsWith g conn db late (event_of now r) (λ answer. IsReply given (answer_bytes now answer))
IsAnsweredAs g conn db late now message (givens.Order done) = ⊥
IsAnsweredAs g conn db late now message givens.Unavailable = StandsAt g conn db late ⊎ ((r : RequestView) × IsReadAs now message r × StandsAt g conn db (event_of now r ∷ late))

-- the same for a parsed request
abbrev pub Responds : {S : Type 0} → Ghosts S → Held S → Database → List Event → ℕ → RequestView → given.Answer → Type 0
Responds g conn db late now r (givens.Reply given) = EndsWith g conn db late (event_of now r) (λ answer. IsReply given (answer_bytes now answer))
Responds g conn db late now r givens.Unavailable = StandsAt g conn db (event_of now r ∷ late)
Responds g conn db late now r (givens.Order done) = ⊥

-- ---- from results to answers

abbrev pub IsPageMade : Result HttpReply AllocError → given.Answer → Type 0
IsPageMade (Ok made) answer = answer ≡ givens.Reply made
IsPageMade (Err e) answer = answer ≡ givens.Unavailable

-- a reply with these bytes, or Unavailable
abbrev pub IsPage : Bytes → given.Answer → Type 0
IsPage page (givens.Reply given) = IsReply given page
IsPage page givens.Unavailable = Unit {0}
IsPage page (givens.Order done) = ⊥

-- what is accepted is 200
abbrev pub IsEnd : Result (Vec ℕ Global) AskFault → given.Answer → Type 0
IsEnd (Ok bytes) answer = answer ≡ givens.Reply (record { status = status.Done; bytes = bytes })
IsEnd (Err (ask_fault.Refused why)) answer = IsPage (refusal_page why) answer
IsEnd (Err ask_fault.UnknownToken) answer = IsPage (fault_page fault.UnknownToken) answer
IsEnd (Err ask_fault.ReadOnly) answer = IsPage read_only_page answer
IsEnd (Err ask_fault.NoSuchNetwork) answer = IsPage nowhere_page answer
IsEnd (Err (ask_fault.Fault why)) answer = answer ≡ givens.Unavailable
