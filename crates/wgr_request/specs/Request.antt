-- What a message asks of the register, by its bytes alone. The first check that fails decides why
-- it is refused: those of the message, its path, its method, its token, and then its address or body.
use Rattle.std.specs.Prelude.{◌≡◌, ℕ, List, codes, bytes_eq, Option, Some, None, option_and_then, option_map, Result, Ok, Err}
use Rattle.wgr_core.specs.declared.command.Command.{Command}
use Rattle.wgr_core.specs.declared.command.Command.TheVariants as command
use Rattle.wgr_http.specs.Message.{Answers, MessageView}
use Rattle.wgr_http.specs.declared.message.Message.{Message}
use Rattle.wgr_http.specs.declared.message.MessageFault.{MessageFault}
use Rattle.wgr_request.specs.Bodies.{ReadCommand, IsMove, IsRenew, IsRouteBody, IsUnroute}
use Rattle.wgr_request.specs.Commands.{IsAdoption, IsCommand, IsOwner, IsPeers}
use Rattle.wgr_request.specs.Digest.{digest_of}
use Rattle.wgr_request.specs.Target.{TargetValue, resolved}
use Rattle.wgr_request.specs.Target as target
use Rattle.wgr_request.specs.declared.bodies.BodyFault.{BodyFault}
use Rattle.wgr_request.specs.declared.bodies.BodyFault.TheVariants as body_fault
use Rattle.wgr_request.specs.declared.fault.RequestFault.{RequestFault}
use Rattle.wgr_request.specs.declared.fault.RequestFault.TheVariants as fault
use Rattle.wgr_request.specs.declared.request.Request.{Request}
use Rattle.wgr_request.specs.declared.request.Request.TheVariants as request

-- A request that its bytes refuse, with the digest of its token where it is a message and has one; the
-- networks of the tenant whose token has the digest; a command on that tenant's network of the name.
pub data RequestView : Type 0 where
  refused : (why : RequestFault) (digest : Option (List ℕ)) → RequestView
  networks : (digest : List ℕ) → RequestView
  ask : (digest name : List ℕ) (command : Command) → RequestView

abbrev pub request_view : Request → RequestView
request_view (request.Refused why digest) = refused why digest
request_view (request.Networks digest) = networks digest
request_view (request.Ask digest name command) = ask digest name.now command

abbrev pub message_view : Message → MessageView
message_view m = record { method = m.method.now; target = m.target.now; token = option_map (λ t. t.now) m.token; body = m.body.now }

-- a command, or why there is none, as a request
abbrev pub on_network : List ℕ → List ℕ → ReadCommand → RequestView
on_network digest name (Ok asked) = ask digest name asked
on_network digest name (Err why) = refused why (Some digest)

-- this is the outcome, and the request is that of it
abbrev pub On : List ℕ → List ℕ → (ReadCommand → Type 0) → RequestView → Type 0
On digest name Is r = (outcome : ReadCommand) × Is outcome × (r ≡ on_network digest name outcome)

-- what each path asks; bodies are those of POST
abbrev pub Asks : List ℕ → TargetValue → MessageView → RequestView → Type 0
Asks digest target.networks m r = r ≡ networks digest
Asks digest (target.peers name) m r = On digest name (IsPeers (bytes_eq m.method (codes "POST")) m.body) r
Asks digest (target.peer name number) m r = On digest name (IsCommand (command.Revoke number)) r
Asks digest (target.address name number) m r = On digest name (IsMove number m.body) r
Asks digest (target.routes name number) m r = On digest name (IsRouteBody number m.body) r
Asks digest (target.lease name number) m r = On digest name (IsRenew number m.body) r
Asks digest (target.peer_file name number form) m r = On digest name (IsCommand (command.PeerFile number form)) r
Asks digest (target.unroute name) m r = On digest name (IsUnroute m.body) r
Asks digest (target.dump name) m r = On digest name (IsAdoption m.body) r
Asks digest (target.owner name address) m r = On digest name (IsOwner address) r
Asks digest (target.server_file name form) m r = On digest name (IsCommand (command.ServerFile form)) r

-- the path and its method are checked before the token, and the token before what is asked
abbrev pub Follows : Result TargetValue RequestFault → Option (List ℕ) → MessageView → RequestView → Type 0
Follows (Err why) digest m r = r ≡ refused why digest
Follows (Ok t) None m r = r ≡ refused fault.UnknownToken None
Follows (Ok t) (Some digest) m r = Asks digest t m r

abbrev pub digest_given : MessageView → Option (List ℕ)
digest_given m = option_and_then digest_of m.token

abbrev pub MessageAsks : MessageView → RequestView → Type 0
MessageAsks m r = Follows (resolved m.method m.target) (digest_given m) m r

-- a fault of the message comes before all others, and has no digest
abbrev pub Judged : Result MessageView MessageFault → RequestView → Type 0
Judged (Err why) r = r ≡ refused (fault.Message why) None
Judged (Ok m) r = MessageAsks m r

-- the request that bytes are, of which there is one at most
abbrev pub Requests : List ℕ → RequestView → Type 0
Requests bytes r = (m : Result MessageView MessageFault) × Answers bytes m × Judged m r

-- ---- what is read while memory lasts

-- what was read is the request
abbrev pub IsOn : List ℕ → List ℕ → Result Command BodyFault → RequestView → Type 0
IsOn digest name (Ok asked) r = r ≡ ask digest name asked
IsOn digest name (Err (body_fault.Refused why)) r = r ≡ refused why (Some digest)
IsOn digest name (Err body_fault.NoMemory) r = ⊥
