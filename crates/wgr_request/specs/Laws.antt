-- What follows from the definition of a request.
use Rattle.std.specs.Prelude.{◌≡◌, ◌↔◌, ◌⊎◌, ℕ, List, codes, Option, Some, None, Ok}
use Rattle.wgr_core.specs.declared.command.Command.{Command}
use Rattle.wgr_core.specs.declared.command.Command.TheVariants as command
use Rattle.wgr_dump.specs.Dump.{DumpValue, IsDump}
use Rattle.wgr_dump.specs.Laws.{DifferInSecrets}
use Rattle.wgr_http.specs.Message.{MessageView}
use Rattle.wgr_http.specs.Reading.{AnswersAs}
use Rattle.wgr_text.specs.declared.key.Key.{Key}
use Rattle.wgr_text.specs.Prefix.{AddrValue, PrefixValue}
use Rattle.wgr_text.specs.PrefixText.{SpellsAddr}
use Rattle.wgr_request.specs.Adopting.{adoption_asked}
use Rattle.wgr_request.specs.Bodies.{IsAdd, IsMove, IsRenew, IsRouteBody, IsUnroute}
use Rattle.wgr_request.specs.Commands.{IsAdoption, IsOwner}
use Rattle.wgr_request.specs.Request.{MessageAsks, RequestView, Requests, ask, digest_given, networks, refused}
use Rattle.wgr_request.specs.Target.{TargetValue, resolved}
use Rattle.wgr_request.specs.Target as target

-- it holds for at most one thing
abbrev pub IsOne : {A : Type 0} → (A → Type 0) → Type 0
IsOne {A} Is = (r s : A) → Is r → Is s → r ≡ s

-- bytes have one request at most
abbrev pub OneRequest : Type 0
OneRequest = (bytes : List ℕ) → IsOne (Requests bytes)

-- and each body, dump or address has one outcome at most
abbrev pub OneOutcome : Type 0
OneOutcome = (text : List ℕ) (number : ℕ) → IsOne (IsAdd text) × IsOne (IsMove number text) × IsOne (IsRouteBody number text) × IsOne (IsUnroute text)
    × IsOne (IsRenew number text) × IsOne (IsAdoption text) × IsOne (IsOwner text)

-- a beginning asks what all bytes of a reader ask, where they are known
abbrev pub RequestsAs : List ℕ → Option (List ℕ) → Type 0
RequestsAs front None = Unit {0}
RequestsAs front (Some all) = (r : RequestView) → Requests front r → Requests all r

-- a beginning that has the answer of all bytes asks what they ask
abbrev pub BeginningsAsk : Type 0
BeginningsAsk = (front : List ℕ) (all : Option (List ℕ)) → AnswersAs front all → RequestsAs front all

-- two dumps that differ only in private and preshared keys ask the same
abbrev pub SecretsAreUnasked : Type 0
SecretsAreUnasked = (m : MessageView) (other name : List ℕ) (r : RequestView) → resolved m.method m.target ≡ Ok (target.dump name)
    → DifferInSecrets m.body other → MessageAsks m r ↔ MessageAsks (record m { body = other }) r

-- the network that a target names
abbrev pub named_network : TargetValue → Option (List ℕ)
named_network target.networks = None
named_network (target.peers name) = Some name
named_network (target.peer name number) = Some name
named_network (target.address name number) = Some name
named_network (target.routes name number) = Some name
named_network (target.lease name number) = Some name
named_network (target.peer_file name number form) = Some name
named_network (target.unroute name) = Some name
named_network (target.dump name) = Some name
named_network (target.owner name text) = Some name
named_network (target.server_file name form) = Some name

abbrev pub IsAddition : Command → Type 0
IsAddition c =
    (key : Key) × (label : List ℕ) × (address : Option AddrValue) × (until : ℕ) × (keepalive : ℕ) × (c ≡ command.Add key label address until keepalive)

-- the method of a target's path, and the command that it makes
abbrev pub MakesCommand : TargetValue → MessageView → Command → Type 0
MakesCommand target.networks m c = ⊥
MakesCommand (target.peers name) m c = ((m.method ≡ codes "GET") × (c ≡ command.List)) ⊎ ((m.method ≡ codes "POST") × IsAddition c)
MakesCommand (target.peer name number) m c = (m.method ≡ codes "DELETE") × (c ≡ command.Revoke number)
MakesCommand (target.address name number) m c = (m.method ≡ codes "POST") × (address : Option AddrValue) × (c ≡ command.Move number address)
MakesCommand (target.routes name number) m c = (m.method ≡ codes "POST") × (prefix : PrefixValue) × (c ≡ command.Route number prefix)
MakesCommand (target.lease name number) m c = (m.method ≡ codes "POST") × (until : ℕ) × (c ≡ command.Renew number until)
MakesCommand (target.peer_file name number form) m c = (m.method ≡ codes "GET") × (c ≡ command.PeerFile number form)
MakesCommand (target.unroute name) m c = (m.method ≡ codes "POST") × (prefix : PrefixValue) × (c ≡ command.Unroute prefix)
MakesCommand (target.dump name) m c = (m.method ≡ codes "POST") × (dump : DumpValue) × IsDump m.body dump.interface dump.lines × (c ≡ adoption_asked dump)
MakesCommand (target.owner name text) m c = (m.method ≡ codes "GET") × (address : AddrValue) × SpellsAddr text address × (c ≡ command.Owner address)
MakesCommand (target.server_file name form) m c = (m.method ≡ codes "GET") × (c ≡ command.ServerFile form)

-- what is asked of a network is a command of the target's path, with the token's digest and the path's name
abbrev pub PathsMakeCommands : Type 0
PathsMakeCommands = (m : MessageView) (digest name : List ℕ) (c : Command) → MessageAsks m (ask digest name c)
    → (t : TargetValue) × (resolved m.method m.target ≡ Ok t) × (digest_given m ≡ Some digest) × (named_network t ≡ Some name) × MakesCommand t m c

-- and the list of networks has its own path
abbrev pub OnePathListsNetworks : Type 0
OnePathListsNetworks = (m : MessageView) (digest : List ℕ) → MessageAsks m (networks digest)
    → (resolved m.method m.target ≡ Ok target.networks) × (digest_given m ≡ Some digest) × (m.method ≡ codes "GET")

abbrev pub digest_of_request : RequestView → Option (List ℕ)
digest_of_request (refused why digest) = digest
digest_of_request (networks digest) = Some digest
digest_of_request (ask digest name c) = Some digest

-- whatever is asked, and whatever refuses it, the digest is that of the message's token
abbrev pub TokensAreKept : Type 0
TokensAreKept = (m : MessageView) (r : RequestView) → MessageAsks m r → digest_of_request r ≡ digest_given m
