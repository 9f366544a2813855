-- The commands that the paths make.
use Rattle.std.proofs.Common.{◌≡◌, ℕ, List, [], ◌∷◌, ◌⊎◌, inl, inr, Bool, true, false, Option, Some, None, Result, Ok, Err, codes, refl, sym, ap, subst}
use Rattle.std.specs.Prelude.{bytes_eq}
use Rattle.std.proofs.lemmas.Slice.Eq.{bytes_eq-Decides}
use Rattle.serde_json.specs.Data.{Data}
use Rattle.serde_json.specs.Find.{get}
use Rattle.wgr_dump.specs.Dump.{DumpValue, IsDump}
use Rattle.wgr_text.specs.Prefix.{AddrValue, PrefixValue}
use Rattle.wgr_text.specs.PrefixText.{SpellsAddr}
use Rattle.wgr_core.specs.declared.command.Command.{Command}
use Rattle.wgr_core.specs.declared.command.Command.TheVariants as command
use Rattle.wgr_http.specs.Message.{MessageView}
use Rattle.wgr_request.specs.Adopting.{adoption_asked}
use Rattle.wgr_request.specs.Bodies.{ReadCommand, IsBody, OrBody, or_bad, AddFields, MoveFields, RouteFields, UnrouteFields, RenewFields, IsAdd, IsMove, IsRouteBody, IsUnroute, IsRenew}
use Rattle.wgr_request.specs.Commands.{IsAdoption, IsCommand, IsOwner, IsPeers}
use Rattle.wgr_request.specs.Fields.{end_value, field_value, keepalive_value}
use Rattle.wgr_request.specs.Laws.{IsAddition, MakesCommand, PathsMakeCommands, named_network}
use Rattle.wgr_request.specs.Paths.{has_method, methods}
use Rattle.wgr_request.specs.Request.{On, Asks, Follows, ask, digest_given}
use Rattle.wgr_request.specs.Target.{TargetValue, resolved}
use Rattle.wgr_request.specs.Target as target
use Rattle.wgr_request.specs.declared.fault.RequestFault.{RequestFault}
use Rattle.wgr_request.specs.declared.fault.RequestField.{RequestField}
use Rattle.wgr_request.specs.declared.fault.RequestField.TheVariants.{End, Keepalive}
use Rattle.wgr_request.specs.declared.paths.Methods.TheVariants.{GetOrPost}
use Rattle.wgr_request.proofs.Places.{by_its_method, is_delete, is_get, is_get_or_post, is_post, place_of}

-- ---- what an outcome without a fault says

abbrev done : Command → ReadCommand
done c = Ok c

made : (asked c : Command) → done c ≡ done asked → c ≡ asked
made asked c e = cc e

fields_made : (Fields : Data → ReadCommand → Type 0) (d : Option Data) (c : Command) → OrBody Fields d (Ok c) → (x : Data) × Fields x (Ok c)
fields_made Fields None c e = cc e
fields_made Fields (Some d) c is = (d, is)

body_made : (listed : List (List ℕ)) (Fields : Data → ReadCommand → Type 0) (body : List ℕ) (c : Command) → IsBody listed Fields body (Ok c) → (d : Data) × Fields d (Ok c)
body_made listed Fields body c is = fields_made Fields is.0 c is.2

good : (field : RequestField) (o : Option ℕ) (next : ℕ → ReadCommand) (c : Command) → done c ≡ or_bad field o next → (n : ℕ) × (done c ≡ next n)
good field None next c e = cc e
good field (Some n) next c e = (n, e)

added_fields : (d : Data) (c : Command) → AddFields d (Ok c) → IsAddition c
added_fields d c (inl a) = let e = a.1 in cc e
added_fields d c (inr (key, k, inl a)) = let e = a.1 in cc e
added_fields d c (inr (key, k, inr (label, l, inl a))) = let e = a.1 in cc e
added_fields d c (inr (key, k, inr (label, l, inr (address, a, e)))) =
    let keepalive : Option ℕ = field_value keepalive_value (Some 0) (get (codes "keepalive") d) in
    let until = good End (field_value end_value (Some 0) (get (codes "end") d)) (λ until. or_bad Keepalive keepalive (λ seconds. Ok (command.Add key label address until seconds))) c e in
    let seconds = good Keepalive keepalive (λ seconds. Ok (command.Add key label address until.0 seconds)) c until.1 in
    (key, label, address, until.0, seconds.0, made (command.Add key label address until.0 seconds.0) c seconds.1)

added : (body : List ℕ) (c : Command) → IsAdd body (Ok c) → IsAddition c
added body c is = let fields = body_made (codes "key" ∷ codes "label" ∷ codes "address" ∷ codes "end" ∷ codes "keepalive" ∷ []) AddFields body c is in added_fields fields.0 c fields.1

moved_fields : (number : ℕ) (d : Data) (c : Command) → MoveFields number d (Ok c) → (address : Option AddrValue) × (c ≡ command.Move number address)
moved_fields number d c (inl a) = let e = a.1 in cc e
moved_fields number d c (inr (address, a, e)) = (address, made (command.Move number address) c e)

moved : (number : ℕ) (body : List ℕ) (c : Command) → IsMove number body (Ok c) → (address : Option AddrValue) × (c ≡ command.Move number address)
moved number body c is = let fields = body_made (codes "address" ∷ []) (MoveFields number) body c is in moved_fields number fields.0 c fields.1

led_fields : (number : ℕ) (d : Data) (c : Command) → RouteFields number d (Ok c) → (prefix : PrefixValue) × (c ≡ command.Route number prefix)
led_fields number d c (inl a) = let e = a.1 in cc e
led_fields number d c (inr (prefix, p, e)) = (prefix, made (command.Route number prefix) c e)

led : (number : ℕ) (body : List ℕ) (c : Command) → IsRouteBody number body (Ok c) → (prefix : PrefixValue) × (c ≡ command.Route number prefix)
led number body c is = let fields = body_made (codes "prefix" ∷ []) (RouteFields number) body c is in led_fields number fields.0 c fields.1

taken_fields : (d : Data) (c : Command) → UnrouteFields d (Ok c) → (prefix : PrefixValue) × (c ≡ command.Unroute prefix)
taken_fields d c (inl a) = let e = a.1 in cc e
taken_fields d c (inr (prefix, p, e)) = (prefix, made (command.Unroute prefix) c e)

taken : (body : List ℕ) (c : Command) → IsUnroute body (Ok c) → (prefix : PrefixValue) × (c ≡ command.Unroute prefix)
taken body c is = let fields = body_made (codes "prefix" ∷ []) UnrouteFields body c is in taken_fields fields.0 c fields.1

renewed : (number : ℕ) (body : List ℕ) (c : Command) → IsRenew number body (Ok c) → (until : ℕ) × (c ≡ command.Renew number until)
renewed number body c is =
    let fields = body_made (codes "end" ∷ []) (RenewFields number) body c is in
    let until = good End (field_value end_value None (get (codes "end") fields.0)) (λ until. Ok (command.Renew number until)) c fields.1 in
    (until.0, made (command.Renew number until.0) c until.1)

adopted : (body : List ℕ) (c : Command) → IsAdoption body (Ok c) → (dump : DumpValue) × IsDump body dump.interface dump.lines × (c ≡ adoption_asked dump)
adopted body c (inl a) = (a.0, a.1, made (adoption_asked a.0) c a.2)
adopted body c (inr a) = let e = a.3 in cc e

owned : (text : List ℕ) (c : Command) → IsOwner text (Ok c) → (address : AddrValue) × SpellsAddr text address × (c ≡ command.Owner address)
owned text c (inl a) = let e = a.1 in cc e
owned text c (inr (address, a, e)) = (address, a, made (command.Owner address) c e)

listed_or_added : (is_post : Bool) (body : List ℕ) (c : Command) → IsPeers is_post body (Ok c) → ((is_post ≡ false) × (c ≡ command.List)) ⊎ ((is_post ≡ true) × IsAddition c)
listed_or_added true body c is = inr (refl, added body c is)
listed_or_added false body c is = inl (refl, made command.List c is)

-- ---- requests

said : (digest name d n : List ℕ) (Is : ReadCommand → Type 0) (c : Command) → On d n Is (ask digest name c) → (d ≡ digest) × (Some n ≡ Some name) × Is (Ok c)
said digest name d n Is c (Ok asked, is, e) =
    let same : c ≡ asked = cc e in
    let same_digest : d ≡ digest = cc e in
    let same_name : n ≡ name = cc e in
    (same_digest, ap (λ x. Some x) same_name, subst (λ x. Is (Ok x)) (sym same) is)
said digest name d n Is c (Err why, is, e) = cc e

peers_made : (name : List ℕ) (m : MessageView) (c : Command) → has_method GetOrPost m.method ≡ true → IsPeers (bytes_eq m.method (codes "POST")) m.body (Ok c)
    → MakesCommand (target.peers name) m c
peers_made name m c by is = elim (listed_or_added (bytes_eq m.method (codes "POST")) m.body c is) [
  | inl list ↦ elim (is_get_or_post m.method by) [
    | inl get ↦ inl (get, list.1)
    | inr post ↦ let test : bytes_eq m.method (codes "POST") ≡ true = (bytes_eq-Decides m.method (codes "POST")).1 post in cc (test, list.0)
  ]
  | inr add ↦ inr ((bytes_eq-Decides m.method (codes "POST")).0 add.0, add.1)
]

asked_made : (t : TargetValue) (m : MessageView) (digest name d : List ℕ) (c : Command) → has_method (methods (place_of t)) m.method ≡ true → Asks d t m (ask digest name c)
    → (d ≡ digest) × (named_network t ≡ Some name) × MakesCommand t m c
asked_made target.networks m digest name d c by e = cc e
asked_made (target.peers n) m digest name d c by on =
    let s = said digest name d n (IsPeers (bytes_eq m.method (codes "POST")) m.body) c on in (s.0, s.1, peers_made n m c by s.2)
asked_made (target.peer n number) m digest name d c by on =
    let s = said digest name d n (IsCommand (command.Revoke number)) c on in (s.0, s.1, (is_delete m.method by, made (command.Revoke number) c s.2))
asked_made (target.address n number) m digest name d c by on =
    let s = said digest name d n (IsMove number m.body) c on in let is = moved number m.body c s.2 in (s.0, s.1, (is_post m.method by, is.0, is.1))
asked_made (target.routes n number) m digest name d c by on =
    let s = said digest name d n (IsRouteBody number m.body) c on in let is = led number m.body c s.2 in (s.0, s.1, (is_post m.method by, is.0, is.1))
asked_made (target.lease n number) m digest name d c by on =
    let s = said digest name d n (IsRenew number m.body) c on in let is = renewed number m.body c s.2 in (s.0, s.1, (is_post m.method by, is.0, is.1))
asked_made (target.peer_file n number form) m digest name d c by on =
    let s = said digest name d n (IsCommand (command.PeerFile number form)) c on in (s.0, s.1, (is_get m.method by, made (command.PeerFile number form) c s.2))
asked_made (target.unroute n) m digest name d c by on =
    let s = said digest name d n (IsUnroute m.body) c on in let is = taken m.body c s.2 in (s.0, s.1, (is_post m.method by, is.0, is.1))
asked_made (target.dump n) m digest name d c by on =
    let s = said digest name d n (IsAdoption m.body) c on in let is = adopted m.body c s.2 in (s.0, s.1, (is_post m.method by, is.0, is.1, is.2))
asked_made (target.owner n text) m digest name d c by on =
    let s = said digest name d n (IsOwner text) c on in let is = owned text c s.2 in (s.0, s.1, (is_get m.method by, is.0, is.1, is.2))
asked_made (target.server_file n form) m digest name d c by on =
    let s = said digest name d n (IsCommand (command.ServerFile form)) c on in (s.0, s.1, (is_get m.method by, made (command.ServerFile form) c s.2))

follows_made : (given : Option (List ℕ)) (t : TargetValue) (m : MessageView) (digest name : List ℕ) (c : Command) → has_method (methods (place_of t)) m.method ≡ true
    → Follows (Ok t) given m (ask digest name c) → (given ≡ Some digest) × (named_network t ≡ Some name) × MakesCommand t m c
follows_made None t m digest name c by e = cc e
follows_made (Some d) t m digest name c by asks =
    let is = asked_made t m digest name d c by asks in (ap (λ x. Some x) is.0, is.1, is.2)

followed : (x : Result TargetValue RequestFault) (m : MessageView) (digest name : List ℕ) (c : Command) → resolved m.method m.target ≡ x → Follows x (digest_given m) m (ask digest name c)
    → (t : TargetValue) × (resolved m.method m.target ≡ Ok t) × (digest_given m ≡ Some digest) × (named_network t ≡ Some name) × MakesCommand t m c
followed (Err why) m digest name c at e = cc e
followed (Ok t) m digest name c at asks =
    let is = follows_made (digest_given m) t m digest name c (by_its_method m.method m.target t at) asks in (t, at, is.0, is.1, is.2)

pub paths_make : PathsMakeCommands
paths_make m digest name c asks = followed (resolved m.method m.target) m digest name c refl asks
