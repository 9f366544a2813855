-- JSON bodies as commands: an object with no other members than its path lists, and the first field
-- that isn't of its form.
use Rattle.std.specs.Prelude.{◌≡◌, ℕ, ◌⊎◌, Bool, false, cond, bytes_eq, List, [], ◌∷◌, codes, Option, Some, None, option_and_then, Result, Ok, Err, IsUtf8}
use Rattle.std.specs.List.{list_all, list_any}
use Rattle.serde_json.specs.Data.{Data, Members, no_members, member}
use Rattle.serde_json.specs.Find.{as_object, get}
use Rattle.serde_json.specs.Read.{read}
use Rattle.wgr_core.specs.declared.command.Command.{Command}
use Rattle.wgr_core.specs.declared.command.Command.TheVariants.{Add, Move, Route, Unroute, Renew}
use Rattle.wgr_request.specs.Fields.{KeyField, LabelField, NamedField, PrefixField, end_value, field_value, keepalive_value}
use Rattle.wgr_request.specs.declared.bodies.BodyFault.{BodyFault}
use Rattle.wgr_request.specs.declared.bodies.BodyFault.TheVariants as body_fault
use Rattle.wgr_request.specs.declared.fault.RequestFault.{RequestFault}
use Rattle.wgr_request.specs.declared.fault.RequestFault.TheVariants.{BadField}
use Rattle.wgr_request.specs.declared.fault.RequestField.{RequestField}
use Rattle.wgr_request.specs.declared.fault.RequestField.TheVariants.{Body, Key, Label, Address, End, Keepalive, Prefix}

-- a command, or why there is none
abbrev pub ReadCommand : Type 0
ReadCommand = Result Command RequestFault

-- this is the outcome, unless memory ran out
abbrev pub ReadsAs : (ReadCommand → Type 0) → Result Command BodyFault → Type 0
ReadsAs Is (Ok command) = Is (Ok command)
ReadsAs Is (Err (body_fault.Refused why)) = Is (Err why)
ReadsAs Is (Err body_fault.NoMemory) = Unit {0}

-- the JSON of bytes, where they are JSON
abbrev pub IsJson : List ℕ → Option Data → Type 0
IsJson bytes (Some d) = IsUtf8 bytes × (read bytes ≡ Some d)
IsJson bytes None = IsUtf8 bytes → read bytes ≡ None

abbrev pub names : Members → List (List ℕ)
names no_members = []
names (member name d ms) = name ∷ names ms

abbrev pub only : List (List ℕ) → Option Members → Bool
only listed None = false
only listed (Some ms) = list_all (λ name. list_any (λ other. bytes_eq name other) listed) (names ms)

-- an object that has no members but the listed ones
abbrev pub has_only : List (List ℕ) → Data → Bool
has_only listed d = only listed (as_object d)

abbrev pub IsObject : List (List ℕ) → List ℕ → Option Data → Type 0
IsObject listed body r = (d : Option Data) × IsJson body d × (r ≡ option_and_then (λ x. cond (has_only listed x) (Some x) None) d)

-- the fields of such an object, or the body is refused
abbrev pub OrBody : (Data → ReadCommand → Type 0) → Option Data → ReadCommand → Type 0
OrBody Fields None r = r ≡ Err (BadField Body)
OrBody Fields (Some d) r = Fields d r

abbrev pub IsBody : List (List ℕ) → (Data → ReadCommand → Type 0) → List ℕ → ReadCommand → Type 0
IsBody listed Fields body r = (d : Option Data) × IsObject listed body d × OrBody Fields d r

-- a field that isn't of its form is refused; else what follows for its value
abbrev pub With : {A : Type 0} → (Option A → Type 0) → RequestField → (A → ReadCommand → Type 0) → ReadCommand → Type 0
With {A} IsValue field Next r = (IsValue None × (r ≡ Err (BadField field))) ⊎ ((a : A) × IsValue (Some a) × Next a r)

abbrev pub or_bad : RequestField → Option ℕ → (ℕ → ReadCommand) → ReadCommand
or_bad field None next = Err (BadField field)
or_bad field (Some n) next = next n

abbrev pub AddFields : Data → ReadCommand → Type 0
AddFields d r =
    With (KeyField d) Key (λ key r. With (LabelField d) Label (λ label r. With (NamedField d) Address (λ address r.
    r ≡ or_bad End (field_value end_value (Some 0) (get (codes "end") d)) (λ until.
    or_bad Keepalive (field_value keepalive_value (Some 0) (get (codes "keepalive") d)) (λ keepalive.
    Ok (Add key label address until keepalive)))) r) r) r

abbrev pub MoveFields : ℕ → Data → ReadCommand → Type 0
MoveFields number d r = With (NamedField d) Address (λ address r. r ≡ Ok (Move number address)) r

abbrev pub RouteFields : ℕ → Data → ReadCommand → Type 0
RouteFields number d r = With (PrefixField d) Prefix (λ prefix r. r ≡ Ok (Route number prefix)) r

abbrev pub UnrouteFields : Data → ReadCommand → Type 0
UnrouteFields d r = With (PrefixField d) Prefix (λ prefix r. r ≡ Ok (Unroute prefix)) r

abbrev pub RenewFields : ℕ → Data → ReadCommand → Type 0
RenewFields number d r = r ≡ or_bad End (field_value end_value None (get (codes "end") d)) (λ until. Ok (Renew number until))

-- what each path's body asks
abbrev pub IsAdd : List ℕ → ReadCommand → Type 0
IsAdd body r = IsBody (codes "key" ∷ codes "label" ∷ codes "address" ∷ codes "end" ∷ codes "keepalive" ∷ []) AddFields body r

abbrev pub IsMove : ℕ → List ℕ → ReadCommand → Type 0
IsMove number body r = IsBody (codes "address" ∷ []) (MoveFields number) body r

abbrev pub IsRouteBody : ℕ → List ℕ → ReadCommand → Type 0
IsRouteBody number body r = IsBody (codes "prefix" ∷ []) (RouteFields number) body r

abbrev pub IsUnroute : List ℕ → ReadCommand → Type 0
IsUnroute body r = IsBody (codes "prefix" ∷ []) UnrouteFields body r

abbrev pub IsRenew : ℕ → List ℕ → ReadCommand → Type 0
IsRenew number body r = IsBody (codes "end" ∷ []) (RenewFields number) body r
