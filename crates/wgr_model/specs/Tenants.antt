-- What one tenant alone gets from an event, given what it sees: nothing else of the register is used.
use Rattle.std.specs.Prelude.{◌≡◌, ℕ, Bool, false, ◌&&◌, if◌then◌else◌, List, [], ◌∷◌, Option, Some, None, is_some, Result, Ok, Err, MatchOption, ⊤}
use Rattle.std.specs.FinMap as map_
use Rattle.std.specs.Option.{option_map}
use Rattle.wgr_core.specs.declared.command.Command.{Command}
use Rattle.wgr_core.specs.declared.refusal.CommandRefusal.{CommandRefusal}
use Rattle.wgr_core.specs.declared.reply.Reply.{Reply}
use Rattle.wgr_core.specs.Network.{NetworkValue}
use Rattle.wgr_model.specs.declared.right.Right.{Right}
use Rattle.wgr_model.specs.Register.{Bytes, View, is_same}
use Rattle.wgr_model.specs.Steps.{Event, Answer, act, allows, is_done, new_network, Decided, Ask, Networks, AddTenant, Grant, EndToken, AddNetwork, EndNetwork, Plain, Replied, Declined, Listed, ReadOnly, NoSuchNetwork}

abbrev pub put_view : View → Bytes → NetworkValue → View
put_view v name n = record v { networks = map_.insert v.networks name n }

-- whether the token of this digest is the tenant's
abbrev pub knows : View → Bytes → Bool
knows v digest = is_some (map_.get v.rights digest)

-- ---- the answer

abbrev pub answer_acted : Result (Reply × NetworkValue) CommandRefusal → Answer
answer_acted (Err why) = Declined why
answer_acted (Ok done) = Replied done.0 done.1

abbrev pub answer_asked : ℕ → Command → Option NetworkValue → Answer
answer_asked now command None = NoSuchNetwork
answer_asked now command (Some n) = answer_acted (act n now command)

abbrev pub answer_allowed : Right → ℕ → Command → Option NetworkValue → Answer
answer_allowed right now command n = if allows right command then answer_asked now command n else ReadOnly

-- the answer to a request of the tenant's; to any other event the tenant has none
abbrev pub tenant_answer : View → Event → Option Answer
tenant_answer v (Decided None reply) = None
tenant_answer v (Decided (Some digest) reply) = if knows v digest then Some (Plain reply) else None
tenant_answer v (Ask digest name now command) = option_map (λ right. answer_allowed right now command (map_.get v.networks name)) (map_.get v.rights digest)
tenant_answer v (Networks digest) = if knows v digest then Some (Listed (map_.entries v.networks)) else None
tenant_answer v _ = None

-- ---- what the tenant has after it

abbrev pub after_acted : View → Bytes → Result (Reply × NetworkValue) CommandRefusal → View
after_acted v name (Err why) = v
after_acted v name (Ok done) = put_view v name done.1

abbrev pub after_asked : View → Bytes → ℕ → Command → Option NetworkValue → View
after_asked v name now command None = v
after_asked v name now command (Some n) = after_acted v name (act n now command)

-- nothing where the token isn't the tenant's, or its right doesn't allow the command
abbrev pub after_allowed : View → Bytes → ℕ → Command → Option Right → View
after_allowed v name now command None = v
after_allowed v name now command (Some right) = if allows right command then after_asked v name now command (map_.get v.networks name) else v

-- A command of the tenant changes its network of that name. Only accepted orders about the tenant
-- count; `done` says whether an order was accepted.
abbrev pub tenant_after : Bytes → View → Event → Bool → View
tenant_after me v (Decided digest reply) done = v
tenant_after me v (Ask digest name now command) done = after_allowed v name now command (map_.get v.rights digest)
tenant_after me v (Networks digest) done = v
tenant_after me v (AddTenant name) done = v
tenant_after me v (Grant tenant digest right) done = if done && is_same me tenant then record v { rights = map_.insert v.rights digest right } else v
tenant_after me v (EndToken digest) done = if done && knows v digest then record v { rights = map_.remove v.rights digest } else v
tenant_after me v (AddNetwork tenant name settings) done = if done && is_same me tenant then put_view v name (new_network settings) else v
tenant_after me v (EndNetwork tenant name) done = if done && is_same me tenant then record v { networks = map_.remove v.networks name } else v

-- ---- the step of one tenant alone, and its run along a list of events with their answers

abbrev pub tenant_step : Bytes → View → Event × Answer → Option Answer × View
tenant_step me v e = (tenant_answer v e.0, tenant_after me v e.0 (is_done e.1))

-- an answer or none at each place, and the last view
abbrev pub tenant_run : Bytes → View → List (Event × Answer) → List (Option Answer) × View
tenant_run me v [] = ([], v)
tenant_run me v (e ∷ es) =
    let step = tenant_step me v e in
    let rest = tenant_run me step.1 es in
    (step.0 ∷ rest.0, rest.1)

-- an answer that the tenant alone has is the one that was given
abbrev pub FitsAnswer : Option Answer → Answer → Type 0
FitsAnswer alone given = MatchOption alone ⊤ (λ answer. answer ≡ given)

-- and so at each place of a list
abbrev pub Agree : List (Option Answer) → List (Event × Answer) → Type 0
Agree [] [] = ⊤
Agree (a ∷ rest) (e ∷ es) = FitsAnswer a e.1 × Agree rest es
Agree [] (e ∷ es) = ⊥
Agree (a ∷ rest) [] = ⊥

-- ---- the events that are a tenant's own

-- whether the tenant is answered, or what it has may change
abbrev pub is_own_event : Bytes → View → Event → Bool → Bool
is_own_event me v (Decided None reply) done = false
is_own_event me v (Decided (Some digest) reply) done = knows v digest
is_own_event me v (Ask digest name now command) done = knows v digest
is_own_event me v (Networks digest) done = knows v digest
is_own_event me v (AddTenant name) done = false
is_own_event me v (Grant tenant digest right) done = done && is_same me tenant
is_own_event me v (EndToken digest) done = done && knows v digest
is_own_event me v (AddNetwork tenant name settings) done = done && is_same me tenant
is_own_event me v (EndNetwork tenant name) done = done && is_same me tenant

-- these events in turn, each with whether it was accepted
abbrev pub own_events : Bytes → View → List (Event × Answer) → List (Event × Bool)
own_events me v [] = []
own_events me v (e ∷ es) = if is_own_event me v e.0 (is_done e.1) then (e.0, is_done e.1) ∷ own_events me (tenant_after me v e.0 (is_done e.1)) es else own_events me v es

abbrev pub in_front : Option Answer → List Answer → List Answer
in_front None answers = answers
in_front (Some a) answers = a ∷ answers

-- the answers, without the places that have none
abbrev pub answers_given : List (Option Answer) → List Answer
answers_given [] = []
answers_given (a ∷ rest) = in_front a (answers_given rest)
