-- The calls of the plain register in the model's terms.
use Rattle.std.specs.Prelude.{◌≡◌, ℕ, false, List, [], ◌∷◌, ◌++◌, map, Option, Some, None, Result, Ok, Err}
use Rattle.std.specs.Option.{option_map}
use Rattle.wgr_core.specs.Network.{NetworkValue}
use Rattle.wgr_core.specs.declared.refusal.CommandRefusal.{CommandRefusal}
use Rattle.wgr_core.specs.declared.reply.Reply.{Reply}
use Rattle.wgr_orders.specs.declared.refusal.OrderFault as fault
use Rattle.wgr_orders.specs.declared.refusal.OrderFault.TheVariants as faulted
use Rattle.wgr_orders.specs.Orders.{order_event, refusal_of}
use Rattle.wgr_plain.specs.declared.answer.Answer as answer
use Rattle.wgr_plain.specs.declared.answer.Answer.TheVariants as answered
use Rattle.wgr_plain.specs.declared.run.Event as event
use Rattle.wgr_plain.specs.declared.run.Event.TheVariants as events
use Rattle.wgr_model.specs.declared.right.Right.{Right}
use Rattle.wgr_model.specs.declared.right.Right.TheVariants.{Full, Read}
use Rattle.wgr_model.specs.Runs.{AreServed, Served}
use Rattle.wgr_model.specs.Consistent.{IsId}
use Rattle.wgr_model.specs.Register.{Bytes, NetworkEntry, Register}
use Rattle.wgr_model.specs.Steps.{Event, Ask, Networks, Answer, Replied, Declined, Listed, UnknownToken, ReadOnly, NoSuchNetwork, Done, Refused, Settings, IsStep, has_network, new_network}

abbrev pub answer_of : answer.Answer → Answer
answer_of (answered.Replied reply network) = Replied reply network
answer_of (answered.Declined why) = Declined why
answer_of (answered.Listed networks) = Listed networks
answer_of answered.UnknownToken = UnknownToken
answer_of answered.ReadOnly = ReadOnly
answer_of answered.NoSuchNetwork = NoSuchNetwork
answer_of answered.Done = Done
answer_of (answered.Refused why) = Refused (refusal_of why)

abbrev pub model_event : event.Event → Event
model_event (events.Ask digest name now command) = Ask digest name now command
model_event (events.Networks digest) = Networks digest
model_event (events.Order order) = order_event order

-- the list of these events, each with its answer, or with none where memory was refused: one answer
-- for each event
abbrev pub AreAnswered : List event.Event → List (Option answer.Answer) → List Served → Type 0
AreAnswered events answers es = AreServed (map model_event events) (map (option_map answer_of) answers) es

-- a command's result on a network is answered, and the network after it is returned
abbrev pub IsActed : Result (Reply × NetworkValue) CommandRefusal → Answer → Option NetworkValue → Type 0
IsActed (Err why) answer None = answer ≡ Declined why
IsActed (Err why) answer (Some after) = ⊥
IsActed (Ok done) answer None = ⊥
IsActed (Ok done) answer (Some after) = (answer ≡ Replied done.0 done.1) × (after ≡ done.1)

-- an order is a step, or memory ran out and nothing changed
abbrev pub IsOrdered : Register → Event → Result Unit fault.OrderFault → Register → Type 0
IsOrdered r event (Ok done) s = IsStep r event Done s
IsOrdered r event (Err (faulted.Refused why)) s = IsStep r event (Refused (refusal_of why)) s
IsOrdered r event (Err faulted.NoMemory) s = s ≡ r

-- the digest at the end where the token only reads
abbrev pub with_last : Right → Bytes → List Bytes → List Bytes
with_last Full digest readers = readers
with_last Read digest readers = readers ++ digest ∷ []

-- a network of these settings, without peers, under an id that no other has
abbrev pub IsNewNetworkEntry : List NetworkEntry → ℕ → Bytes → Settings → NetworkEntry → Type 0
IsNewNetworkEntry hs tenant name settings h = IsId h.id × (has_network hs h.id ≡ false) × (h ≡ record { id = h.id; tenant = tenant; name = name; network = new_network settings })
