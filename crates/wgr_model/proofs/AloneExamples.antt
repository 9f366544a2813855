-- What a tenant alone has of an event, which events are its own, and what may come between two runs.
use Rattle.std.proofs.Common.{◌≡◌, ◌≢◌, ℕ, Bool, true, false, List, [], ◌∷◌, Option, None, Some, refl}
use Rattle.std.specs.FinMap as map_
use Rattle.wgr_core.specs.declared.command.Command.{Command}
use Rattle.wgr_model.specs.declared.right.Right.{Right}
use Rattle.wgr_model.specs.Laws.{Has}
use Rattle.wgr_model.specs.Register.{Bytes, View, is_same}
use Rattle.wgr_model.specs.RowLaws.{HasOneRow}
use Rattle.wgr_model.specs.Rows.{AllowedRow, Tables}
use Rattle.wgr_model.specs.Runs.{Served}
use Rattle.wgr_model.specs.Steps.{Answer, Event, Settings, AddNetwork, Ask, Decided, EndNetwork, EndToken, Grant, Listed, Networks}
use Rattle.wgr_model.specs.Stops.{IsBetween}
use Rattle.wgr_model.specs.Tenants.{answer_allowed, is_own_event, tenant_answer}

-- ---- requests

module _ (me digest name : Bytes) (v : View) (now : ℕ) (command : Command) (done : Bool) where
  -- one by a token of the tenant is answered as far as its right goes, and is its own
  own_command : (right : Right) → map_.get v.rights digest ≡ Some right
      → (tenant_answer v (Ask digest name now command) ≡ Some (answer_allowed right now command (map_.get v.networks name))) × (is_own_event me v (Ask digest name now command) done ≡ true)
  own_command right is = rw is (refl, refl)

  own_list : (right : Right) → map_.get v.rights digest ≡ Some right → (tenant_answer v (Networks digest) ≡ Some (Listed (map_.entries v.networks))) × (is_own_event me v (Networks digest) done ≡ true)
  own_list right is = rw is (refl, refl)

  -- by any other token it isn't answered, nor its own
  anothers_command : map_.get v.rights digest ≡ None → (tenant_answer v (Ask digest name now command) ≡ None) × (is_own_event me v (Ask digest name now command) done ≡ false)
  anothers_command is = rw is (refl, refl)

  anothers_list : map_.get v.rights digest ≡ None → (tenant_answer v (Networks digest) ≡ None) × (is_own_event me v (Networks digest) done ≡ false)
  anothers_list is = rw is (refl, refl)

  anothers_refusal : (reply : Bytes) → map_.get v.rights digest ≡ None → is_own_event me v (Decided (Some digest) reply) done ≡ false
  anothers_refusal reply is = rw is refl

-- one without a token is nobody's
nobodys_refusal : (me : Bytes) (v : View) (reply : Bytes) (done : Bool) → is_own_event me v (Decided None reply) done ≡ false
nobodys_refusal me v reply done = refl

-- ---- orders

module _ (me tenant digest name : Bytes) (v : View) (right : Right) (settings : Settings) where
  -- one about another tenant isn't its own
  orders_about_another : is_same me tenant ≡ false
      → (is_own_event me v (Grant tenant digest right) true ≡ false) × (is_own_event me v (AddNetwork tenant name settings) true ≡ false) × (is_own_event me v (EndNetwork tenant name) true ≡ false)
  orders_about_another other = rw other (refl, refl, refl)

  -- nor is one that was refused
  refused_orders : (is_own_event me v (Grant tenant digest right) false ≡ false) × (is_own_event me v (AddNetwork tenant name settings) false ≡ false) × (is_own_event me v (EndNetwork tenant name) false ≡ false)
      × (is_own_event me v (EndToken digest) false ≡ false)
  refused_orders = (refl, refl, refl, refl)

  orders_about_it : is_same me tenant ≡ true
      → (is_own_event me v (Grant tenant digest right) true ≡ true) × (is_own_event me v (AddNetwork tenant name settings) true ≡ true) × (is_own_event me v (EndNetwork tenant name) true ≡ true)
  orders_about_it same = rw same (refl, refl, refl)

  anothers_token : map_.get v.rights digest ≡ None → is_own_event me v (EndToken digest) true ≡ false
  anothers_token is = rw is refl

-- ---- between two runs

-- two events are too many, and one without an answer is none
two_events : (late : List Event) (first second : Served) (rest : List Served) → IsBetween late (first ∷ second ∷ rest) → ⊥
two_events late (event, Some answer) second rest is = is
two_events late (event, None) second rest is = is

unanswered_event : (late : List Event) (event : Event) → IsBetween late ((event, None) ∷ []) → ⊥
unanswered_event late event is = is

-- ---- one address

-- no address is in two networks
two_networks : (t : Tables) (a b : AllowedRow) → HasOneRow t → Has t.allowed a → Has t.allowed b → a.is_route ≡ false → b.is_route ≡ false → a.prefix.address ≡ b.prefix.address → a.network ≢ b.network → ⊥
two_networks t a b one at bt ar br same apart = apart (rw (one a b at bt ar br same) refl)
