-- What one tenant alone has of a request or an order, and which of them are its own.
use Rattle.std.proofs.Common.{◌≡◌, ◌⊎◌, ℕ, Bool, true, false, [], ◌∷◌, None, Some, refl}
use Rattle.std.specs.FinMap as map_
use Rattle.std.specs.declared.vec.Vec.{Vec}
use Rattle.std.specs.declared.alloc.Global.{Global}
use Rattle.wgr_model.specs.Register.{Bytes, View}
use Rattle.wgr_model.specs.Steps.{AddTenant, Done, Event, Listed, Networks, Plain}
use Rattle.wgr_model.specs.Tenants.{is_own_event, knows, own_events, tenant_answer}
use Rattle.wgr_office.specs.Events.{Serves, unread}
use Rattle.wgr_office.specs.Pages.{event_of, fault_page}
use Rattle.wgr_office.specs.declared.answer.Answer.TheVariants as givens
use Rattle.wgr_office.specs.declared.run.Event.TheVariants as events
use Rattle.wgr_request.specs.Request.{RequestView, Requests, refused}
use Rattle.wgr_request.specs.declared.fault.RequestFault.{RequestFault}

module _ (v : View) (digest : Bytes) (own : knows v digest ≡ true) where
  -- a request that its bytes refuse is the tenant's, if its token is
  refusals_are_answered : (now : ℕ) (why : RequestFault) → tenant_answer v (event_of now (refused why (Some digest))) ≡ Some (Plain (fault_page why))
  refusals_are_answered now why = rw own refl

  -- and so is the list of its networks, in the order of their names
  lists_are_answered : tenant_answer v (Networks digest) ≡ Some (Listed (map_.entries v.networks))
  lists_are_answered = rw own refl

-- a refused request without a token is nobody's
strangers_have_no_answer : (v : View) (now : ℕ) (why : RequestFault) → tenant_answer v (event_of now (refused why None)) ≡ None
strangers_have_no_answer v now why = refl

-- an order for a new tenant is no other tenant's
new_tenants_are_others : (me : Bytes) (v : View) (name : Bytes) (done : Bool) → is_own_event me v (AddTenant name) done ≡ false
new_tenants_are_others me v name done = refl

no_own_events : (me : Bytes) (v : View) (name : Bytes) → own_events me v ((AddTenant name, Done) ∷ []) ≡ []
no_own_events me v name = refl

-- a request that is answered Unavailable is that of its bytes, unless memory could not read it
unavailable_is_of_the_bytes : (now : ℕ) (bytes : Vec ℕ Global) (e : Event) → Serves (events.Ask now bytes) givens.Unavailable e None → (e ≡ unread) ⊎ ((r : RequestView) × Requests bytes.items r × (e ≡ event_of now r))
unavailable_is_of_the_bytes now bytes e serves = serves
