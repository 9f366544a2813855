use Rattle.std.proofs.Common.{◌≡◌, None, Some, Option, sym, ap, subst, ◌∙◌}
use Rattle.wgr_core.specs.Network.{NetworkValue}
use Rattle.wgr_plain.specs.Calls.{IsActed, answer_of}
use Rattle.wgr_orders.specs.Places.{IsNetworkPlace}
use Rattle.wgr_model.specs.Register.{NetworkEntry, Register, right_of}
use Rattle.wgr_model.specs.Steps.{Ask, IsStep, act, allows, network_at, tenant_of_token, with_network}
use Rattle.wgr_model.proofs.CallLemmas.{nothing_asked, reader_asks, stranger_asks}
use Rattle.wgr_plain.proofs.StepLemmas.{refusal_step, reply_step}
use Rattle.wgr_model.proofs.RunLemmas.{step_law}
use Rattle.wgr_plain.proofs.register.Register.ask.Goals as goal

pub returns-in_default-clause-step : goal.returns-in_default-clause-step
returns-in_default-clause-step c =
    let tokens : c.deref.result.now ≡ c.args.self.now.tokens = c.deref.ensures.value ∙ ap {A = Register} (λ r. r.tokens) c.self.view_is in
    stranger_asks c.args.self.now c.args.digest.now c.args.name.now c.args.now c.args.command.now
    (ap (λ ts. tenant_of_token ts c.args.digest.now) (sym tokens) ∙ sym c.tenant_of_token.ensures ∙ c.in_default.is)

pub returns-then-not-allows-clause-step : goal.returns-then-not-allows-clause-step
returns-then-not-allows-clause-step c =
    let tokens : c.deref.result.now ≡ c.args.self.now.tokens = c.deref.ensures.value ∙ ap {A = Register} (λ r. r.tokens) c.self.view_is in
    let readers : c.deref-2.result.now ≡ c.args.self.now.readers = c.deref-2.ensures.value ∙ ap {A = Register} (λ r. r.readers) c.self.view_is in
    reader_asks c.args.self.now c.args.digest.now c.args.name.now c.args.now c.args.command.now c.in-Some.id
    (ap (λ ts. tenant_of_token ts c.args.digest.now) (sym tokens) ∙ sym c.tenant_of_token.ensures ∙ c.in-Some.is)
    (ap (λ x. allows x c.args.command.now) (ap (λ ds. right_of ds c.args.digest.now) (sym readers) ∙ sym c.right_of-right.ensures) ∙ sym c.allows.ensures ∙ c.if-not-allows.true)

pub returns-in_default-place_of-clause-step : goal.returns-in_default-place_of-clause-step
returns-in_default-place_of-clause-step c =
    let tokens : c.deref.result.now ≡ c.args.self.now.tokens = c.deref.ensures.value ∙ ap {A = Register} (λ r. r.tokens) c.self.view_is in
    let readers : c.deref-2.result.now ≡ c.args.self.now.readers = c.deref-2.ensures.value ∙ ap {A = Register} (λ r. r.readers) c.self.view_is in
    let networks : c.deref-3.result.now ≡ c.args.self.now.networks = c.deref-3.ensures.value ∙ ap {A = Register} (λ r. r.networks) c.self.view_is in
    let none : network_at c.args.self.now.networks c.in-Some.id c.args.name.now ≡ None = rw (← networks, ← c.as_bytes.ensures) c.in_default-place_of.ensures in
    nothing_asked c.args.self.now c.args.digest.now c.args.name.now c.args.now c.args.command.now c.in-Some.id
    (ap (λ ts. tenant_of_token ts c.args.digest.now) (sym tokens) ∙ sym c.tenant_of_token.ensures ∙ c.in-Some.is)
    (ap (λ x. allows x c.args.command.now) (ap (λ ds. right_of ds c.args.digest.now) (sym readers) ∙ sym c.right_of-right.ensures) ∙ sym c.allows.ensures ∙ c.if-not-allows.false)
    none

pub returns-in-None-clause-step : goal.returns-in-None-clause-step
returns-in-None-clause-step c =
    let r : Register = record { tenants = c.self.inside.tenants.items; tokens = c.self.inside.tokens.items; readers = c.self.inside.readers.items; networks = c.self.inside.networks.items } in
    let event = Ask c.args.digest.now c.args.name.now c.args.now c.args.command.now in
    let answer = answer_of c.in_ok-answer.field-0.answer in
    let known = ap (λ ts. tenant_of_token ts c.args.digest.now) (sym c.deref.ensures.value) ∙ sym c.tenant_of_token.ensures ∙ c.in-Some.is in
    let may = ap (λ x. allows x c.args.command.now) (ap (λ ds. right_of ds c.args.digest.now) (sym c.deref-2.ensures.value) ∙ sym c.right_of-right.ensures) ∙ sym c.allows.ensures ∙ c.if-not-allows.false in
    let place : IsNetworkPlace r.networks c.in-Some.id c.args.name.now c.in-Some-place_of.place = rw (← c.deref-3.ensures.value, ← c.as_bytes.ensures) c.in-Some-place_of.ensures in
    let found : network_at r.networks c.in-Some.id c.args.name.now ≡ Some c.behind-self.inside.network = place.found c.index.result.now ∙ ap {A = NetworkEntry} (λ x. Some x.network) (sym c.index.ensures ∙ sym c.behind-self.view_is) in
    subst (λ (x : Register). IsStep x event answer x) c.self.view_is
    (refusal_step r c.args.digest.now c.args.name.now c.args.now c.args.command.now c.in-Some.id known may c.behind-self.inside.network found answer
    (subst (λ (after : Option NetworkValue). IsActed (act c.behind-self.inside.network c.args.now c.args.command.now) answer after) c.in-None.is c.in_ok-answer.ensures))

pub invariant_of-self : goal.invariant_of-self
invariant_of-self c =
    let r : Register = record { tenants = c.self.inside.tenants.items; tokens = c.self.inside.tokens.items; readers = c.self.inside.readers.items; networks = c.self.inside.networks.items } in
    let s : Register = record { tenants = c.self.inside.tenants.items; tokens = c.self.inside.tokens.items; readers = c.self.inside.readers.items; networks = c.put_network.new.networks.items } in
    let event = Ask c.args.digest.now c.args.name.now c.args.now c.args.command.now in
    let answer = answer_of c.in_ok-answer.field-0.answer in
    let known = ap (λ ts. tenant_of_token ts c.args.digest.now) (sym c.deref.ensures.value) ∙ sym c.tenant_of_token.ensures ∙ c.in-Some.is in
    let may = ap (λ x. allows x c.args.command.now) (ap (λ ds. right_of ds c.args.digest.now) (sym c.deref-2.ensures.value) ∙ sym c.right_of-right.ensures) ∙ sym c.allows.ensures ∙ c.if-not-allows.false in
    let place : IsNetworkPlace r.networks c.in-Some.id c.args.name.now c.in-Some-place_of.place = rw (← c.deref-3.ensures.value, ← c.as_bytes.ensures) c.in-Some-place_of.ensures in
    let found : network_at r.networks c.in-Some.id c.args.name.now ≡ Some c.behind-self.inside.network = place.found c.index.result.now ∙ ap {A = NetworkEntry} (λ x. Some x.network) (sym c.index.ensures ∙ sym c.behind-self.view_is) in
    let after : NetworkValue = c.in-Some-after.network in
    let put : c.put_network.new.networks.items ≡ with_network r.networks c.in-Some.id c.args.name.now after =
    c.put_network.ensures c.index.result.now ∙ sym (place.put c.index.result.now after) in
    (step_law r s event answer c.self.invariant (c.forms_hold.ensures.asked, c.forms_hold.ensures.forms)
    (reply_step r c.args.digest.now c.args.name.now c.args.now c.args.command.now c.in-Some.id known may c.behind-self.inside.network found answer after s
    (subst (λ (after : Option NetworkValue). IsActed (act c.behind-self.inside.network c.args.now c.args.command.now) answer after) c.in-Some-after.is c.in_ok-answer.ensures)
    (ap (λ hs. record r { networks = hs }) put))).consistent

pub returns-in-Some-after-clause-step : goal.returns-in-Some-after-clause-step
returns-in-Some-after-clause-step c =
    let r : Register = record { tenants = c.self.inside.tenants.items; tokens = c.self.inside.tokens.items; readers = c.self.inside.readers.items; networks = c.self.inside.networks.items } in
    let s : Register = record { tenants = c.self.inside.tenants.items; tokens = c.self.inside.tokens.items; readers = c.self.inside.readers.items; networks = c.put_network.new.networks.items } in
    let event = Ask c.args.digest.now c.args.name.now c.args.now c.args.command.now in
    let answer = answer_of c.in_ok-answer.field-0.answer in
    let known = ap (λ ts. tenant_of_token ts c.args.digest.now) (sym c.deref.ensures.value) ∙ sym c.tenant_of_token.ensures ∙ c.in-Some.is in
    let may = ap (λ x. allows x c.args.command.now) (ap (λ ds. right_of ds c.args.digest.now) (sym c.deref-2.ensures.value) ∙ sym c.right_of-right.ensures) ∙ sym c.allows.ensures ∙ c.if-not-allows.false in
    let place : IsNetworkPlace r.networks c.in-Some.id c.args.name.now c.in-Some-place_of.place = rw (← c.deref-3.ensures.value, ← c.as_bytes.ensures) c.in-Some-place_of.ensures in
    let found : network_at r.networks c.in-Some.id c.args.name.now ≡ Some c.behind-self.inside.network = place.found c.index.result.now ∙ ap {A = NetworkEntry} (λ x. Some x.network) (sym c.index.ensures ∙ sym c.behind-self.view_is) in
    let after : NetworkValue = c.in-Some-after.network in
    let put : c.put_network.new.networks.items ≡ with_network r.networks c.in-Some.id c.args.name.now after =
    c.put_network.ensures c.index.result.now ∙ sym (place.put c.index.result.now after) in
    subst (λ (x : Register). IsStep x event answer s) c.self.view_is
    (reply_step r c.args.digest.now c.args.name.now c.args.now c.args.command.now c.in-Some.id known may c.behind-self.inside.network found answer after s
    (subst (λ (after : Option NetworkValue). IsActed (act c.behind-self.inside.network c.args.now c.args.command.now) answer after) c.in-Some-after.is c.in_ok-answer.ensures)
    (ap (λ hs. record r { networks = hs }) put))
