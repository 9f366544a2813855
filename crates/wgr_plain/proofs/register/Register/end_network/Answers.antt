use Rattle.std.proofs.Common.{List, sym, ap, ap₂, subst, ◌∙◌, not}
use Rattle.wgr_model.specs.Register.{NetworkEntry, Register, id_of}
use Rattle.wgr_model.specs.Steps.{Done, EndNetwork, IsStep, NoNetwork, NoSuchTenant, Refused}
use Rattle.wgr_model.proofs.OrderSteps.{network_gone, no_network, nobody_ends}
use Rattle.wgr_orders.proofs.PlaceLemmas.{place_tells}
use Rattle.wgr_model.proofs.RunLemmas.{step_law}
use Rattle.wgr_plain.proofs.register.Register.end_network.Goals as goal

pub returns-in_default : goal.returns-in_default
returns-in_default c =
    let r : Register = record { tenants = c.self.inside.tenants.items; tokens = c.self.inside.tokens.items; readers = c.self.inside.readers.items; networks = c.self.inside.networks.items } in
    let looked = c.id_of.ensures ∙ ap₂ id_of c.deref.ensures.value c.as_bytes.ensures in
    subst (λ (x : Register). IsStep x (EndNetwork c.args.tenant.now c.args.name.now) (Refused NoSuchTenant) x) c.self.view_is (nobody_ends r c.args.tenant.now c.args.name.now (sym looked ∙ c.in_default.is))

pub returns-then-is_none : goal.returns-then-is_none
returns-then-is_none c =
    let r : Register = record { tenants = c.self.inside.tenants.items; tokens = c.self.inside.tokens.items; readers = c.self.inside.readers.items; networks = c.self.inside.networks.items } in
    let looked = c.id_of.ensures ∙ ap₂ id_of c.deref.ensures.value c.as_bytes.ensures in
    let told = place_tells r.networks c.in-Some.id c.args.name.now c.place_of.result (rw (← c.deref-2.ensures.value, ← c.as_bytes-2.ensures) c.place_of.ensures) in
    subst (λ (x : Register). IsStep x (EndNetwork c.args.tenant.now c.args.name.now) (Refused NoNetwork) x) c.self.view_is
    (no_network r c.args.tenant.now c.args.name.now c.in-Some.id (sym looked ∙ c.in-Some.is) (sym told ∙ c.is_none.ensures ∙ ap not c.if-is_none.true))

pub invariant_of-self : goal.invariant_of-self
invariant_of-self c =
    let r : Register = record { tenants = c.self.inside.tenants.items; tokens = c.self.inside.tokens.items; readers = c.self.inside.readers.items; networks = c.self.inside.networks.items } in
    let s : Register = record { tenants = c.self.inside.tenants.items; tokens = c.self.inside.tokens.items; readers = c.self.inside.readers.items; networks = c.drop_network.new.networks.items } in
    let looked = c.id_of.ensures ∙ ap₂ id_of c.deref.ensures.value c.as_bytes.ensures in
    let told = place_tells r.networks c.in-Some.id c.args.name.now c.place_of.result (rw (← c.deref-2.ensures.value, ← c.as_bytes-2.ensures) c.place_of.ensures) in
    (step_law r s (EndNetwork c.args.tenant.now c.args.name.now) Done c.self.invariant tt
    (network_gone r c.args.tenant.now c.args.name.now c.in-Some.id (sym looked ∙ c.in-Some.is) (sym told ∙ c.is_none.ensures ∙ ap not c.if-is_none.false) s
    (ap {A = List NetworkEntry} (λ hs. record r { networks = hs }) c.drop_network.ensures))).consistent

pub returns : goal.returns
returns c =
    let r : Register = record { tenants = c.self.inside.tenants.items; tokens = c.self.inside.tokens.items; readers = c.self.inside.readers.items; networks = c.self.inside.networks.items } in
    let s : Register = record { tenants = c.self.inside.tenants.items; tokens = c.self.inside.tokens.items; readers = c.self.inside.readers.items; networks = c.drop_network.new.networks.items } in
    let looked = c.id_of.ensures ∙ ap₂ id_of c.deref.ensures.value c.as_bytes.ensures in
    let told = place_tells r.networks c.in-Some.id c.args.name.now c.place_of.result (rw (← c.deref-2.ensures.value, ← c.as_bytes-2.ensures) c.place_of.ensures) in
    subst (λ (x : Register). IsStep x (EndNetwork c.args.tenant.now c.args.name.now) Done s) c.self.view_is
    (network_gone r c.args.tenant.now c.args.name.now c.in-Some.id (sym looked ∙ c.in-Some.is) (sym told ∙ c.is_none.ensures ∙ ap not c.if-is_none.false) s
    (ap {A = List NetworkEntry} (λ hs. record r { networks = hs }) c.drop_network.ensures))
