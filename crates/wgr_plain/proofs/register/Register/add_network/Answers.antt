use Rattle.std.proofs.Common.{◌≡◌, List, [], ◌∷◌, ◌++◌, None, sym, ap, ap₂, subst, ◌∙◌, refl}
use Rattle.wgr_model.specs.Register.{NetworkEntry, Register, Tenant, id_of}
use Rattle.wgr_model.specs.Steps.{AddNetwork, Done, IsStep, first_refusal, has_network, network_checks}
use Rattle.wgr_model.proofs.OrderSteps.{network_added_is}
use Rattle.wgr_model.proofs.RunLemmas.{step_law}
use Rattle.wgr_plain.proofs.register.Register.add_network.Goals as goal

pub invariant_of-self-2 : goal.invariant_of-self-2
invariant_of-self-2 c =
    let r : Register = record { tenants = c.self.inside.tenants.items; tokens = c.self.inside.tokens.items; readers = c.self.inside.readers.items; networks = c.self.inside.networks.items } in
    let s : Register = record { tenants = c.self.inside.tenants.items; tokens = c.self.inside.tokens.items; readers = c.self.inside.readers.items; networks = c.push.new.entries.items } in
    let looked = c.id_of.ensures ∙ ap₂ id_of c.deref.ensures.value c.as_bytes.ensures in
    let id = c.in-Some.id in
    let network_entry = c.in_ok-network_entry.network_entry in
    let passed : first_refusal (network_checks r id c.args.name.now c.args.settings.now) ≡ None =
    subst (λ (ts : List Tenant). first_refusal (network_checks (record r { tenants = ts }) id c.args.name.now c.args.settings.now) ≡ None) c.deref-2.ensures.value
    (subst (λ (hs : List NetworkEntry). first_refusal (network_checks (record r { tenants = c.deref-2.result.now; networks = hs }) id c.args.name.now c.args.settings.now) ≡ None) c.deref-3.ensures.value c.in_ok-pool.ensures.0) in
    (step_law r s (AddNetwork c.args.tenant.now c.args.name.now c.args.settings.now) Done c.self.invariant (c.name_has_form.ensures, c.settings_have_forms.ensures)
    (network_added_is r c.args.tenant.now c.args.name.now c.args.settings.now id (sym looked ∙ c.in-Some.is) s network_entry.id passed
    c.in_ok-network_entry.ensures.0
    (ap (λ hs. has_network hs network_entry.id) (sym c.deref-4.ensures.value) ∙ c.in_ok-network_entry.ensures.1)
    (c.in_ok-push.ensures.ok ∙ ap {A = NetworkEntry} (λ h. r.networks ++ h ∷ []) c.in_ok-network_entry.ensures.2)
    refl
    refl
    refl)).consistent

pub returns : goal.returns
returns c =
    let r : Register = record { tenants = c.self.inside.tenants.items; tokens = c.self.inside.tokens.items; readers = c.self.inside.readers.items; networks = c.self.inside.networks.items } in
    let s : Register = record { tenants = c.self.inside.tenants.items; tokens = c.self.inside.tokens.items; readers = c.self.inside.readers.items; networks = c.push.new.entries.items } in
    let looked = c.id_of.ensures ∙ ap₂ id_of c.deref.ensures.value c.as_bytes.ensures in
    let id = c.in-Some.id in
    let network_entry = c.in_ok-network_entry.network_entry in
    let passed : first_refusal (network_checks r id c.args.name.now c.args.settings.now) ≡ None =
    subst (λ (ts : List Tenant). first_refusal (network_checks (record r { tenants = ts }) id c.args.name.now c.args.settings.now) ≡ None) c.deref-2.ensures.value
    (subst (λ (hs : List NetworkEntry). first_refusal (network_checks (record r { tenants = c.deref-2.result.now; networks = hs }) id c.args.name.now c.args.settings.now) ≡ None) c.deref-3.ensures.value c.in_ok-pool.ensures.0) in
    subst (λ (x : Register). IsStep x (AddNetwork c.args.tenant.now c.args.name.now c.args.settings.now) Done s) c.self.view_is
    (network_added_is r c.args.tenant.now c.args.name.now c.args.settings.now id (sym looked ∙ c.in-Some.is) s network_entry.id passed
    c.in_ok-network_entry.ensures.0
    (ap (λ hs. has_network hs network_entry.id) (sym c.deref-4.ensures.value) ∙ c.in_ok-network_entry.ensures.1)
    (c.in_ok-push.ensures.ok ∙ ap {A = NetworkEntry} (λ h. r.networks ++ h ∷ []) c.in_ok-network_entry.ensures.2)
    refl
    refl
    refl)
