use Rattle.std.proofs.Common.{List, [], ◌∷◌, ◌++◌, map, nat_eq, is_some, sym, ap, ap₂, subst, ◌∙◌, refl}
use Rattle.std.specs.List.{list_any}
use Rattle.wgr_model.specs.Register.{Bytes, Register, Tenant, id_of}
use Rattle.wgr_model.specs.Steps.{AddTenant, Done, IsStep, NameHeld, Refused, RegisterFull, is_full}
use Rattle.wgr_model.proofs.OrderSteps.{no_more_tenants, tenant_added, tenant_held}
use Rattle.wgr_model.proofs.RunLemmas.{step_law}
use Rattle.wgr_plain.proofs.register.Register.add_tenant.Goals as goal

pub returns-then-is_some : goal.returns-then-is_some
returns-then-is_some c =
    let r : Register = record { tenants = c.self.inside.tenants.items; tokens = c.self.inside.tokens.items; readers = c.self.inside.readers.items; networks = c.self.inside.networks.items } in
    let looked = c.id_of.ensures ∙ ap₂ id_of c.deref.ensures.value c.as_bytes.ensures in
    subst (λ (x : Register). IsStep x (AddTenant c.args.name.now) (Refused NameHeld) x) c.self.view_is (tenant_held r c.args.name.now (ap is_some (sym looked) ∙ sym c.is_some.ensures ∙ c.if-is_some.true))

pub returns-then-is_full : goal.returns-then-is_full
returns-then-is_full c =
    let r : Register = record { tenants = c.self.inside.tenants.items; tokens = c.self.inside.tokens.items; readers = c.self.inside.readers.items; networks = c.self.inside.networks.items } in
    let looked = c.id_of.ensures ∙ ap₂ id_of c.deref.ensures.value c.as_bytes.ensures in
    subst (λ (x : Register). IsStep x (AddTenant c.args.name.now) (Refused RegisterFull) x) c.self.view_is
    (no_more_tenants r c.args.name.now (ap is_some (sym looked) ∙ sym c.is_some.ensures ∙ c.if-is_some.false) (sym (c.is_full.ensures ∙ ap {A = List Tenant} is_full c.deref-2.ensures.value) ∙ c.if-is_full.true))

pub invariant_of-self-2 : goal.invariant_of-self-2
invariant_of-self-2 c =
    let r : Register = record { tenants = c.self.inside.tenants.items; tokens = c.self.inside.tokens.items; readers = c.self.inside.readers.items; networks = c.self.inside.networks.items } in
    let s : Register = record { tenants = c.push.new.entries.items; tokens = c.self.inside.tokens.items; readers = c.self.inside.readers.items; networks = c.self.inside.networks.items } in
    let looked = c.id_of.ensures ∙ ap₂ id_of c.deref.ensures.value c.as_bytes.ensures in
    let new = c.unused_id.result in
    let ids = c.deref-4.ensures.value ∙ c.in_ok-ids.ensures ∙ ap (map (λ (t : Tenant). t.id)) c.deref-3.ensures.value in
    (step_law r s (AddTenant c.args.name.now) Done c.self.invariant c.name_has_form.ensures
    (tenant_added r c.args.name.now s new
    (ap is_some (sym looked) ∙ sym c.is_some.ensures ∙ c.if-is_some.false)
    (sym (c.is_full.ensures ∙ ap {A = List Tenant} is_full c.deref-2.ensures.value) ∙ c.if-is_full.false)
    c.unused_id.ensures.id
    (ap (list_any (nat_eq new)) (sym ids) ∙ c.unused_id.ensures.unused)
    (c.in_ok-push.ensures.ok ∙ ap {A = Bytes} (λ name. r.tenants ++ record { id = new; name = name } ∷ []) c.in_ok-copy.ensures)
    refl
    refl
    refl)).consistent

pub returns : goal.returns
returns c =
    let r : Register = record { tenants = c.self.inside.tenants.items; tokens = c.self.inside.tokens.items; readers = c.self.inside.readers.items; networks = c.self.inside.networks.items } in
    let s : Register = record { tenants = c.push.new.entries.items; tokens = c.self.inside.tokens.items; readers = c.self.inside.readers.items; networks = c.self.inside.networks.items } in
    let looked = c.id_of.ensures ∙ ap₂ id_of c.deref.ensures.value c.as_bytes.ensures in
    let new = c.unused_id.result in
    let ids = c.deref-4.ensures.value ∙ c.in_ok-ids.ensures ∙ ap (map (λ (t : Tenant). t.id)) c.deref-3.ensures.value in
    subst (λ (x : Register). IsStep x (AddTenant c.args.name.now) Done s) c.self.view_is
    (tenant_added r c.args.name.now s new
    (ap is_some (sym looked) ∙ sym c.is_some.ensures ∙ c.if-is_some.false)
    (sym (c.is_full.ensures ∙ ap {A = List Tenant} is_full c.deref-2.ensures.value) ∙ c.if-is_full.false)
    c.unused_id.ensures.id
    (ap (list_any (nat_eq new)) (sym ids) ∙ c.unused_id.ensures.unused)
    (c.in_ok-push.ensures.ok ∙ ap {A = Bytes} (λ name. r.tenants ++ record { id = new; name = name } ∷ []) c.in_ok-copy.ensures)
    refl
    refl
    refl)
