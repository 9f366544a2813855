use Rattle.std.proofs.Common.{List, is_some, sym, ap, ap₂, subst, ◌∙◌, refl}
use Rattle.wgr_model.specs.Register.{Register, Token, id_of}
use Rattle.wgr_model.specs.Steps.{DigestHeld, Done, Grant, IsStep, NoSuchTenant, Refused, RegisterFull, is_full, tenant_of_token}
use Rattle.wgr_model.proofs.OrderSteps.{digest_held, no_more_tokens, nobody_granted, token_granted}
use Rattle.wgr_model.proofs.RunLemmas.{step_law}
use Rattle.wgr_plain.proofs.StepLemmas.{reader_comes}
use Rattle.wgr_plain.proofs.register.Register.grant.Goals as goal

pub returns-in_default : goal.returns-in_default
returns-in_default c =
    let r : Register = record { tenants = c.self.inside.tenants.items; tokens = c.self.inside.tokens.items; readers = c.self.inside.readers.items; networks = c.self.inside.networks.items } in
    let looked = c.id_of.ensures ∙ ap₂ id_of c.deref.ensures.value c.as_bytes.ensures in
    subst (λ (x : Register). IsStep x (Grant c.args.tenant.now c.args.digest.now c.args.right) (Refused NoSuchTenant) x) c.self.view_is (nobody_granted r c.args.tenant.now c.args.digest.now c.args.right (sym looked ∙ c.in_default.is))

pub returns-then-is_some : goal.returns-then-is_some
returns-then-is_some c =
    let r : Register = record { tenants = c.self.inside.tenants.items; tokens = c.self.inside.tokens.items; readers = c.self.inside.readers.items; networks = c.self.inside.networks.items } in
    let looked = c.id_of.ensures ∙ ap₂ id_of c.deref.ensures.value c.as_bytes.ensures in
    let token = c.tenant_of_token.ensures ∙ ap (λ ts. tenant_of_token ts c.args.digest.now) c.deref-2.ensures.value in
    subst (λ (x : Register). IsStep x (Grant c.args.tenant.now c.args.digest.now c.args.right) (Refused DigestHeld) x) c.self.view_is
    (digest_held r c.args.tenant.now c.args.digest.now c.args.right c.in-Some.id (sym looked ∙ c.in-Some.is) (ap is_some (sym token) ∙ sym c.is_some.ensures ∙ c.if-is_some.true))

pub returns-then-is_full : goal.returns-then-is_full
returns-then-is_full c =
    let r : Register = record { tenants = c.self.inside.tenants.items; tokens = c.self.inside.tokens.items; readers = c.self.inside.readers.items; networks = c.self.inside.networks.items } in
    let looked = c.id_of.ensures ∙ ap₂ id_of c.deref.ensures.value c.as_bytes.ensures in
    let token = c.tenant_of_token.ensures ∙ ap (λ ts. tenant_of_token ts c.args.digest.now) c.deref-2.ensures.value in
    subst (λ (x : Register). IsStep x (Grant c.args.tenant.now c.args.digest.now c.args.right) (Refused RegisterFull) x) c.self.view_is
    (no_more_tokens r c.args.tenant.now c.args.digest.now c.args.right c.in-Some.id (sym looked ∙ c.in-Some.is) (ap is_some (sym token) ∙ sym c.is_some.ensures ∙ c.if-is_some.false)
    (sym (c.is_full.ensures ∙ ap {A = List Token} is_full c.deref-3.ensures.value) ∙ c.if-is_full.true))

pub invariant_of-self-2 : goal.invariant_of-self-2
invariant_of-self-2 c =
    let r : Register = record { tenants = c.self.inside.tenants.items; tokens = c.self.inside.tokens.items; readers = c.self.inside.readers.items; networks = c.self.inside.networks.items } in
    let s : Register = record { tenants = c.self.inside.tenants.items; tokens = c.put_token.new.tokens.items; readers = c.put_token.new.readers.items; networks = c.self.inside.networks.items } in
    let looked = c.id_of.ensures ∙ ap₂ id_of c.deref.ensures.value c.as_bytes.ensures in
    let token = c.tenant_of_token.ensures ∙ ap (λ ts. tenant_of_token ts c.args.digest.now) c.deref-2.ensures.value in
    (step_law r s (Grant c.args.tenant.now c.args.digest.now c.args.right) Done c.self.invariant c.digest_has_form.ensures
    (token_granted r c.args.tenant.now c.args.digest.now c.args.right c.in-Some.id (sym looked ∙ c.in-Some.is) s (ap is_some (sym token) ∙ sym c.is_some.ensures ∙ c.if-is_some.false)
    (sym (c.is_full.ensures ∙ ap {A = List Token} is_full c.deref-3.ensures.value) ∙ c.if-is_full.false)
    c.in_ok-put_token.ensures.tokens
    (reader_comes c.args.right c.args.digest.now r.readers s.readers c.in_ok-put_token.ensures.readers)
    refl
    refl)).consistent

pub returns : goal.returns
returns c =
    let r : Register = record { tenants = c.self.inside.tenants.items; tokens = c.self.inside.tokens.items; readers = c.self.inside.readers.items; networks = c.self.inside.networks.items } in
    let s : Register = record { tenants = c.self.inside.tenants.items; tokens = c.put_token.new.tokens.items; readers = c.put_token.new.readers.items; networks = c.self.inside.networks.items } in
    let looked = c.id_of.ensures ∙ ap₂ id_of c.deref.ensures.value c.as_bytes.ensures in
    let token = c.tenant_of_token.ensures ∙ ap (λ ts. tenant_of_token ts c.args.digest.now) c.deref-2.ensures.value in
    subst (λ (x : Register). IsStep x (Grant c.args.tenant.now c.args.digest.now c.args.right) Done s) c.self.view_is
    (token_granted r c.args.tenant.now c.args.digest.now c.args.right c.in-Some.id (sym looked ∙ c.in-Some.is) s (ap is_some (sym token) ∙ sym c.is_some.ensures ∙ c.if-is_some.false)
    (sym (c.is_full.ensures ∙ ap {A = List Token} is_full c.deref-3.ensures.value) ∙ c.if-is_full.false)
    c.in_ok-put_token.ensures.tokens
    (reader_comes c.args.right c.args.digest.now r.readers s.readers c.in_ok-put_token.ensures.readers)
    refl
    refl)
