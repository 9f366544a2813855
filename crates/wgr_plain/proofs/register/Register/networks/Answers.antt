use Rattle.std.proofs.Common.{◌≡◌, sym, ap, ◌∙◌}
use Rattle.wgr_model.specs.Register.{Register}
use Rattle.wgr_model.specs.Steps.{tenant_of_token}
use Rattle.wgr_model.proofs.CallLemmas.{stranger_lists, tenant_lists}
use Rattle.wgr_plain.proofs.register.Register.networks.Goals as goal

pub returns-in_ok-listed-in-Some : goal.returns-in_ok-listed-in-Some
returns-in_ok-listed-in-Some c =
    let tokens : c.deref.result.now ≡ c.args.self.now.tokens = c.deref.ensures.value ∙ ap {A = Register} (λ r. r.tokens) c.self.view_is in
    let networks : c.deref-in-Some.result.now ≡ c.args.self.now.networks = c.deref-in-Some.ensures.value ∙ ap {A = Register} (λ r. r.networks) c.self.view_is in
    tenant_lists c.args.self.now c.args.digest.now c.in-Some.id c.in_ok-listed-in-Some.field-0
    (ap (λ ts. tenant_of_token ts c.args.digest.now) (sym tokens) ∙ sym c.tenant_of_token.ensures ∙ c.in-Some.is)
    (rw (← networks) c.in_ok-listed-in-Some.ensures)

pub returns-in-None : goal.returns-in-None
returns-in-None c =
    let tokens : c.deref.result.now ≡ c.args.self.now.tokens = c.deref.ensures.value ∙ ap {A = Register} (λ r. r.tokens) c.self.view_is in
    stranger_lists c.args.self.now c.args.digest.now (ap (λ ts. tenant_of_token ts c.args.digest.now) (sym tokens) ∙ sym c.tenant_of_token.ensures ∙ c.in-None.is)
