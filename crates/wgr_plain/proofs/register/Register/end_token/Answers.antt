use Rattle.std.proofs.Common.{List, is_some, sym, ap, ap₂, subst, ◌∙◌, not}
use Rattle.wgr_model.specs.Register.{Bytes, Register, Token}
use Rattle.wgr_model.specs.Steps.{Done, EndToken, IsStep, NoSuchToken, Refused, tenant_of_token}
use Rattle.wgr_model.proofs.OrderSteps.{no_token, token_ended}
use Rattle.wgr_model.proofs.RunLemmas.{step_law}
use Rattle.wgr_plain.proofs.register.Register.end_token.Goals as goal

pub returns-then-is_none : goal.returns-then-is_none
returns-then-is_none c =
    let r : Register = record { tenants = c.self.inside.tenants.items; tokens = c.self.inside.tokens.items; readers = c.self.inside.readers.items; networks = c.self.inside.networks.items } in
    let token = c.tenant_of_token.ensures ∙ ap (λ ts. tenant_of_token ts c.args.digest.now) c.deref.ensures.value in
    subst (λ (x : Register). IsStep x (EndToken c.args.digest.now) (Refused NoSuchToken) x) c.self.view_is
    (no_token r c.args.digest.now (ap is_some (sym token) ∙ c.is_none.ensures ∙ ap not c.if-is_none.true))

pub invariant_of-self : goal.invariant_of-self
invariant_of-self c =
    let r : Register = record { tenants = c.self.inside.tenants.items; tokens = c.self.inside.tokens.items; readers = c.self.inside.readers.items; networks = c.self.inside.networks.items } in
    let s : Register = record { tenants = c.self.inside.tenants.items; tokens = c.drop_token.new.tokens.items; readers = c.drop_reader.new.readers.items; networks = c.self.inside.networks.items } in
    let token = c.tenant_of_token.ensures ∙ ap (λ ts. tenant_of_token ts c.args.digest.now) c.deref.ensures.value in
    (step_law r s (EndToken c.args.digest.now) Done c.self.invariant tt
    (token_ended r c.args.digest.now (ap is_some (sym token) ∙ c.is_none.ensures ∙ ap not c.if-is_none.false) s
    (ap₂ {A = List Token} {B = List Bytes} (λ ts ds. record r { tokens = ts; readers = ds }) c.drop_token.ensures c.drop_reader.ensures))).consistent

pub returns : goal.returns
returns c =
    let r : Register = record { tenants = c.self.inside.tenants.items; tokens = c.self.inside.tokens.items; readers = c.self.inside.readers.items; networks = c.self.inside.networks.items } in
    let s : Register = record { tenants = c.self.inside.tenants.items; tokens = c.drop_token.new.tokens.items; readers = c.drop_reader.new.readers.items; networks = c.self.inside.networks.items } in
    let token = c.tenant_of_token.ensures ∙ ap (λ ts. tenant_of_token ts c.args.digest.now) c.deref.ensures.value in
    subst (λ (x : Register). IsStep x (EndToken c.args.digest.now) Done s) c.self.view_is
    (token_ended r c.args.digest.now (ap is_some (sym token) ∙ c.is_none.ensures ∙ ap not c.if-is_none.false) s
    (ap₂ {A = List Token} {B = List Bytes} (λ ts ds. record r { tokens = ts; readers = ds }) c.drop_token.ensures c.drop_reader.ensures))
