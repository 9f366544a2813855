-- The answer is the one that the tenant alone has, where it has one.
use Rattle.std.proofs.Common.{◌≡◌, ℕ, Bool, true, false, map, Some, None, Option, is_some, Result, Ok, Err, nat_eq, refl, sym, ap, subst, ◌∙◌, eqb-true}
use Rattle.std.specs.Prelude.{if◌then◌else◌}
use Rattle.std.specs.List.{IsDistinct}
use Rattle.std.specs.Ordering.{nat_cmp}
use Rattle.std.specs.Cmp.Lexicographic.{slice_cmp}
use Rattle.std.specs.FinMap as map_
use Rattle.std.specs.FinMap.{get-empty}
use Rattle.wgr_core.specs.Network.{NetworkValue}
use Rattle.wgr_core.specs.declared.command.Command.{Command}
use Rattle.wgr_core.specs.declared.refusal.CommandRefusal.{CommandRefusal}
use Rattle.wgr_core.specs.declared.reply.Reply.{Reply}
use Rattle.wgr_model.specs.Consistent.{IsConsistent}
use Rattle.std.specs.Option.{option_map}
use Rattle.wgr_model.specs.Register.{Bytes, Register, empty_view, id_of, is_same, right_of, tenant_view, view_at, view_of}
use Rattle.wgr_model.specs.Steps.{AddNetwork, AddTenant, Answer, Ask, Decided, EndNetwork, EndToken, Event, Grant, Listed, Networks, Plain, ReadOnly, act, acted, allows, ask, asked, listed, network_at, outcome, tenant_of_token}
use Rattle.wgr_model.specs.Tenants.{FitsAnswer, answer_acted, answer_allowed, answer_asked, knows, tenant_answer}
use Rattle.wgr_model.proofs.LookLemmas.{is_id}
use Rattle.wgr_model.proofs.ViewLemmas.{get_view, knows_token, right_token}

fits_if : (b : Bool) (x y : Answer) → (b ≡ true → x ≡ y) → FitsAnswer (if b then Some x else None) y
fits_if true x y h = h refl
fits_if false x y h = tt

asked_reply : (now : ℕ) (command : Command) (r : Register) (t : ℕ) (name : Bytes) (n : Option NetworkValue) → answer_asked now command n ≡ (asked now command r t name n).0
asked_reply now command r t name None = refl
asked_reply now command r t name (Some n) = of_act (act n now command) where
  of_act : (x : Result (Reply × NetworkValue) CommandRefusal) → answer_acted x ≡ (acted r t name x).0
  of_act (Ok x) = refl
  of_act (Err why) = refl

ask_fits : (r : Register) (digest name : Bytes) (now : ℕ) (command : Command) → IsDistinct is_same (map (λ t. t.digest) r.tokens) → (mine : Option ℕ) → FitsAnswer (tenant_answer (view_of r mine) (Ask digest name now command)) (ask r digest name now command (tenant_of_token r.tokens digest)).0
ask_fits r digest name now command u None = subst (λ right. FitsAnswer (option_map (λ x. answer_allowed x now command (map_.get empty_view.networks name)) right) (ask r digest name now command (tenant_of_token r.tokens digest)).0) (sym (get-empty (slice_cmp nat_cmp) digest)) tt
ask_fits r digest name now command u (Some i) =
    subst (λ right. FitsAnswer (option_map (λ x. answer_allowed x now command (map_.get (view_at r i).networks name)) right) (ask r digest name now command (tenant_of_token r.tokens digest)).0) (sym (right_token r i digest u))
    (by_token (tenant_of_token r.tokens digest)) where
      by_right : (t : ℕ) (n : Option NetworkValue) → n ≡ network_at r.networks t name → (b : Bool) → (if b then answer_asked now command n else ReadOnly) ≡ (if b then asked now command r t name (network_at r.networks t name) else (ReadOnly, r)).0
      by_right t n e true = ap (answer_asked now command) e ∙ asked_reply now command r t name (network_at r.networks t name)
      by_right t n e false = refl

      by_test : (t : ℕ) (b : Bool) → nat_eq t i ≡ b → FitsAnswer (option_map (λ x. answer_allowed x now command (map_.get (view_at r i).networks name)) (if b then Some (right_of r.readers digest) else None)) (ask r digest name now command (Some t)).0
      by_test t true e = by_right t (map_.get (view_at r i).networks name) (get_view r i name ∙ ap (λ k. network_at r.networks k name) (sym (eqb-true t i e))) (allows (right_of r.readers digest) command)
      by_test t false e = tt

      by_token : (token : Option ℕ) → FitsAnswer (option_map (λ x. answer_allowed x now command (map_.get (view_at r i).networks name)) (if is_id token i then Some (right_of r.readers digest) else None)) (ask r digest name now command token).0
      by_token None = tt
      by_token (Some t) = by_test t (nat_eq t i) refl

listed_fits : (r : Register) (digest : Bytes) → IsDistinct is_same (map (λ t. t.digest) r.tokens) → (mine : Option ℕ) → FitsAnswer (tenant_answer (view_of r mine) (Networks digest)) (listed r (tenant_of_token r.tokens digest)).0
listed_fits r digest u None = subst (λ right. FitsAnswer (if is_some right then Some (Listed (map_.entries empty_view.networks)) else None) (listed r (tenant_of_token r.tokens digest)).0) (sym (get-empty (slice_cmp nat_cmp) digest)) tt
listed_fits r digest u (Some i) =
    subst (λ b. FitsAnswer (if b then Some (Listed (map_.entries (view_at r i).networks)) else None) (listed r (tenant_of_token r.tokens digest)).0) (sym (knows_token r i digest u))
    (by_token (tenant_of_token r.tokens digest)) where
      by_token : (token : Option ℕ) → FitsAnswer (if is_id token i then Some (Listed (map_.entries (view_at r i).networks)) else None) (listed r token).0
      by_token None = tt
      by_token (Some t) = fits_if (nat_eq t i) _ _ (λ e. ap (λ k. Listed (map_.entries (view_at r k).networks)) (sym (eqb-true t i e)))

-- no tenant alone has another answer than the one given
pub step_fits : (me : Bytes) (r : Register) → IsConsistent r → (new : ℕ) (e : Event) → FitsAnswer (tenant_answer (tenant_view r me) e) (outcome r e new).0
step_fits me r good new (Decided None reply) = tt
step_fits me r good new (Decided (Some digest) reply) = fits_if (knows (tenant_view r me) digest) (Plain reply) (Plain reply) (λ _. refl)
step_fits me r good new (Ask digest name now command) = ask_fits r digest name now command good.digests (id_of r.tenants me)
step_fits me r good new (Networks digest) = listed_fits r digest good.digests (id_of r.tenants me)
step_fits me r good new (AddTenant name) = tt
step_fits me r good new (Grant tenant digest right) = tt
step_fits me r good new (EndToken digest) = tt
step_fits me r good new (AddNetwork tenant name settings) = tt
step_fits me r good new (EndNetwork tenant name) = tt
