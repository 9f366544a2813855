use Rattle.std.proofs.Common.{◌≡◌, arith, ◌++◌, ◌∷◌, [], List, append-nil, append_assoc, map, sym, ap, ◌∙◌}
use Rattle.std.proofs.lemmas.Grind.{common_steps}
use Rattle.wgr_model.specs.Register.{Token}
use Rattle.wgr_orders.specs.declared.census.Granted.{Granted}
use Rattle.wgr_register.specs.Census.{with_right}
use Rattle.wgr_register.proofs.census.all_granted.Goals as goal

pub loop-token-preserved : goal.loop-token-preserved
loop-token-preserved c = record {
  granted = λ up.
      let f = with_right c.args.readers.now in
      let all = c.loop-token.all.items in
      let rest = c.next.new.self.rest.items in
      let x : Token = c.in-Some.token in
      let now : c.granted.result ≡ f x = c.granted.ensures up in
      c.loop-token.invariant.granted up
      ∙ ap (λ (left : List Token). all ++ map f left) c.in-Some.ensures.steps.0
      ∙ sym (append_assoc all (f x ∷ []) (map f rest))
      ∙ ap (λ (made : List Granted). made ++ map f rest) (ap (λ (y : Granted). all ++ y ∷ []) (sym {A = Granted} now) ∙ sym {A = List Granted} c.in_ok-keep_token.ensures.kept);
}

pub returns-clause-granted : goal.returns-clause-granted
returns-clause-granted c up =
    let f = with_right c.args.readers.now in
    let all = c.loop-token.all.items in
    let none : ◌≡◌ {A = List Token} c.loop-token.token-iterator.rest.items [] = grind (arith, common_steps) in
    sym (c.loop-token.invariant.granted up ∙ ap (λ (left : List Token). all ++ map f left) none ∙ append-nil all)
