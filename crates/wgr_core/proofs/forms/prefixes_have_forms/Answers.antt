use Rattle.std.proofs.Common.{◌++◌, [], ◌∷◌, take, sym, ap, subst, ◌∙◌}
use Rattle.std.specs.List.{All}
use Rattle.std.proofs.lemmas.List.{take_all, take_more}
use Rattle.std.proofs.lemmas.List.Elements.{All-push}
use Rattle.wgr_text.specs.Prefix.{PrefixValue}
use Rattle.wgr_core.specs.Outcome.{IsPrefixAsked}
use Rattle.wgr_core.proofs.forms.prefixes_have_forms.Goals as goal

pub loop-prefix-preserved : goal.loop-prefix-preserved
loop-prefix-preserved c =
    let xs = c.args.allowed.now in
    let i = c.loop-prefix.prefix-index in
    let p = c.prefix-item.result in
    subst (All IsPrefixAsked) (sym (take_more xs i p c.loop-prefix-test.true ∙ ap (λ (q : PrefixValue). take i xs ++ q ∷ []) (sym c.prefix-item.is)))
    (All-push IsPrefixAsked (take i xs) p c.loop-prefix.invariant c.prefix_has_form.ensures)

pub returns : goal.returns
returns c = subst (All IsPrefixAsked) (take_all c.loop-prefix.prefix-index c.args.allowed.now c.loop-prefix-test.false) c.loop-prefix.invariant
