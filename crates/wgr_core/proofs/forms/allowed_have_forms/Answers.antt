use Rattle.std.proofs.Common.{◌++◌, [], ◌∷◌, take, sym, ap, subst, ◌∙◌}
use Rattle.std.specs.List.{All}
use Rattle.std.proofs.lemmas.List.{take_more}
use Rattle.std.proofs.lemmas.List.Elements.{All-push}
use Rattle.wgr_core.specs.declared.seen_peer.SeenPeer.{SeenPeer}
use Rattle.wgr_core.specs.Outcome.{AreLinesAsked, IsPrefixAsked}
use Rattle.wgr_core.proofs.forms.allowed_have_forms.Goals as goal

pub loop-line-preserved : goal.loop-line-preserved
loop-line-preserved c =
    let xs = c.args.lines.now in
    let i = c.loop-line.line-index in
    let line = c.line-item.result in
    subst AreLinesAsked (sym (take_more xs i line c.loop-line-test.true ∙ ap (λ (l : SeenPeer). take i xs ++ l ∷ []) (sym c.line-item.is)))
    (All-push (λ (line : SeenPeer). All IsPrefixAsked line.allowed) (take i xs) line c.loop-line.invariant (subst (All IsPrefixAsked) c.as_slice.ensures c.prefixes_have_forms.ensures))
