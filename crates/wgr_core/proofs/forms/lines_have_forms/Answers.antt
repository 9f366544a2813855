use Rattle.std.proofs.Common.{◌++◌, [], ◌∷◌, take, sym, ap, subst, ◌∙◌}
use Rattle.std.specs.List.{All}
use Rattle.std.proofs.lemmas.List.{take_more}
use Rattle.std.proofs.lemmas.List.Elements.{All-push}
use Rattle.wgr_core.specs.declared.seen_peer.SeenPeer.{SeenPeer}
use Rattle.wgr_core.specs.Forms.{IsFormedLine}
use Rattle.wgr_core.proofs.forms.lines_have_forms.Goals as goal

pub loop-line-preserved : goal.loop-line-preserved
loop-line-preserved c =
    let xs = c.args.lines.now in
    let i = c.loop-line.line-index in
    let line = c.line-item.result in
    subst (All IsFormedLine) (sym (take_more xs i line c.loop-line-test.true ∙ ap (λ (l : SeenPeer). take i xs ++ l ∷ []) (sym c.line-item.is))) (All-push IsFormedLine (take i xs) line c.loop-line.invariant c.line_has_form.ensures)
