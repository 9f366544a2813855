use Rattle.std.proofs.Common.{◌++◌, [], ◌∷◌, take, sym, ap, subst, ◌∙◌}
use Rattle.std.specs.List.{All}
use Rattle.std.proofs.lemmas.List.{take_more}
use Rattle.std.proofs.lemmas.List.Elements.{All-push}
use Rattle.wgr_peers.specs.declared.peer.Peer.{Peer}
use Rattle.wgr_core.specs.Forms.{IsPeerFormed}
use Rattle.wgr_core.proofs.forms.peers_have_forms.Goals as goal

pub loop-peer-preserved : goal.loop-peer-preserved
loop-peer-preserved c =
    let xs = c.args.peers.now in
    let i = c.loop-peer.peer-index in
    let peer = c.peer-item.result in
    subst (All IsPeerFormed) (sym (take_more xs i peer c.loop-peer-test.true ∙ ap (λ (l : Peer). take i xs ++ l ∷ []) (sym c.peer-item.is))) (All-push IsPeerFormed (take i xs) peer c.loop-peer.invariant c.peer_has_form.ensures)
