use Rattle.std.proofs.Common.{◌≡◌, ◌∷◌, ◌++◌, [], List, length, take, sym, ap, ◌∙◌, arith}
use Rattle.std.proofs.lemmas.List.{length-take-le}
use Rattle.wgr_peers.specs.declared.peer.Peer.{Peer}
use Rattle.wgr_peers.proofs.CollectLemmas.{take_next}
use Rattle.wgr_core.specs.Draft.{altered, was_there}
use Rattle.wgr_core.proofs.AlteredLemmas.{altered_new, altered_same}
use Rattle.wgr_core.proofs.draft.altered.Goals as goal
use Rattle.wgr_core.proofs.draft.altered.Goals.{then-not-was_there+in_ok-copy+in_ok-push, else-not-was_there}

pub loop-place-preserved : goal.loop-place-preserved
loop-place-preserved c =
    let start = c.args.start.now in
    let peers = c.args.peers.now in
    let place = c.loop-place.place in
    let p = c.index-peers-place.result in
    let so_far = take place peers in
    let next = take_next peers place p c.loop-place-test.true c.index-peers-place.is in
    let at = length-take-le place peers (omega (arith, c.loop-place-test.true)) in
    let there : was_there start (length so_far) p ≡ c.was_there.result = ap (λ k. was_there start k p) at ∙ sym c.was_there.ensures in
    elim c.if-not-was_there.branch [
      | then-not-was_there+in_ok-copy+in_ok-push w ↦
          ap (λ those. those.items) w.those-is
          ∙ w.in_ok-push.ensures.items
          ∙ ap (λ (q : Peer). c.loop-place.those.items ++ q ∷ []) w.in_ok-copy.ensures
          ∙ ap (λ (ps : List Peer). ps ++ p ∷ []) c.loop-place.invariant
          ∙ sym (altered_new start so_far p (there ∙ w.if-not-was_there.true))
          ∙ ap (altered start) (sym next)
      | else-not-was_there w ↦
          ap (λ those. those.items) w.those-is
          ∙ c.loop-place.invariant
          ∙ sym (altered_same start so_far p (there ∙ w.if-not-was_there.false))
          ∙ ap (altered start) (sym next)
    ]
