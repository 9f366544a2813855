use Rattle.std.proofs.Common.{◌∙◌}
use Rattle.std.proofs.lemmas.List.{take_more}
use Rattle.wgr_tables.specs.TableSteps.{PeerLeaves}
use Rattle.wgr_tables.specs.Stops.{PeerStays}
use Rattle.wgr_tables.proofs.Loops.{item_hands_on, one_more}
use Rattle.wgr_tables.proofs.leave.remove_peers.Goals as goal

pub loop-number-preserved : goal.loop-number-preserved
loop-number-preserved g c = (
  c.remove_peer.ensures.same_reference ∙ c.loop-number.invariant.0,
  one_more (PeerLeaves c.args.network) c.args.numbers.now _ _ (take_more c.args.numbers.now _ 0 c.loop-number-test.true) _ _ _ c.loop-number.invariant.1 c.remove_peer.ensures.survives
      c.in_ok-remove_peer.field-0 (λ clean. c.in_ok-remove_peer.ensures.step clean),
)

pub returns-in_err-remove_peer-clause-cause : goal.returns-in_err-remove_peer-clause-cause
returns-in_err-remove_peer-clause-cause g c =
    item_hands_on (PeerLeaves c.args.network) c.args.numbers.now _ _ (take_more c.args.numbers.now _ 0 c.loop-number-test.true) _ _ _ c.loop-number.invariant.1 c.remove_peer.ensures.survives
    (PeerStays c.args.network) c.from_residual.result c.in_err-remove_peer.field-0.0 c.from_residual.ensures.1 c.in_err-remove_peer.ensures.cause
