use Rattle.std.proofs.Common.{◌∙◌}
use Rattle.wgr_tables.specs.TableSteps.{PeerComes}
use Rattle.wgr_tables.specs.Stops.{PeerStaysOut}
use Rattle.wgr_tables.proofs.Loops.{item_hands_on, one_more, taken}
use Rattle.wgr_tables.proofs.enter.add_peers.Goals as goal

pub loop-peer-preserved : goal.loop-peer-preserved
loop-peer-preserved g c = (
  c.add_peer.ensures.same_reference ∙ c.loop-peer.invariant.0,
  one_more (PeerComes c.args.network) c.args.peers.now _ _ (taken _ _ _ c.loop-peer-test.true c.peer-item.is) _ _ _ c.loop-peer.invariant.1 c.add_peer.ensures.survives
      c.in_ok-add_peer.field-0 (λ clean. c.in_ok-add_peer.ensures.step clean),
)

pub returns-in_err-add_peer-clause-cause : goal.returns-in_err-add_peer-clause-cause
returns-in_err-add_peer-clause-cause g c =
    item_hands_on (PeerComes c.args.network) c.args.peers.now _ _ (taken _ _ _ c.loop-peer-test.true c.peer-item.is) _ _ _ c.loop-peer.invariant.1 c.add_peer.ensures.survives
    (PeerStaysOut c.args.network) c.from_residual.result c.in_err-add_peer.field-0.0 c.from_residual.ensures.1 c.in_err-add_peer.ensures.cause
