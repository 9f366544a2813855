use Rattle.std.proofs.Common.{ℕ, Option, Some, cond, sym, ap, ◌∙◌}
use Rattle.wgr_peers.specs.Peers.{same_key}
use Rattle.wgr_peers.proofs.CollectLemmas.{holder_next}
use Rattle.wgr_peers.proofs.peer_table.numbers_by_key.Goals as goal

pub loop-peer-preserved : goal.loop-peer-preserved
loop-peer-preserved c = λ key.
    let p = c.peer-item.result in
    c.in_ok-insert.ensures.updates.0 key
    ∙ ap (λ (o : Option ℕ). cond (same_key p.key key) (Some p.number) o) (c.loop-peer.invariant key)
    ∙ sym (holder_next c.args.peers.now c.loop-peer.peer-index p key c.requires c.loop-peer-test.true c.peer-item.is)
