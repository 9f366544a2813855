use Rattle.std.proofs.Common.{ℕ, ◌+◌, List, drop, sym, ap, ◌∙◌}
use Rattle.std.specs.Prelude.{option_map}
use Rattle.wgr_text.specs.Prefix.{PrefixValue}
use Rattle.wgr_peers.specs.declared.peer.Peer.{Peer}
use Rattle.wgr_core.specs.Owner.{longest_match, own_prefixes}
use Rattle.wgr_pool.proofs.Lists.{drop_next}
use Rattle.wgr_core.proofs.OwnerLemmas.{own_here}
use Rattle.wgr_core.proofs.owner.own_holder.Goals as goal

pub returns-then-is_same : goal.returns-then-is_same
returns-then-is_same c =
    let a = c.args.address.now in
    let p = c.peer-item.result in
    let rest = drop_next c.args.peers.now c.loop-peer.peer-index p c.loop-peer-test.true c.peer-item.is in
    let here = own_here p (drop (c.loop-peer.peer-index + 1) c.args.peers.now) a (sym c.if-is_same.ensures) in
    sym (ap (option_map (λ (r : PrefixValue × ℕ). r.1)) (sym c.loop-peer.invariant ∙ ap (λ (ps : List Peer). longest_match (own_prefixes ps) a) rest ∙ here))
