use Rattle.std.proofs.Common.{◌∙◌, sym, ap, subst, nat_eq, not, List}
use Rattle.std.specs.HashSet.{contains}
use Rattle.std.specs.List.{AllPairs, filter}
use Rattle.wgr_peers.specs.declared.peer.Peer.{Peer}
use Rattle.wgr_peers.specs.Peers.{IsNumberedBelow}
use Rattle.wgr_core.specs.Network.{is_among}
use Rattle.wgr_core.specs.Change.{put_peers}
use Rattle.wgr_pool.proofs.Lists.{AllPairs-filter}
use Rattle.wgr_core.proofs.ApplyLemmas.{kept_peers}
use Rattle.wgr_core.proofs.change.Change.changed_peers.Goals as goal

pub loop-peer-init : goal.loop-peer-init
loop-peer-init c =
    let n = c.args.network.now in
    let stays = λ (p : Peer). not (is_among c.args.self.now.removed p.number) in
    let has = contains nat_eq c.args.removed.now in
    let kept = c.in_ok-peers.ensures ∙ ap (filter (λ (p : Peer). not (has p.number))) c.peers.ensures ∙ kept_peers c.args.self.now.removed has n.peers c.requires in
    record {
      left = ap (λ (ps : List Peer). put_peers ps c.as_slice-peer-items.result.now) kept ∙ ap (put_peers (filter stays n.peers)) c.as_slice-peer-items.ensures;
      numbered = subst (AllPairs IsNumberedBelow) (sym kept) (AllPairs-filter IsNumberedBelow stays n.peers c.rules_hold.ensures.numbered);
    }
