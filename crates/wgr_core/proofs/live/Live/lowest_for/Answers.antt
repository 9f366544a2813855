use Rattle.std.proofs.Common.{◌≡◌, cond, Some, ap, ap₂, ◌∙◌, sym, subst, option_map}
use Rattle.std.specs.Prelude.{IfSome}
use Rattle.wgr_pool.specs.Allot.{lower}
use Rattle.wgr_pool.specs.HeldSpans.{is_routed}
use Rattle.wgr_peers.specs.Peers.{peer_of}
use Rattle.wgr_core.specs.Network.{lowest_free}
use Rattle.wgr_core.specs.Outcome.{vacated}
use Rattle.wgr_core.proofs.FreedLemmas.{mover_given}
use Rattle.wgr_core.proofs.MoveLemmas.{own_in_pool}
use Rattle.wgr_core.proofs.live.Live.lowest_for.Goals as goal

pub or_freed-requires : goal.or_freed-requires
or_freed-requires c =
    let n = c.args.self.now in
    let p = c.in-Some.peer.now in
    let stands : peer_of n.peers p.number ≡ Some p = subst (λ m. IfSome m (λ q. peer_of n.peers q.now.number ≡ Some q.now)) c.in-Some.is c.requires.stands in
    own_in_pool n p c.lowest_free-lowest.ensures.rules stands

pub returns : goal.returns
returns c =
    let n = c.args.self.now in
    let p = c.in-Some.peer.now in
    let stands : peer_of n.peers p.number ≡ Some p = subst (λ m. IfSome m (λ q. peer_of n.peers q.now.number ≡ Some q.now)) c.in-Some.is c.requires.stands in
    c.or_freed.ensures
    ∙ ap (λ o. cond (is_routed n.pool n.routes p.address) o (Some (lower o p.address))) (c.lowest_free-lowest.ensures.value ∙ ap (lowest_free n) c.requires.own)
    ∙ mover_given n p c.lowest_free-lowest.ensures.rules stands
    ∙ ap₂ (λ m pool. lowest_free (vacated n (option_map (λ q. q.now.number) m)) pool) (sym c.in-Some.is) (sym c.requires.own)
