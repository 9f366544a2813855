use Rattle.std.proofs.Common.{◌≡◌, not, cond, false, Some, ap, ◌∙◌, sym, subst, option_map}
use Rattle.std.specs.Prelude.{IfSome}
use Rattle.wgr_peers.specs.Peers.{is_own, peer_of}
use Rattle.wgr_core.specs.Outcome.{vacated}
use Rattle.wgr_peers.proofs.PeerLemmas.{own_without}
use Rattle.wgr_core.proofs.live.Live.is_others.Goals as goal

pub returns-then-not-is_at : goal.returns-then-not-is_at
returns-then-not-is_at c =
    let n = c.args.self.now in
    let p = c.in-Some.peer.now in
    let a = c.args.address.now in
    let is = c.rules_hold.ensures in
    let stands : peer_of n.peers p.number ≡ Some p = subst (λ m. IfSome m (λ q. peer_of n.peers q.now.number ≡ Some q.now)) c.in-Some.is c.requires in
    c.owns-then-not-is_at.ensures
    ∙ sym (ap (λ b. cond b false (is_own n.peers a)) (sym c.is_at.ensures ∙ c.if-not-is_at.true))
    ∙ sym (own_without n.peers p.number p a is.numbered is.apart stands)
    ∙ ap (λ m. is_own (vacated n (option_map (λ q. q.now.number) m)).peers a) (sym c.in-Some.is)

pub returns-else-not-is_at : goal.returns-else-not-is_at
returns-else-not-is_at c =
    let n = c.args.self.now in
    let p = c.in-Some.peer.now in
    let a = c.args.address.now in
    let is = c.rules_hold.ensures in
    let stands : peer_of n.peers p.number ≡ Some p = subst (λ m. IfSome m (λ q. peer_of n.peers q.now.number ≡ Some q.now)) c.in-Some.is c.requires in
    ap not c.if-not-is_at.false
    ∙ sym (ap (λ b. cond b false (is_own n.peers a)) (sym c.is_at.ensures ∙ c.if-not-is_at.false))
    ∙ sym (own_without n.peers p.number p a is.numbered is.apart stands)
    ∙ ap (λ m. is_own (vacated n (option_map (λ q. q.now.number) m)).peers a) (sym c.in-Some.is)
