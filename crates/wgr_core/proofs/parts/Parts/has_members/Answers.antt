use Rattle.std.proofs.Common.{◌≡◌, refl, subst, length, arith}
use Rattle.std.specs.List.{All, AllWithin}
use Rattle.std.proofs.lemmas.List.Elements.{AllWithin-more, All-from_all_within}
use Rattle.wgr_core.specs.Network.{IsMember}
use Rattle.wgr_core.specs.Parts.{network_of}
use Rattle.wgr_core.proofs.PartsLemmas.{holds_at}
use Rattle.wgr_core.proofs.parts.Parts.has_members.Goals as goal

pub loop-peer-preserved : goal.loop-peer-preserved
loop-peer-preserved c =
    let peers = c.deref-peer-items.result.now in
    let i = c.loop-peer.peer-index in
    let P = IsMember (network_of c.args.self.now) in
    let here = c.is_member.ensures.0 c.if-not-is_member.false in (
      AllWithin-more P peers 0 i c.loop-peer.invariant.0 (holds_at P peers i c.peer-item.result here c.loop-peer-test.true c.peer-item.is),
      c.loop-peer.invariant.1,
    )

pub returns : goal.returns
returns c =
    let peers = c.deref-peer-items.result.now in
    let P = IsMember (network_of c.args.self.now) in
    let whole : c.loop-peer.peer-index ≡ length peers = omega (arith, c.loop-peer-test.false, c.loop-peer.auto.peer-index-end) in (
      (λ h. subst (All P) c.loop-peer.invariant.1 (All-from_all_within P peers (subst (AllWithin P peers 0) whole c.loop-peer.invariant.0))),
      (λ all. refl),
    )
