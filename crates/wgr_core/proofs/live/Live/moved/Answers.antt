use Rattle.std.proofs.Common.{rules, ◌≡◌, false, None, Some, Ok, Err, refl, sym, ap, ◌∙◌, subst}
use Rattle.wgr_text.specs.Prefix.{PrefixValue}
use Rattle.wgr_peers.specs.declared.peer.Peer.{Peer}
use Rattle.wgr_core.specs.declared.fault.ActFault.TheVariants.{Refused}
use Rattle.wgr_peers.specs.Peers.{peer_of}
use Rattle.wgr_core.specs.Outcome.{move, replaced, vacated}
use Rattle.wgr_core.specs.Refusals.{of_command, place}
use Rattle.wgr_core.specs.Change.{MeetsLive}
use Rattle.wgr_core.proofs.MoveLemmas.{move_by}
use Rattle.wgr_peers.proofs.PeerLemmas.{peer_number}
use Rattle.wgr_core.proofs.live.Live.moved.Goals as goal

pub place-requires-clause-stands : goal.place-requires-clause-stands
place-requires-clause-stands c =
    let n = c.args.self.now in
    let p = c.in-Some.peer.now in
    let found : peer_of n.peers c.args.number ≡ Some p = sym c.in-Some.ensures in
    subst (λ m. peer_of n.peers m ≡ Some p) (sym (peer_number n.peers c.args.number p found)) found

pub returns-in_err-address : goal.returns-in_err-address
returns-in_err-address c =
    let n = c.args.self.now in
    let p = c.in-Some.peer.now in
    let why = c.in_err-address.field-0.0 in
    let found : peer_of n.peers c.args.number ≡ Some p = sym c.in-Some.ensures in
    let is = move_by n c.args.number p c.args.wanted (Err why) found (ap (λ (pool : PrefixValue). place (vacated n (Some p.number)) pool c.args.wanted) (sym c.pool.ensures.value) ∙ sym c.in_err-address.ensures) in
    let met : MeetsLive false None n c.args.removed (Err (Refused (of_command why))) (move n c.args.number c.args.wanted) = subst (MeetsLive false None n c.args.removed (Err (Refused (of_command why)))) (sym is) refl in
    search rules

pub returns : goal.returns
returns c =
    let n = c.args.self.now in
    let p = c.in-Some.peer.now in
    let a = c.in_ok-address.address in
    let found : peer_of n.peers c.args.number ≡ Some p = sym c.in-Some.ensures in
    let is = move_by n c.args.number p c.args.wanted (Ok a) found (ap (λ (pool : PrefixValue). place (vacated n (Some p.number)) pool c.args.wanted) (sym c.pool.ensures.value) ∙ sym c.in_ok-address.ensures) in
    let same : replaced n (record c.in_ok-moved.moved { address = a }) ≡ replaced n (record p { address = a }) = ap (λ (q : Peer). replaced n (record q { address = a })) c.in_ok-moved.ensures in
    subst (MeetsLive false None n c.args.removed c.replaced.result) (same ∙ sym is) c.replaced.ensures
