use Rattle.std.proofs.Common.{nat_eq, nat_lt, Ok, Err, List, sym, subst, ◌∙◌}
use Rattle.wgr_peers.specs.declared.peer.Peer.{Peer}
use Rattle.wgr_peers.specs.Ordered.{EndsAt}
use Rattle.wgr_core.proofs.LineAsks.{keyed_is, keyed_none, placed_peer, unplaced_peer}
use Rattle.wgr_core.proofs.line.keyed_place.Goals as goal

pub returns-in-Ok-clause-value : goal.returns-in-Ok-clause-value
returns-in-Ok-clause-value c =
    let peers = c.args.peers.now in
    let number = c.in-Some.number in
    let pairs = c.as_slice.ensures.numbered in
    let ends = subst (λ (ps : List Peer). EndsAt (λ (p : Peer). nat_lt p.number number) (λ p. nat_eq p.number number) ps (Ok c.in-Ok.place)) c.as_slice.ensures.value c.in-Ok.ensures in
    λ d. keyed_is peers c.args.key.now number pairs (sym c.in-Some.ensures) ∙ placed_peer peers number c.in-Ok.place d pairs ends

pub returns-in-Err-clause-value : goal.returns-in-Err-clause-value
returns-in-Err-clause-value c =
    let peers = c.args.peers.now in
    let number = c.in-Some.number in
    let pairs = c.as_slice.ensures.numbered in
    let ends = subst (λ (ps : List Peer). EndsAt (λ (p : Peer). nat_lt p.number number) (λ p. nat_eq p.number number) ps (Err c.in-Err.field-0)) c.as_slice.ensures.value c.in-Err.ensures in
    λ d. keyed_is peers c.args.key.now number pairs (sym c.in-Some.ensures) ∙ unplaced_peer peers number c.in-Err.field-0 pairs ends

pub returns-in-None-clause-value : goal.returns-in-None-clause-value
returns-in-None-clause-value c = λ d. keyed_none c.args.peers.now c.args.key.now (sym c.in-None.ensures)
