use Rattle.std.proofs.Common.{◌≡◌, true, false, sym, subst, ◌∙◌, nat_eq, nat_lt}
use Rattle.std.specs.Prelude.{IsSome}
use Rattle.std.specs.List.{AllPairs}
use Rattle.wgr_peers.specs.Peers.{IsNumberedBelow}
use Rattle.wgr_peers.proofs.OrderedLemmas.{put_found, put_absent, put_pairs}
use Rattle.wgr_peers.proofs.IndexLemmas.{search_absent}
use Rattle.wgr_peers.proofs.PlaceLemmas.{peers_placed}
use Rattle.wgr_peers.proofs.order.put_peer.Goals as goal

pub returns-in-Ok-clause-put : goal.returns-in-Ok-clause-put
returns-in-Ok-clause-put c =
    let p = c.args.peer in
    let ends = rw c.deref.ensures.value at c.in-Ok.ensures in
    sym (put_found (λ q. nat_lt q.number p.number) (λ q. nat_eq q.number p.number) c.args.peers.now.items p c.in-Ok.place ends)

pub returns-in-Ok-clause-numbered : goal.returns-in-Ok-clause-numbered
returns-in-Ok-clause-numbered c =
    let p = c.args.peer in
    subst (AllPairs IsNumberedBelow) (sym (returns-in-Ok-clause-put c))
    (put_pairs IsNumberedBelow (λ q. Unit {0}) (λ q. nat_lt q.number p.number) (λ q. nat_eq q.number p.number) c.args.peers.now.items p (peers_placed p) (λ k d h. tt) c.requires)

pub returns-in_ok-insert-in-Err-clause-put : goal.returns-in_ok-insert-in-Err-clause-put
returns-in_ok-insert-in-Err-clause-put c =
    let p = c.args.peer in
    let ends = rw c.deref.ensures.value at c.in-Err.ensures in
    c.in_ok-insert-in-Err.ensures.items ∙ sym (put_absent (λ q. nat_lt q.number p.number) (λ q. nat_eq q.number p.number) c.args.peers.now.items p c.in-Err.place ends)

pub returns-in_ok-insert-in-Err-clause-numbered : goal.returns-in_ok-insert-in-Err-clause-numbered
returns-in_ok-insert-in-Err-clause-numbered c =
    let p = c.args.peer in
    subst (AllPairs IsNumberedBelow) (sym (returns-in_ok-insert-in-Err-clause-put c))
    (put_pairs IsNumberedBelow (λ q. Unit {0}) (λ q. nat_lt q.number p.number) (λ q. nat_eq q.number p.number) c.args.peers.now.items p (peers_placed p) (λ k d h. tt) c.requires)

pub returns-in_err-insert-in-Err-clause-succeeds : goal.returns-in_err-insert-in-Err-clause-succeeds
returns-in_err-insert-in-Err-clause-succeeds c = λ some.
    let ends = rw c.deref.ensures.value at c.in-Err.ensures in
    let bad : false ≡ true = subst IsSome (search_absent c.args.peers.now.items c.args.peer.number c.in-Err.place c.requires ends) some in cc
