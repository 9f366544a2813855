use Rattle.std.proofs.Common.{◌∙◌, sym, ap, rules, Some}
use Rattle.std.specs.Prelude.{Ok, Err}
use Rattle.std.proofs.lemmas.List.Sorted.{answers_always}
use Rattle.wgr_peers.specs.Peers.{peer_of}
use Rattle.wgr_peers.proofs.TableLemmas.{searched}
use Rattle.wgr_peers.proofs.peer_table.PeerTable.peer.Goals as goal

pub returns-in-Ok : goal.returns-in-Ok
returns-in-Ok c =
    let facts = c.in-Ok.ensures in
    let by_key = rw c.deref.ensures.value at (facts.position (λ peer. peer.number) (answers_always _ _ _ (λ f a r g called. search rules))) in
    let ends = searched c.self.inside.peers.items c.args.number (Ok c.in-Ok.place) c.self.invariant.in_order (rw c.deref.ensures.value at facts.bound) by_key in
    ap Some c.index.ensures ∙ sym (ends.found c.index.result.now) ∙ ap (λ ps. peer_of ps c.args.number) c.self.view_is

pub returns-in-Err : goal.returns-in-Err
returns-in-Err c =
    let facts = c.in-Err.ensures in
    let by_key = rw c.deref.ensures.value at (facts.position (λ peer. peer.number) (answers_always _ _ _ (λ f a r g called. search rules))) in
    let ends = searched c.self.inside.peers.items c.args.number (Err c.in-Err.field-0) c.self.invariant.in_order (rw c.deref.ensures.value at facts.bound) by_key in
    sym ends.absent ∙ ap (λ ps. peer_of ps c.args.number) c.self.view_is
