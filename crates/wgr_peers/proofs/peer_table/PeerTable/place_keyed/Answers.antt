use Rattle.std.proofs.Common.{◌≡◌, Some, None, true, false, sym, ap, ◌∙◌, subst}
use Rattle.wgr_peers.specs.declared.peer.Peer.{Peer}
use Rattle.std.specs.Prelude.{is_some, IfSome}
use Rattle.wgr_peers.specs.Peers.{key_holder, peer_of, same_key, AreApart}
use Rattle.wgr_peers.proofs.IndexLemmas.{search_found, search_absent}
use Rattle.wgr_peers.proofs.LeftLemmas.{keyed_by, holds_own}
use Rattle.wgr_peers.proofs.peer_table.PeerTable.place_keyed.Goals as goal

pub returns-in_default-clause-none : goal.returns-in_default-clause-none
returns-in_default-clause-none c = λ holds has.
    let items = c.self.inside.peers.items in
    let p = c.args.peer.now in
    let q = c.index.result.now in
    let keyed = keyed_by items p.number p.key c.self.invariant.in_order (ap (λ ps. key_holder ps p.key) c.self.view_is ∙ holds) in
    let ends = rw c.deref.ensures.value at c.in-Ok.ensures in
    let found = search_found items p.number c.in-Ok.place q c.self.invariant.in_order ends c.index.ensures in
    let some : Some q ≡ Some keyed.0 = sym found ∙ keyed.1 in
    let is : q ≡ keyed.0 = cc in
    let at : peer_of c.args.self.now p.number ≡ Some q = ap (λ ps. peer_of ps p.number) (sym c.self.view_is) ∙ found in
    let fits = c.has_place_for.ensures.1 (ap (λ (x : Peer). same_key x.key p.key) is ∙ keyed.2, (λ second. subst (λ o. IfSome o (λ (x : Peer). is_some x.second ≡ true)) at (has second))) in
    let bad : true ≡ false = sym fits ∙ c.if-has_place_for.false in
    cc

pub returns-in_default-2-clause-none : goal.returns-in_default-2-clause-none
returns-in_default-2-clause-none c = λ holds has.
    let items = c.self.inside.peers.items in
    let p = c.args.peer.now in
    let keyed = keyed_by items p.number p.key c.self.invariant.in_order (ap (λ ps. key_holder ps p.key) c.self.view_is ∙ holds) in
    let ends = rw c.deref.ensures.value at c.in_default.ensures in
    let none = search_absent items p.number _ c.self.invariant.in_order ends in
    let bad : None ≡ Some keyed.0 = sym none ∙ keyed.1 in
    cc

pub returns-in-Ok-clause-some : goal.returns-in-Ok-clause-some
returns-in-Ok-clause-some c =
    let items = c.self.inside.peers.items in
    let p = c.args.peer.now in
    let q = c.index.result.now in
    let ends = rw c.deref.ensures.value at c.in-Ok.ensures in
    let found = search_found items p.number c.in-Ok.place q c.self.invariant.in_order ends c.index.ensures in
    ap (λ ps. key_holder ps p.key) (sym c.self.view_is) ∙ holds_own items p.number q p.key (subst AreApart (sym c.self.view_is) c.requires) found (c.has_place_for.ensures.0 c.if-has_place_for.true).0

pub returns-in-Ok-clause-places : goal.returns-in-Ok-clause-places
returns-in-Ok-clause-places c = λ second.
    let items = c.self.inside.peers.items in
    let p = c.args.peer.now in
    let q = c.index.result.now in
    let ends = rw c.deref.ensures.value at c.in-Ok.ensures in
    let found = search_found items p.number c.in-Ok.place q c.self.invariant.in_order ends c.index.ensures in
    let at : peer_of c.args.self.now p.number ≡ Some q = ap (λ ps. peer_of ps p.number) (sym c.self.view_is) ∙ found in
    subst (λ o. IfSome o (λ (x : Peer). is_some x.second ≡ true)) (sym at) ((c.has_place_for.ensures.0 c.if-has_place_for.true).1 second)
