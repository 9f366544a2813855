use Rattle.std.proofs.Common.{◌∙◌, sym, ap, subst}
use Rattle.wgr_peers.specs.Peers.{without_peer, AreApart}
use Rattle.wgr_peers.specs.PeerIndex.{IsIndexed}
use Rattle.wgr_peers.proofs.IndexLemmas.{peer_removed, peer_not_there, indexed_removed}
use Rattle.wgr_peers.proofs.peer_table.PeerTable.remove.Goals as goal

pub returns-in_default : goal.returns-in_default
returns-in_default c =
    let ends = rw c.deref.ensures.value at c.in_default.ensures in
    sym (ap (λ ps. without_peer ps c.args.number) (sym c.self.view_is) ∙ peer_not_there c.self.inside.peers.items c.args.number c.in_default.field-0 c.self.invariant.in_order ends ∙ c.self.view_is)

pub invariant_of-self : goal.invariant_of-self
invariant_of-self c =
    let p = c.index-peer.result.now in
    let ends = rw c.deref.ensures.value at c.in-Ok.ensures in
    subst (λ ps. IsIndexed ps c.remove.new.self c.remove_addresses.new.addresses c.remove_addresses.new.seconds c.self.inside.soonest_end) (sym c.remove-2.ensures.items)
    (indexed_removed c.self.inside.peers.items c.self.inside.numbers c.remove.new.self c.self.inside.addresses c.remove_addresses.new.addresses c.self.inside.seconds c.remove_addresses.new.seconds _ c.args.number c.in-Ok.place p c.self.invariant
    (subst AreApart (sym c.self.view_is) c.requires) ends c.index-peer.ensures c.remove.ensures.updates.0 c.remove_addresses.ensures.first c.remove_addresses.ensures.second)

pub returns : goal.returns
returns c =
    let ends = rw c.deref.ensures.value at c.in-Ok.ensures in
    c.remove-2.ensures.items ∙ sym (peer_removed c.self.inside.peers.items c.args.number c.in-Ok.place c.self.invariant.in_order ends) ∙ ap (λ ps. without_peer ps c.args.number) c.self.view_is
