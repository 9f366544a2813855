use Rattle.std.proofs.Common.{◌≡◌, true, false, is_some, refl, sym, ap, ◌∙◌, subst, Option, Some, None}
use Rattle.std.specs.Prelude.{IfSome}
use Rattle.wgr_text.specs.Prefix.{AddrValue, IsAddr}
use Rattle.wgr_pool.specs.PrefixTests.{same_address}
use Rattle.wgr_pool.specs.Spans.{IsHeld}
use Rattle.wgr_pool.proofs.Bools.{or_left}
use Rattle.wgr_pool.proofs.Lists.{list_any-some}
use Rattle.wgr_pool.proofs.PrefixLemmas.{same_address_self}
use Rattle.wgr_peers.specs.declared.peer.Peer.{Peer}
use Rattle.wgr_peers.specs.Peers.{is_first, is_second, is_there, put_peer, AreApart}
use Rattle.wgr_peers.specs.PeerIndex.{IsKeyedAt}
use Rattle.wgr_peers.proofs.IndexLemmas.{keyed_place, indexed_moved}
use Rattle.wgr_peers.proofs.peer_table.PeerTable.replace.Goals as goal

pub move_addresses-requires-clause-first : goal.move_addresses-requires-clause-first
move_addresses-requires-clause-first c = λ fits.
    let items = c.self.inside.peers.items in
    let q = c.index-left.result.now in
    let keyed = subst (λ ps. IsKeyedAt ps c.args.peer c.args.place) (sym c.self.view_is) c.requires.keyed in
    let own = list_any-some (λ (p : Peer). is_first p q.address) items c.args.place q keyed.within (ap (λ (p : Peer). is_first p q.address) (sym c.index-left.ensures) ∙ same_address_self q.address) in
    (c.self.invariant.by_address q.address fits).1 own

pub move_addresses-requires-clause-second : goal.move_addresses-requires-clause-second
move_addresses-requires-clause-second c = by c.index-left.result.now.second refl
  where
    by : (o : Option AddrValue) → c.index-left.result.now.second ≡ o → IfSome o (λ a. IsAddr a → IsHeld c.self.inside.seconds a)
    by None is = tt
    by (Some a) is = λ fits.
        let items = c.self.inside.peers.items in
        let q = c.index-left.result.now in
        let keyed = subst (λ ps. IsKeyedAt ps c.args.peer c.args.place) (sym c.self.view_is) c.requires.keyed in
        let mine : is_second q a ≡ true = ap (λ s. is_there s a) is ∙ or_left (same_address a a) false (same_address_self a) in
        let own = list_any-some (λ (p : Peer). is_second p a) items c.args.place q keyed.within (ap (λ (p : Peer). is_second p a) (sym c.index-left.ensures) ∙ mine) in
        (c.self.invariant.by_second a fits).1 own

pub move_addresses-requires-clause-place : goal.move_addresses-requires-clause-place
move_addresses-requires-clause-place c = λ second.
    let items = c.self.inside.peers.items in
    let q = c.index-left.result.now in
    let keyed = subst (λ ps. IsKeyedAt ps c.args.peer c.args.place) (sym c.self.view_is) c.requires.keyed in
    ap (λ (p : Peer). is_some p.second) c.index-left.ensures ∙ keyed.places second q

pub invariant_of-self : goal.invariant_of-self
invariant_of-self c =
    let items = c.self.inside.peers.items in
    let p = c.args.peer in
    let keyed = subst (λ ps. IsKeyedAt ps p c.args.place) (sym c.self.view_is) c.requires.keyed in
    let apart = subst AreApart (sym c.self.view_is) c.requires.apart in
    indexed_moved items c.self.inside.numbers c.self.inside.addresses c.move_addresses.new.addresses c.self.inside.seconds c.move_addresses.new.seconds _ _ p c.index-left.result.now c.args.place c.self.invariant apart keyed c.index-left.ensures
    c.move_addresses.ensures.first c.move_addresses.ensures.second c.sooner-self-inside.ensures.at_most c.sooner-self-inside.ensures.ends

pub returns : goal.returns
returns c =
    let items = c.self.inside.peers.items in
    let keyed = subst (λ ps. IsKeyedAt ps c.args.peer c.args.place) (sym c.self.view_is) c.requires.keyed in
    sym (keyed_place items c.args.peer c.args.place c.self.invariant.in_order keyed) ∙ ap (λ ps. put_peer ps c.args.peer) c.self.view_is
