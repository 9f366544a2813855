use Rattle.std.proofs.Common.{◌≡◌, List, Option, Result, Ok, Err, nat_eq, not, sym, ap, ◌∙◌, subst}
use Rattle.std.specs.Prelude.{IsOk, OnErr}
use Rattle.std.specs.List.{AllPairs, list_any}
use Rattle.wgr_peers.specs.declared.peer.Peer.{Peer}
use Rattle.wgr_peers.specs.Peers.{key_holder, put_peer, AreApart, IsApart}
use Rattle.wgr_pool.proofs.Lists.{AllPairs-filter}
use Rattle.wgr_peers.specs.PeersLeft.{peers_after, HasItsPlaces}
use Rattle.wgr_peers.proofs.LeftLemmas.{holder_left, places_left}
use Rattle.wgr_peers.proofs.peer_table.PeerTable.change.Goals as goal

pub put-requires-clause-apart : goal.put-requires-clause-apart
put-requires-clause-apart c =
    subst (AllPairs IsApart) (sym c.remove_all-in-Some-place_keyed.ensures) (AllPairs-filter IsApart (λ p. not (list_any (nat_eq p.number) c.args.gone)) c.args.self.now c.requires.apart)

never_err : {A B : Type 0} (r : Result A B) (X : Type 0) → IsOk r → OnErr r X
never_err (Ok a) X ok = tt
never_err (Err e) X ok = cc

pub returns-in-Some-place_keyed-clause-err : goal.returns-in-Some-place_keyed-clause-err
returns-in-Some-place_keyed-clause-err c =
    let p = c.in-Some.peer in
    let holds = c.in-Some-place_keyed.ensures.some in
    let left = ap (λ ps. key_holder ps p.key) c.remove_all-in-Some-place_keyed.ensures ∙ holder_left c.args.self.now c.args.gone p.number p.key c.requires.apart holds (sym c.contains.ensures ∙ c.if-not-contains.true) in
    never_err c.put.result (c.put.new.self ≡ c.args.self.now) (c.put.ensures.succeeds left (subst (λ ps. HasItsPlaces ps p) (sym c.remove_all-in-Some-place_keyed.ensures) (places_left c.args.self.now c.args.gone p (sym c.contains.ensures ∙ c.if-not-contains.true) c.in-Some-place_keyed.ensures.places)))

pub returns-in-Some-place_keyed-clause-succeeds : goal.returns-in-Some-place_keyed-clause-succeeds
returns-in-Some-place_keyed-clause-succeeds c = λ renews.
    let p = c.in-Some.peer in
    let holds = c.in-Some-place_keyed.ensures.some in
    let left = ap (λ ps. key_holder ps p.key) c.remove_all-in-Some-place_keyed.ensures ∙ holder_left c.args.self.now c.args.gone p.number p.key c.requires.apart holds (sym c.contains.ensures ∙ c.if-not-contains.true) in
    c.put.ensures.succeeds left (subst (λ ps. HasItsPlaces ps p) (sym c.remove_all-in-Some-place_keyed.ensures) (places_left c.args.self.now c.args.gone p (sym c.contains.ensures ∙ c.if-not-contains.true) c.in-Some-place_keyed.ensures.places))

pub put-requires-clause-fits : goal.put-requires-clause-fits
put-requires-clause-fits c =
    subst (λ (ps : List Peer). AreApart (put_peer ps c.in-Some.peer)) (sym c.remove_all-in-Some-place_keyed.ensures)
    (subst (λ (o : Option Peer). AreApart (peers_after c.args.self.now c.args.gone o)) c.in-Some.is c.requires.fits)

pub exchange-requires-clause-fits : goal.exchange-requires-clause-fits
exchange-requires-clause-fits c = subst (λ (o : Option Peer). AreApart (peers_after c.args.self.now c.args.gone o)) c.in-Some.is c.requires.fits
