use Rattle.std.proofs.Common.{ℕ, List, Option, None, take, get_or, cond, sym, ap, ◌∙◌, arith}
use Rattle.std.specs.HashMap.{HashMap, get, spare}
use Rattle.std.specs.declared.hash.FoldHasher.{FoldHasher}
use Rattle.std.specs.declared.hash.BuildHasherDefault.{BuildHasherDefault}
use Rattle.wgr_text.specs.declared.key.Key.{Key}
use Rattle.std.proofs.lemmas.List.{get_or_default}
use Rattle.wgr_peers.specs.declared.peer.Peer.{Peer}
use Rattle.wgr_peers.specs.Peers.{key_holder, same_key}
use Rattle.wgr_peers.specs.PeersLeft.{peers_left}
use Rattle.wgr_pool.proofs.Lists.{filter_all}
use Rattle.wgr_peers.proofs.CollectLemmas.{take_next}
use Rattle.wgr_peers.proofs.IndexLemmas.{search_found, search_absent}
use Rattle.wgr_peers.proofs.LeftLemmas.{holder_without, holder_absent_too}
use Rattle.wgr_peers.proofs.peer_table.change.forget_keys.Goals as goal
use Rattle.wgr_peers.proofs.peer_table.change.forget_keys.Goals.{in-Ok, in_default}

abbrev Numbers : Type 0
Numbers = HashMap Key ℕ (BuildHasherDefault FoldHasher)

abbrev get_key : Key → Numbers → Option ℕ
get_key key numbers = get same_key numbers key

pub loop-number-init : goal.loop-number-init
loop-number-init c = record {
  by_key = λ key. c.requires.by_key key ∙ sym (ap (λ (ps : List Peer). key_holder ps key) (filter_all c.args.peers.now));
  room = omega arith;
}

pub loop-number-preserved : goal.loop-number-preserved
loop-number-preserved c =
    let peers = c.args.peers.now in
    let gone = c.args.gone.now in
    let i = c.loop-number.number-index in
    let n = get_or gone i 0 in
    let next = take_next gone i n c.loop-number-test.true (get_or_default gone i 0 n c.loop-number-test.true) in
    let read = λ (key : Key). sym (ap (λ (ks : List ℕ). key_holder (peers_left peers ks) key) next) in
    let held = c.loop-number.invariant.by_key in
    elim c.match-peer_place.branch [
      | in-Ok w ↦
          let p = w.index-peers-place.result in
          let found = search_found peers n w.in-Ok.place p c.requires.numbered w.in-Ok.ensures w.index-peers-place.is in
          record {
            by_key = λ key.
                ap (get_key key) w.numbers-is
                ∙ w.remove.ensures.updates.0 key
                ∙ ap (λ (q : Peer). cond (same_key q.key key) None (get same_key c.loop-number.numbers key)) (sym w.index-peers-place.is)
                ∙ ap (λ (o : Option ℕ). cond (same_key p.key key) None o) (held key)
                ∙ sym (holder_without peers (take i gone) n p key c.requires.numbered c.requires.apart found)
                ∙ read key;
            room = let more = w.remove.ensures.spare in let room = c.loop-number.invariant.room in let is = ap spare w.numbers-is in omega (arith, more, room, is);
          }
      | in_default w ↦
          let none = search_absent peers n w.in_default.field-0 c.requires.numbered w.in_default.ensures in
          record {
            by_key = λ key.
                ap (get_key key) w.numbers-is
                ∙ held key
                ∙ sym (holder_absent_too peers (take i gone) n key c.requires.apart none)
                ∙ read key;
            room = let room = c.loop-number.invariant.room in let is = ap spare w.numbers-is in omega (arith, room, is);
          }
    ]
