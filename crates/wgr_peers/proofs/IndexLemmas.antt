-- The indexes of a table without one peer, and with one at another address.
use Rattle.std.proofs.Common.{◌≡◌, ℕ, zero, suc, ◌<◌, ◌≤◌, ◌↔◌, Bool, true, false, not, ◌||◌, cond, nat_eq, nat_lt, ◌⊎◌, inl, inr, set, List, [], ◌∷◌, length, get_or, Option, Some, None, Ok, Err, refl, sym, ap, ◌∙◌, subst, arith}
use Rattle.std.specs.List.{All, AllPairs, list_any, remove}
use Rattle.std.specs.HashMap.{HashMap, get}
use Rattle.std.specs.declared.hash.FoldHasher.{FoldHasher}
use Rattle.std.specs.declared.hash.BuildHasherDefault.{BuildHasherDefault}
use Rattle.std.proofs.lemmas.Bool.{cases_eq}
use Rattle.std.proofs.lemmas.Bool.Decides.{nat_tests}
use Rattle.std.proofs.lemmas.List.Elements.{All-filter, All-weaker}
use Rattle.wgr_peers.proofs.HeldLemmas.{held_but, held_moved}
use Rattle.wgr_peers.proofs.PeerLemmas.{any_without, one_first, one_second, AtMostOne}
use Rattle.wgr_text.specs.declared.key.Key.{Key}
use Rattle.wgr_text.specs.declared.prefix.Span.{Span}
use Rattle.wgr_text.specs.Prefix.{AddrValue, IsAddr}
use Rattle.wgr_peers.specs.declared.peer.Peer.{Peer}
use Rattle.wgr_pool.specs.Spans.{IsHeld}
use Rattle.wgr_peers.specs.Ordered.{EndsAt}
use Rattle.wgr_peers.specs.Peers.{is_first, is_second, key_holder, peer_of, put_peer, same_key, without_peer, IsNumberedBelow, AreNumbered, IsApart, AreApart}
use Rattle.wgr_peers.specs.PeerIndex.{EndsFrom, HasAllBut, HasMoved, IsIndexed, IsKeyedAt}
use Rattle.wgr_pool.proofs.Lists.{AllPairs-filter, AllPairs-head, AllPairs-tail}
use Rattle.wgr_pool.proofs.Bools.{decide, not_true}
use Rattle.wgr_pool.proofs.PrefixLemmas.{nat_eq_is}
use Rattle.wgr_peers.proofs.OrderedLemmas.{drop_found, drop_absent, only_there, put_found, put_all, put_pairs}
use Rattle.wgr_peers.proofs.PlaceLemmas.{peers_placed}
use Rattle.wgr_peers.proofs.TableLemmas.{same_key_is, holder_absent, peer_absent, peer_present, keyed_ends, ends_sooner}

abbrev Numbers : Type 0
Numbers = HashMap Key ℕ (BuildHasherDefault FoldHasher)

level : (number : ℕ) (p : Peer) → nat_eq p.number number ≡ true → nat_lt p.number number ≡ false
level number p same = grind (arith, nat_tests)

lead : (number : ℕ) (p q : Peer) → IsNumberedBelow p q → nat_eq q.number number ≡ true → nat_lt p.number number ≡ true
lead number p q l same = grind (arith, nat_tests)

pub peer_removed : (peers : List Peer) (number at : ℕ) → AreNumbered peers → EndsAt (λ (p : Peer). nat_lt p.number number) (λ p. nat_eq p.number number) peers (Ok at) → without_peer peers number ≡ remove peers at
peer_removed peers number at pairs ends = drop_found IsNumberedBelow (λ (p : Peer). nat_lt p.number number) (λ p. nat_eq p.number number) peers at pairs ends (level number) (lead number)

pub key_apart : (q r : Peer) (key : Key) → IsApart q r → same_key q.key key ≡ true → same_key r.key key ≡ false
key_apart q r key apart mine = elim (decide (same_key r.key key)) [
  | inl too ↦ let bad : true ≡ false = sym mine ∙ ap (same_key q.key) (sym (same_key_is r.key key too)) ∙ apart.0 in cc
  | inr other ↦ other
]

pub holder_removed : (peers : List Peer) (at : ℕ) (d : Peer) (key : Key) → AreApart peers → at < length peers → key_holder (remove peers at) key ≡ cond (same_key (get_or peers at d).key key) None (key_holder peers key)
holder_removed [] at d key pairs l = absurd (omega (arith, l))
holder_removed (q ∷ peers) zero d key pairs l = elim (decide (same_key q.key key)) [
  | inl mine ↦
      holder_absent peers key (λ k e h. key_apart q (get_or peers k e) key (AllPairs-head IsApart q peers pairs k e h) mine)
      ∙ sym (ap (λ b. cond b None (cond (same_key q.key key) (Some q.number) (key_holder peers key))) mine)
  | inr other ↦ sym (ap (λ b. cond b None (cond b (Some q.number) (key_holder peers key))) other)
]
holder_removed (q ∷ peers) (suc at) d key pairs l =
    let within : at < length peers = omega (arith, l) in
    let rest = holder_removed peers at d key (AllPairs-tail IsApart q peers pairs) within in
    elim (decide (same_key q.key key)) [
      | inl mine ↦
          let other = key_apart q (get_or peers at d) key (AllPairs-head IsApart q peers pairs at d within) mine in
          ap (λ b. cond b (Some q.number) (key_holder (remove peers at) key)) mine
          ∙ sym (ap (λ b. cond b None (cond (same_key q.key key) (Some q.number) (key_holder peers key))) other ∙ ap (λ b. cond b (Some q.number) (key_holder peers key)) mine)
      | inr apart ↦
          ap (λ b. cond b (Some q.number) (key_holder (remove peers at) key)) apart
          ∙ rest
          ∙ sym (ap (λ b. cond (same_key (get_or peers at d).key key) None (cond b (Some q.number) (key_holder peers key))) apart)
    ]

pub search_found : (peers : List Peer) (number at : ℕ) (p : Peer) → AreNumbered peers → EndsAt (λ (q : Peer). nat_lt q.number number) (λ q. nat_eq q.number number) peers (Ok at) → p ≡ get_or peers at p → peer_of peers number ≡ Some p
search_found peers number at p pairs ends at_is =
    peer_present peers number at p pairs ends.1 (nat_eq_is (get_or peers at p).number number (ends.2 p)) ∙ ap Some (sym at_is)

-- whether one passes without the peer at the place
removed_any : (q : Peer → Bool) (peers : List Peer) (number at : ℕ) (p : Peer) → AreNumbered peers → AtMostOne q peers → EndsAt (λ (x : Peer). nat_lt x.number number) (λ x. nat_eq x.number number) peers (Ok at) → p ≡ get_or peers at p
    → list_any q (remove peers at) ≡ cond (q p) false (list_any q peers)
removed_any q peers number at p numbered one ends at_is =
    ap (list_any q) (sym (peer_removed peers number at numbered ends)) ∙ any_without q peers number p numbered one (search_found peers number at p numbered ends at_is)

pub indexed_removed : (peers : List Peer) (numbers numbers' : Numbers) (runs runs' seconds seconds' : List Span) (soonest number at : ℕ) (p : Peer)
    → IsIndexed peers numbers runs seconds soonest → AreApart peers → EndsAt (λ (q : Peer). nat_lt q.number number) (λ q. nat_eq q.number number) peers (Ok at) → p ≡ get_or peers at p
    → ((key : Key) → get same_key numbers' key ≡ cond (same_key p.key key) None (get same_key numbers key))
    → HasAllBut (is_first p) runs runs' → HasAllBut (is_second p) seconds seconds'
    → IsIndexed (remove peers at) numbers' runs' seconds' soonest
indexed_removed peers numbers numbers' runs runs' seconds seconds' soonest number at p is apart ends at_is by_key but but_second =
    let removed = peer_removed peers number at is.in_order ends in
    record {
      in_order = subst (AllPairs IsNumberedBelow) removed (AllPairs-filter IsNumberedBelow (λ q. not (nat_eq q.number number)) peers is.in_order);
      by_key = λ key.
          by_key key
          ∙ ap (λ (o : Option ℕ). cond (same_key p.key key) None o) (is.by_key key)
          ∙ ap (λ (q : Peer). cond (same_key q.key key) None (key_holder peers key)) at_is
          ∙ sym (holder_removed peers at p key apart ends.1);
      by_address = held_but is_first peers (remove peers at) p runs runs' (λ b. removed_any (λ q. is_first q b) peers number at p is.in_order (one_first peers b apart) ends at_is) is.by_address but;
      by_second = held_but is_second peers (remove peers at) p seconds seconds' (λ b. removed_any (λ q. is_second q b) peers number at p is.in_order (one_second peers b apart) ends at_is) is.by_second but_second;
      ends = subst (All (EndsFrom soonest)) removed (All-filter (λ q. not (nat_eq q.number number)) (EndsFrom soonest) peers is.ends);
    }

pub peer_not_there : (peers : List Peer) (number at : ℕ) → AreNumbered peers → EndsAt (λ (p : Peer). nat_lt p.number number) (λ p. nat_eq p.number number) peers (Err at) → without_peer peers number ≡ peers
peer_not_there peers number at pairs ends = drop_absent IsNumberedBelow (λ (p : Peer). nat_lt p.number number) (λ p. nat_eq p.number number) peers at pairs ends (level number) (lead number)

pub search_absent : (peers : List Peer) (number at : ℕ) → AreNumbered peers → EndsAt (λ (p : Peer). nat_lt p.number number) (λ p. nat_eq p.number number) peers (Err at) → peer_of peers number ≡ None
search_absent peers number at pairs ends = peer_absent peers number (λ k d h. elim (cases_eq k at) [
  | inl here ↦ subst (λ (i : ℕ). nat_eq (get_or peers i d).number number ≡ false) (sym here) (ends.1 d (subst (λ (i : ℕ). i < length peers) here h))
  | inr apart ↦
      not_true (nat_eq (get_or peers k d).number number) (only_there IsNumberedBelow (λ (p : Peer). nat_lt p.number number) (λ p. nat_eq p.number number) peers at pairs ends.0 (level number) (lead number) k d h apart)
])

pub keyed_place : (peers : List Peer) (p : Peer) (at : ℕ) → AreNumbered peers → IsKeyedAt peers p at → put_peer peers p ≡ set peers at p
keyed_place peers p at pairs keyed = put_found (λ q. nat_lt q.number p.number) (λ q. nat_eq q.number p.number) peers p at (keyed_ends peers p at pairs keyed.within keyed.number)

keyed_holder : (peers : List Peer) (p : Peer) (at : ℕ) (key : Key) → ((d : Peer) → (get_or peers at d).number ≡ p.number) → ((d : Peer) → (get_or peers at d).key ≡ p.key) → key_holder (set peers at p) key ≡ key_holder peers key
keyed_holder [] p at key number same = refl
keyed_holder (q ∷ peers) p zero key number same =
    ap (λ k. cond (same_key k key) (Some p.number) (key_holder peers key)) (sym (same q))
    ∙ ap (λ (n : ℕ). cond (same_key q.key key) (Some n) (key_holder peers key)) (sym (number q))
keyed_holder (q ∷ peers) p (suc at) key number same = ap (λ (o : Option ℕ). cond (same_key q.key key) (Some q.number) o) (keyed_holder peers p at key number same)

pub indexed_moved : (peers : List Peer) (numbers : Numbers) (runs runs' seconds seconds' : List Span) (soonest soonest' : ℕ) (p old : Peer) (at : ℕ)
    → IsIndexed peers numbers runs seconds soonest → AreApart peers → IsKeyedAt peers p at → old ≡ get_or peers at old
    → HasMoved (is_first old) (is_first p) runs runs' → HasMoved (is_second old) (is_second p) seconds seconds'
    → soonest' ≤ soonest → EndsFrom soonest' p
    → IsIndexed (set peers at p) numbers runs' seconds' soonest'
indexed_moved peers numbers runs runs' seconds seconds' soonest soonest' p old at is apart keyed at_is with with_second sooner ends =
    let placed = keyed_place peers p at is.in_order keyed in
    let there = keyed_ends peers p at is.in_order keyed.within keyed.number in
    record {
      in_order = subst (AllPairs IsNumberedBelow) placed (put_pairs IsNumberedBelow (λ q. Unit {0}) (λ q. nat_lt q.number p.number) (λ q. nat_eq q.number p.number) peers p (peers_placed p) (λ k d h. tt) is.in_order);
      by_key = λ key. is.by_key key ∙ sym (keyed_holder peers p at key keyed.number keyed.key);
      by_address = held_moved is_first peers p old at runs runs' keyed.within (λ b. removed_any (λ q. is_first q b) peers p.number at old is.in_order (one_first peers b apart) there at_is) is.by_address with;
      by_second = held_moved is_second peers p old at seconds seconds' keyed.within (λ b. removed_any (λ q. is_second q b) peers p.number at old is.in_order (one_second peers b apart) there at_is) is.by_second with_second;
      ends = subst (All (EndsFrom soonest')) placed (put_all (EndsFrom soonest') (λ q. nat_lt q.number p.number) (λ q. nat_eq q.number p.number) peers p (All-weaker (EndsFrom soonest) (EndsFrom soonest') (λ q h. ends_sooner soonest soonest' q sooner h) peers is.ends) ends);
    }
