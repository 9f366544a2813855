-- What the checks of one line of an adoption tell.
use Rattle.std.proofs.Common.{◌≡◌, ℕ, ◌<◌, ◌≤◌, inl, inr, Bool, true, false, not, ◌&&◌, cond, nat_eq, nat_lt, ◌||◌, List, [], ◌∷◌, length, Option, Some, None, is_some, refl, sym, ap, ◌∙◌, subst, arith}
use Rattle.std.specs.Prelude.{Ok}
use Rattle.std.proofs.lemmas.Bool.Decides.{nat_tests}
use Rattle.wgr_text.specs.declared.key.Key.{Key}
use Rattle.wgr_text.specs.Prefix.{AddrValue, PrefixValue}
use Rattle.wgr_peers.specs.declared.peer.Peer.{Peer}
use Rattle.wgr_pool.specs.PrefixTests.{full}
use Rattle.wgr_pool.specs.Pool.{IsPool}
use Rattle.wgr_pool.specs.Allot.{is_assignable}
use Rattle.wgr_peers.specs.Peers.{is_own, key_holder, peer_of, same_key, AreNumbered, IsNumberedBelow}
use Rattle.wgr_peers.specs.Routes.{route_of}
use Rattle.wgr_core.specs.declared.refusal.Refusal.TheVariants as why
use Rattle.wgr_core.specs.declared.seen_peer.SeenPeer.{SeenPeer}
use Rattle.wgr_core.specs.Network.{NetworkValue, is_address}
use Rattle.wgr_core.specs.Adoption.{named_address, peer_of_line, keyed_peer}
use Rattle.wgr_core.specs.Refusals.{join_refusal, joining_of, place, route_refusal}
use Rattle.wgr_pool.proofs.Lists.{AllPairs-head, AllPairs-tail}
use Rattle.wgr_pool.proofs.Bools.{decide, and_true, or_false}
use Rattle.wgr_pool.proofs.PrefixLemmas.{nat_eq_self}
use Rattle.wgr_peers.proofs.PeerLemmas.{peer_is}
use Rattle.wgr_core.proofs.JoinLemmas.{MayJoin, has_room, is_admitted, place_is_open}
use Rattle.wgr_core.proofs.RoutedKeeps.{no_route_refusal}

-- ---- the peer that has the key

-- the peer that is found stands and has the key
pub record IsKeyed (peers : List Peer) (key : Key) (p : Peer) : Type 0 where
  pub stands : peer_of peers p.number ≡ Some p
  pub has_key : same_key p.key key ≡ true

pub keyed_is : (peers : List Peer) (key : Key) (p : Peer) → AreNumbered peers → keyed_peer peers key ≡ Some p → IsKeyed peers key p
keyed_is [] key p numbered found = cc
keyed_is (q ∷ peers) key p numbered found = elim (decide (same_key q.key key)) [
  | inl here ↦
      let some : Some q ≡ Some p = sym (ap (λ b. cond b (Some q) (keyed_peer peers key)) here) ∙ found in
      let is : q ≡ p = cc in
      subst (IsKeyed (q ∷ peers) key) is (record { stands = ap (λ b. cond b (Some q) (peer_of peers q.number)) (nat_eq_self q.number); has_key = here })
  | inr apart ↦
      let rest = keyed_is peers key p (AllPairs-tail IsNumberedBelow q peers numbered) (sym (ap (λ b. cond b (Some q) (keyed_peer peers key)) apart) ∙ found) in
      let above = (peer_is (IsNumberedBelow q) peers p.number p (AllPairs-head IsNumberedBelow q peers numbered) rest.stands).0 in
      record { stands = ap (λ b. cond b (Some q) (peer_of peers p.number)) (below q.number p.number above) ∙ rest.stands; has_key = rest.has_key }
]
  where
    below : (m n : ℕ) → m < n → nat_eq m n ≡ false
    below m n l = grind (arith, nat_tests)

pub unkeyed : (peers : List Peer) (key : Key) → keyed_peer peers key ≡ None → key_holder peers key ≡ None
unkeyed [] key none = refl
unkeyed (q ∷ peers) key none = elim (decide (same_key q.key key)) [
  | inl here ↦ let bad : Some q ≡ None = sym (ap (λ b. cond b (Some q) (keyed_peer peers key)) here) ∙ none in cc
  | inr apart ↦ ap (λ b. cond b (Some q.number) (key_holder peers key)) apart ∙ unkeyed peers key (sym (ap (λ b. cond b (Some q) (keyed_peer peers key)) apart) ∙ none)
]

-- ---- the peer that joins

pub line_may_join : (n : NetworkValue) (line : SeenPeer) (a : AddrValue) → IsPool n.pool → join_refusal n 0 line.key 0 ≡ None
    → place n n.pool (named_address n.pool line.allowed) ≡ Ok a → MayJoin n (peer_of_line n line a)
line_may_join n line a pool allowed placed =
    let may = is_admitted (joining_of n line.key) 0 line.key 0 allowed in
    record {
      next = refl;
      number_left = may.left;
      key_unheld = may.unheld;
      not_server = may.not_server;
      room = has_room (length n.peers) n.capacity may.room;
      address = place_is_open n (named_address n.pool line.allowed) a pool placed;
      alone = refl;
    }

-- ---- a prefix that leads to the peer

-- what a prefix of a line needs to be led to the peer of a number
pub record MayLead (n : NetworkValue) (p : PrefixValue) (number : ℕ) : Type 0 where
  pub stands : is_some (peer_of n.peers number) ≡ true
  pub no_address : is_address n p ≡ false
  pub room : not (is_some (route_of n.routes p)) && not (nat_lt (length n.routes) 4096) ≡ false

pub may_lead : (n : NetworkValue) (p : PrefixValue) (number : ℕ) → is_some (peer_of n.peers number) ≡ true → route_refusal n p ≡ None → MayLead n p number
may_lead n p number stands allowed =
    let parts = no_route_refusal (is_address n p) (not (is_some (route_of n.routes p)) && not (nat_lt (length n.routes) 4096)) why.IsAddress why.RoutesFull allowed in
    record { stands = stands; no_address = parts.0; room = parts.1 }
